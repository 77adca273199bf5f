-- What was handed out of events that fit: links to which nothing was done,
-- and the world of the run.
use Rattle.std.proofs.Common.{◌≡◌, ℕ, zero, suc, ◌⊎◌, List, [], ◌∷◌, ◌++◌, Option, None, Some, refl, sym, ◌∙◌, ap, subst, inl, inr}
use Rattle.std.proofs.lemmas.Option.{same_Some}
use Rattle.std.specs.List.{AllByRecursion}
use Rattle.std.specs.Prelude.{slice_get, flat_map, IfSome}
use Rattle.mely_event.specs.declared.colour.Colour.{Colour}
use Rattle.mely_event.specs.declared.event.Event.{Event}
use Rattle.mely_queue.specs.Turn.{EachFits}
use Rattle.mely_tally.specs.Tallies.{carried_by}
use Rattle.sws_link.specs.declared.Link.{Ghosts as LinkWords}
use Rattle.sws_link.specs.declared.world.World.{Ghosts as WorldWords}
use Rattle.sws_handlers.specs.declared.ended.Served.{Served}
use Rattle.sws_handlers.specs.declared.load.WorldLoad.{WorldLoad}
use Rattle.sws_handlers.specs.declared.load.Load.{Load}
use Rattle.sws_handlers.specs.declared.load.Load.TheVariants as load
use Rattle.sws_handlers.specs.declared.task.Task.{Task}
use Rattle.sws_steps.specs.declared.Handler.TheVariants as handler
use Rattle.sws_handlers.specs.declared.task.Task.TheVariants as task
use Rattle.sws_handlers.specs.Tasks.{task_of}
use Rattle.sws_handlers.specs.Loads.{Fit, TaskFits, WorldStands, LinkStands}
use Rattle.sws_handlers.specs.Place.{PlaceState}
use Rattle.sws_handlers.specs.Handing.{give_link, place_link, served_with_load, world_with_load, served_with_loads, world_with_loads}
use Rattle.sws_weave.specs.RunFits.{RunFits}
use Rattle.sws_handlers.specs.RunLeaves.{or_else}
use Rattle.sws_handlers.proofs.Events.WaitingListsLemmas.{each_append}

module _ {W L : Type 0} (x : WorldWords W L) (l : LinkWords L) (first : W) where
  abbrev Way : Type 0
  Way = Event × Option (Load W L)

  -- what an event carries: the world of the run, or the link of the connection
  -- to which nothing was done
  abbrev pub CarriesStanding : ℕ → Option (Load W L) → Type 0
  CarriesStanding i None = Unit {0}
  CarriesStanding i (Some (load.World held)) = WorldStands x l first held
  CarriesStanding i (Some (load.Link link)) = LinkStands x l first i link
  CarriesStanding i (Some (load.Line line)) = Unit {0}

  -- what an event that fits carries stands
  carried_by_task : (c : Colour) (arg : ℕ) (which : Option Task) (carried : Option (Load W L)) → TaskFits x l first c arg which carried → CarriesStanding arg carried
  carried_by_task c arg which None fit = tt
  carried_by_task c arg (Some task.Poll) (Some (load.World held)) fit = fit.stands
  carried_by_task c arg (Some task.Accept) (Some (load.World held)) fit = fit.stands
  carried_by_task c arg (Some (task.Step handler.Open)) (Some (load.Link link)) fit = fit.initial
  carried_by_task c arg which (Some (load.Line line)) fit = tt
  carried_by_task c arg None (Some carried) fit = absurd fit
  carried_by_task c arg (Some task.Poll) (Some (load.Link link)) fit = absurd fit
  carried_by_task c arg (Some task.Wait) (Some (load.World held)) fit = absurd fit
  carried_by_task c arg (Some task.Wait) (Some (load.Link link)) fit = absurd fit
  carried_by_task c arg (Some task.Accept) (Some (load.Link link)) fit = absurd fit
  carried_by_task c arg (Some (task.Step handler.Open)) (Some (load.World held)) fit = absurd fit
  carried_by_task c arg (Some (task.Step handler.Read)) (Some (load.World held)) fit = absurd fit
  carried_by_task c arg (Some (task.Step handler.Read)) (Some (load.Link link)) fit = absurd fit
  carried_by_task c arg (Some (task.Step handler.Parse)) (Some (load.World held)) fit = absurd fit
  carried_by_task c arg (Some (task.Step handler.Parse)) (Some (load.Link link)) fit = absurd fit
  carried_by_task c arg (Some (task.Step handler.Look)) (Some (load.World held)) fit = absurd fit
  carried_by_task c arg (Some (task.Step handler.Look)) (Some (load.Link link)) fit = absurd fit
  carried_by_task c arg (Some (task.Step handler.Write)) (Some (load.World held)) fit = absurd fit
  carried_by_task c arg (Some (task.Step handler.Write)) (Some (load.Link link)) fit = absurd fit
  carried_by_task c arg (Some (task.Step handler.Close)) (Some (load.World held)) fit = absurd fit
  carried_by_task c arg (Some (task.Step handler.Close)) (Some (load.Link link)) fit = absurd fit
  carried_by_task c arg (Some (task.Step handler.Resume)) (Some (load.World held)) fit = absurd fit
  carried_by_task c arg (Some (task.Step handler.Resume)) (Some (load.Link link)) fit = absurd fit
  carried_by_task c arg (Some task.Log) (Some (load.World held)) fit = absurd fit
  carried_by_task c arg (Some task.Log) (Some (load.Link link)) fit = absurd fit

  abbrev WayStands : Way → Type 0
  WayStands e = CarriesStanding e.0.arg e.1

  way_stands : (c : Colour) (e : Way) → Fit x l first c e.0 e.1 → WayStands e
  way_stands c e fit = carried_by_task c e.0.arg (task_of e.0.handler) e.1 fit

  queue_stands : (c : Colour) (events : List Way) → EachFits (Fit x l first c) events → AllByRecursion WayStands events
  queue_stands c [] fit = tt
  queue_stands c (e ∷ events) fit = (way_stands c e fit.0, queue_stands c events fit.1)

  -- the queues from a colour on
  queues_stand : (n : ℕ) (queued : List (List Way)) → ((i : ℕ) (events : List Way) → slice_get queued i ≡ Some events → (c : Colour) × EachFits (Fit x l first c) events) → AllByRecursion WayStands (flat_map (λ events. events) queued)
  queues_stand n [] fit = tt
  queues_stand n (events ∷ queued) fit =
      let here = fit 0 events refl in
      each_append WayStands events (flat_map (λ events. events) queued) (queue_stands here.0 events here.1) (queues_stand n queued (λ i other at. fit (suc i) other at))

  lost_stand : (lost : List (Colour × Event × Option (Load W L))) → AllByRecursion (λ put. Fit x l first put.0 put.1 put.2) lost → AllByRecursion WayStands (carried_by lost)
  lost_stand [] fit = tt
  lost_stand (put ∷ lost) fit = (way_stands put.0 (put.1, put.2) fit.0, lost_stand lost fit.1)

  -- so all of it stands
  pub ways_stand : {H T : Type 0} (hall : H) (states : List (PlaceState H W T)) (queued : List (List Way)) (lost : List (Colour × Event × Option (Load W L))) → RunFits x l first hall states queued lost → AllByRecursion (λ (e : Way). CarriesStanding e.0.arg e.1) (flat_map (λ events. events) queued ++ carried_by lost)
  ways_stand hall states queued lost fits =
      each_append WayStands (flat_map (λ events. events) queued) (carried_by lost) (queues_stand 0 queued (λ i events at. (let c : Colour = record { 0 = i } in (c, fits.queued c events at)))) (lost_stand lost fits.lost)

  -- the world that is found is the one of the run
  world_load : (i : ℕ) (carried : Option (Load W L)) (world : Option (WorldLoad W)) → CarriesStanding i carried → IfSome world (WorldStands x l first) → IfSome (world_with_load carried world) (WorldStands x l first)
  world_load i None world carries stands = stands
  world_load i (Some (load.World held)) world carries stands = carries
  world_load i (Some (load.Link link)) world carries stands = stands
  world_load i (Some (load.Line line)) world carries stands = stands

  pub world_stands : (events : List Way) (world : Option (WorldLoad W)) → AllByRecursion (λ (e : Way). CarriesStanding e.0.arg e.1) events → IfSome world (WorldStands x l first) → IfSome (world_with_loads events world) (WorldStands x l first)
  world_stands [] world all stands = stands
  world_stands (e ∷ events) world all stands = world_stands events (world_with_load e.1 world) all.1 (world_load e.0.arg e.1 world all.0 stands)

  -- a connection is as it was, or it had no link and got its own
  pub record GotLink (i : ℕ) (before after : Served L) : Type 0 where
    pub none : before.link ≡ None
    pub link : L
    pub initial : LinkStands x l first i link
    pub becomes : after ≡ record before { link = Some link }

  pub record IsGiven (i : ℕ) (served : List (Served L)) (after : Served L) : Type 0 where
    pub before : Served L
    pub there : slice_get served i ≡ Some before
    pub given : (after ≡ before) ⊎ GotLink i before after

  give_one : (i : ℕ) (link : L) (s : Served L) (o : Option L) → s.link ≡ o → LinkStands x l first i link → (give_link link s ≡ s) ⊎ GotLink i s (give_link link s)
  give_one i link s None is initial = inr (record { none = is; link = link; initial = initial; becomes = ap (λ (o : Option L). record s { link = or_else o (Some link) }) is })
  give_one i link s (Some own) is initial = inl (ap (λ (o : Option L). record s { link = or_else o (Some link) }) is ∙ sym (ap (λ (o : Option L). record s { link = o }) is))

  -- `k` is the number of the first of them
  place_given : (k i at : ℕ) (link : L) (served : List (Served L)) (after : Served L) → (at ≡ i → LinkStands x l first k link) → slice_get (place_link link at served) i ≡ Some after → (before : Served L) × (slice_get served i ≡ Some before) × ((after ≡ before) ⊎ GotLink k before after)
  place_given k i at link [] after initial is = cc
  place_given k zero zero link (s ∷ served) after initial is =
      let same : give_link link s ≡ after = same_Some (give_link link s) after is in
      (s, refl, elim (give_one k link s s.link refl (initial refl)) [ inl stays ↦ inl (sym same ∙ stays) | inr got ↦ inr (subst (λ (a : Served L). GotLink k s a) same got) ])
  place_given k (suc i) zero link (s ∷ served) after initial is = (after, is, inl refl)
  place_given k zero (suc at) link (s ∷ served) after initial is = (after, is, inl refl)
  place_given k (suc i) (suc at) link (s ∷ served) after initial is = place_given k i at link served after (λ same. initial (ap suc same)) is

  load_given : (i at : ℕ) (carried : Option (Load W L)) (served : List (Served L)) (after : Served L) → CarriesStanding at carried → slice_get (served_with_load at carried served) i ≡ Some after → IsGiven i served after
  load_given i at None served after carries is = record { before = after; there = is; given = inl refl }
  load_given i at (Some (load.World held)) served after carries is = record { before = after; there = is; given = inl refl }
  load_given i at (Some (load.Line line)) served after carries is = record { before = after; there = is; given = inl refl }
  load_given i at (Some (load.Link link)) served after carries is =
      let one = place_given i i at link served after (λ same. subst (λ n. LinkStands x l first n link) same carries) is in
      record { before = one.0; there = one.1; given = one.2 }

  onward : (i : ℕ) (a b c : Served L) → (b ≡ a) ⊎ GotLink i a b → (c ≡ b) ⊎ GotLink i b c → (c ≡ a) ⊎ GotLink i a c
  onward i a b c (inl same) (inl also) = inl (also ∙ same)
  onward i a b c (inl same) (inr got) = inr (subst (λ (s : Served L). GotLink i s c) same got)
  onward i a b c (inr got) (inl same) = inr (subst (λ (s : Served L). GotLink i a s) (sym same) got)
  onward i a b c (inr got) (inr again) = let both : Some got.link ≡ None = sym (ap (λ (s : Served L). s.link) got.becomes) ∙ again.none in cc

  pub served_given : (i : ℕ) (events : List Way) (served : List (Served L)) (after : Served L) → AllByRecursion (λ (e : Way). CarriesStanding e.0.arg e.1) events → slice_get (served_with_loads events served) i ≡ Some after → IsGiven i served after
  served_given i [] served after all is = record { before = after; there = is; given = inl refl }
  served_given i (e ∷ events) served after all is =
      let later = served_given i events (served_with_load e.0.arg e.1 served) after all.1 is in
      let sooner = load_given i e.0.arg e.1 served later.before all.0 later.there in
      record { before = sooner.before; there = sooner.there; given = onward i sooner.before later.before after sooner.given later.given }
