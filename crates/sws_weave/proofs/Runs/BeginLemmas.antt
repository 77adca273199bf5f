-- A run begins: the weave of the initial states, and its first event.
use Rattle.std.proofs.Common.{◌≡◌, ℕ, ◌≤◌, Bool, true, false, true≢false, if◌then◌else◌, Option, None, Some, Ok, List, [], ◌∷◌, length, drop, refl, sym, ◌∙◌, ap, subst, arith, inl, inr}
use Rattle.std.proofs.lemmas.Bool.Decides.{eqb_tells}
use Rattle.std.specs.Prelude.{slice_get, ◌==◌, option_map}
use Rattle.mely_event.specs.declared.colour.Colour.{Colour}
use Rattle.mely_event.specs.declared.event.Event.{Event}
use Rattle.mely_event.specs.declared.trail.Trail.{Ghosts as TrailWords}
use Rattle.mely_event.specs.HandlerTable.{rows_of}
use Rattle.mely_history.specs.declared.setup.Setup.{Setup}
use Rattle.mely_history.specs.Setup.{colours_of, handlers_of}
use Rattle.mely_history.specs.declared.registered.Registered.{Registered}
use Rattle.mely_worker.specs.Access.{FitsIn}
use Rattle.mely_weave.specs.Drains.{AllFree}
use Rattle.mely_weave.specs.Making.{AreInitial}
use Rattle.mely_weave.specs.Weave.{WeaveState}
use Rattle.mely_weave.proofs.Wholes.GatherLemmas.{get_there}
use Rattle.mely_tally.specs.Tallies.{states_of, under_way}
use Rattle.mely_tally.specs.Tells.{BeginsAs, PostTells}
use Rattle.sws_link.proofs.CountLemmas.{IsLater-same}
use Rattle.sws_link.specs.Worlds.{Coming}
use Rattle.sws_link.specs.declared.Link.{Ghosts as LinkWords}
use Rattle.sws_link.specs.declared.world.World.{Ghosts as WorldWords}
use Rattle.sws_steps.specs.declared.talk.Talk.{Ghosts as TalkWords}
use Rattle.sws_handlers.specs.declared.load.Load.{Load}
use Rattle.sws_handlers.specs.declared.load.Load.TheVariants as load
use Rattle.sws_handlers.specs.declared.place.Frame.{Frame}
use Rattle.sws_handlers.specs.Place.{PlaceState}
use Rattle.sws_handlers.specs.Loads.{WorldStands, PollFits, Fit, FitsTold}
use Rattle.sws_handlers.specs.Counting.{colours_over}
use Rattle.sws_handlers.specs.Initial.{AreInitialPlacesOver, first_poll, initial_load}
use Rattle.sws_weave.specs.RunFact.{RunFact}
use Rattle.sws_weave.specs.RunStands.{RunStands}
use Rattle.sws_weave.proofs.Runs.SameStandsLemmas.{same_stands}
use Rattle.sws_weave.proofs.Runs.StartLemmas.{places_initial, starts}

framed_as : {W T H : Type 0} (t : TrailWords (PlaceState H W T) (Frame H W)) (world : W) (hall : H) (s : PlaceState H W T) → t.frame_of s ≡ record { hall = s.hall; first = s.first } → s.hall ≡ hall → s.first ≡ world → t.frame_of s ≡ record { hall = hall; first = world }
framed_as {W} {T} {H} t world hall s is same first = is ∙ ap (λ (h : H). let f : Frame H W = record { hall = h; first = s.first } in f) same ∙ ap (λ (w : W). let f : Frame H W = record { hall = hall; first = w } in f) first

same_coming : (coming : Option (List Coming)) → coming ≡ option_map (λ c. drop 0 c) coming
same_coming None = refl
same_coming (Some coming) = refl

-- the states are those of a weave at first
pub are_first : {W L T G H : Type 0} (y : TalkWords T L G H) (world : W) (hall : H) (total : ℕ) (log : Bool) (states : List (PlaceState H W T)) (t : TrailWords (PlaceState H W T) (Frame H W)) (setup : Setup) → AreInitialPlacesOver y world hall total (colours_over total log) states → colours_of setup ≡ colours_over total log
    → ((s : PlaceState H W T) → t.colour_of s ≡ s.colour) → ((s : PlaceState H W T) → t.trail_of s ≡ s.trail) → ((s : PlaceState H W T) → t.frame_of s ≡ record { hall = s.hall; first = s.first }) → AreInitial t setup states
are_first {W} {L} {T} {G} {H} y world hall total log states t setup are many colour_is trail_is frame_is = record {
  all = are.many ∙ sym many;
  coloured = λ i s at. colour_is s ∙ ap (λ (n : ℕ). let c : Colour = record { 0 = n } in c) (are.each i s at).initial.colour;
  untouched = λ i s at. trail_is s ∙ (are.each i s at).untouched;
  one_frame = λ i j a b at there. framed_as t world hall a (frame_is a) (are.each i a at).hall_is (are.each i a at).initial.world ∙ sym (framed_as t world hall b (frame_is b) (are.each j b there).hall_is (are.each j b there).initial.world);
}

first_stands : {W L : Type 0} (x : WorldWords W L) (l : LinkWords L) (world : W) → (x.tells world).accepted ≡ 0 → WorldStands x l world (initial_load world)
first_stands x l world none = record {
  total = refl;
  port = refl;
  scripted = refl;
  accepted = none;
  within = omega arith;
  coming = same_coming (x.tells world).coming;
  faults = IsLater-same (x.faults world);
  failed = λ no_is. cc;
  sure = λ s. refl;
}

fits_at : {W L : Type 0} (x : WorldWords W L) (l : LinkWords L) (world : W) (total : ℕ) (b : Bool) → (total == 0) ≡ b → (x.tells world).total ≡ total → (x.tells world).accepted ≡ 0 → PollFits x l world (record { 0 = 0 }) (if b then 1 else 0) (initial_load world)
fits_at x l world total true is many none = record { colour = refl; known = omega arith; stands = first_stands x l world none; more = λ no_is. cc; failing = λ no_is. cc; sure = λ s. omega arith }
fits_at x l world total false is many none = record {
  colour = refl;
  known = omega arith;
  stands = first_stands x l world none;
  more = λ e. elim (eqb_tells total 0) [ inl same ↦ absurd (true≢false (sym same.0 ∙ is)) | inr apart ↦ (let isnt = apart.1 in omega (arith, many, isnt)) ];
  failing = λ no_is. cc;
  sure = λ s. omega arith;
}

-- the first poll fits
first_fits : {W L : Type 0} (x : WorldWords W L) (l : LinkWords L) (first world : W) (total : ℕ) → first ≡ world → (x.tells world).total ≡ total → (x.tells world).accepted ≡ 0 → Fit x l first (record { 0 = 0 }) (first_poll total) (Some (load.World (initial_load world)))
first_fits {W} {L} x l first world total same many none = subst (λ (w : W). Fit x l w (record { 0 = 0 }) (first_poll total) (Some (load.World (initial_load world)))) (sym same) (fits_at x l world total (total == 0) refl many none)

-- the state that is kept of an initial weave is of the world
pub first_given : {W L T G H : Type 0} (y : TalkWords T L G H) (t : TrailWords (PlaceState H W T) (Frame H W)) (world : W) (hall : H) (total : ℕ) (log : Bool) (states : List (PlaceState H W T)) (weave : WeaveState (PlaceState H W T) (Load W L))
    → BeginsAs t states weave → AreInitialPlacesOver y world hall total (colours_over total log) states → ((s : PlaceState H W T) → t.frame_of s ≡ record { hall = s.hall; first = s.first }) → weave.given.first ≡ world
first_given {W} {L} {T} {G} {H} y t world hall total log states weave begins are frame_is =
    let zero_place = get_there states 0 (let k = are.many in omega (arith, k)) in
    let framed = begins.framed 0 zero_place.0 zero_place.1 in
    ap (λ (f : Frame H W). f.first) (sym (frame_is weave.given)) ∙ ap (λ (f : Frame H W). f.first) (sym framed) ∙ ap (λ (f : Frame H W). f.first) (frame_is zero_place.0) ∙ (are.each 0 zero_place.0 zero_place.1).initial.world

-- and of the hall
pub first_hall : {W L T G H : Type 0} (y : TalkWords T L G H) (t : TrailWords (PlaceState H W T) (Frame H W)) (world : W) (hall : H) (total : ℕ) (log : Bool) (states : List (PlaceState H W T)) (weave after : WeaveState (PlaceState H W T) (Load W L))
    → BeginsAs t states weave → after.given ≡ weave.given → AreInitialPlacesOver y world hall total (colours_over total log) states → ((s : PlaceState H W T) → t.frame_of s ≡ record { hall = s.hall; first = s.first }) → after.given.hall ≡ hall
first_hall {W} {L} {T} {G} {H} y t world hall total log states weave after begins given are frame_is =
    let zero_place = get_there states 0 (let k = are.many in omega (arith, k)) in
    let framed = begins.framed 0 zero_place.0 zero_place.1 in
    ap (λ (s : PlaceState H W T). s.hall) given ∙ ap (λ (f : Frame H W). f.hall) (sym (frame_is weave.given)) ∙ ap (λ (f : Frame H W). f.hall) (sym framed) ∙ ap (λ (f : Frame H W). f.hall) (frame_is zero_place.0) ∙ (are.each 0 zero_place.0 zero_place.1).hall_is

-- a run stands once its first event is posted
pub start_fact : {W L T G H : Type 0} (x : WorldWords W L) (y : TalkWords T L G H) (t : TrailWords (PlaceState H W T) (Frame H W)) (world : W) (hall : H) (total : ℕ) (log : Bool) (states : List (PlaceState H W T)) (weave after : WeaveState (PlaceState H W T) (Load W L)) (event : Event) (reply : Registered)
    → event ≡ first_poll total → BeginsAs t states weave → PostTells event (Some (load.World (initial_load world))) (Ok reply) weave after → after.given ≡ weave.given
    → AreInitialPlacesOver y world hall total (colours_over total log) states → (x.tells world).total ≡ total → ((s : PlaceState H W T) → t.frame_of s ≡ record { hall = s.hall; first = s.first }) → RunFact x y world after
start_fact {W} {L} {T} {G} {H} x y t world hall total log states weave after event reply event_is begins post given are same frame_is =
    let stands = starts y world total log states (places_initial y world hall total log states are) world in
    let moved = same_stands y total states (states_of after) ((first_poll total, Some (load.World (initial_load world))) ∷ []) (under_way after)
    (λ f. post.states f ∙ begins.made.states f)
    (λ g.
    let gains = post.ways g in
    let none = begins.made.ways g in
    let first = ap (λ (e : Event). g (e, Some (load.World (initial_load world)))) event_is in
    omega (arith, gains, none, first))
    stands in
    record {
      stands = subst (λ (n : ℕ). RunStands {W = W} y n (states_of after) (under_way after)) (sym same) moved;
      framed = ap (λ (s : PlaceState H W T). s.first) given ∙ first_given y t world hall total log states weave begins are frame_is;
    }

-- the first event may be posted
pub first_fits_in : {W L T G H : Type 0} (x : WorldWords W L) (l : LinkWords L) (y : TalkWords T L G H) (hall : H) (first world : W) (total : ℕ) (log : Bool) (setup of_weave : Setup) (event : Event) → first ≡ world → of_weave ≡ setup → colours_of setup ≡ colours_over total log → 11 ≤ length (rows_of (handlers_of setup)) → (x.tells world).total ≡ total → (x.tells world).accepted ≡ 0 → event ≡ first_poll total
    → FitsIn (colours_of of_weave) (length (rows_of (handlers_of of_weave))) (FitsTold x l y hall first) (record { 0 = 0 }, event, Some (load.World (initial_load world)))
first_fits_in {W} {L} x l y hall first world total log setup of_weave event same is many rows total_is none event_is = record {
  colour = (let k = ap (λ (s : Setup). colours_of s) is in omega (arith, k, many));
  handler = (let k = ap (λ (s : Setup). length (rows_of (handlers_of s))) is in let e = ap (λ (v : Event). v.handler) event_is in omega (arith, k, rows, e));
  load = (subst (λ (v : Event). Fit x l first (record { 0 = 0 }) v (Some (load.World (initial_load world)))) (sym event_is) (first_fits x l first world total same total_is none), tt);
}

-- a post leaves all workers free
pub free_after : {S P : Type 0} (before after : WeaveState S P) → AllFree before → after.workers ≡ before.workers → AllFree after
free_after before after free same core w at = free core w (ap (λ ws. slice_get ws core) (sym same) ∙ at)
