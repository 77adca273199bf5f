-- Where all runs of the server's handlers have their causes, the log has the lines of each
-- connection that this gave, in their order.
use Rattle.std.proofs.Common.{◌≡◌, ◌≢◌, ℕ, ◌+◌, ◌<◌, Bool, true, List, [], ◌∷◌, Option, Some, map, filter_map, length, refl, sym, ◌∙◌, ap, subst, arith}
use Rattle.std.proofs.lemmas.List.{length-map}
use Rattle.std.specs.Prelude.{slice_get}
use Rattle.std.specs.List.{AllByRecursion, range_with_len}
use Rattle.mely_event.specs.declared.colour.Colour.{Colour}
use Rattle.mely_event.specs.declared.event.Event.{Event}
use Rattle.mely_event.specs.declared.trail.Trail.{Ghosts as TrailWords}
use Rattle.mely_history.specs.Setup.{colours_of}
use Rattle.mely_note.specs.Notes.{loaded_of}
use Rattle.mely_shard.specs.Shard.{ColourState}
use Rattle.mely_tally.specs.Account.{HandlerRun}
use Rattle.mely_weave.specs.Lanes.{AreByColour}
use Rattle.mely_weave.specs.Weave.{WeaveState}
use Rattle.mely_weave.proofs.Wholes.GatherLemmas.{get_there}
use Rattle.mely_worker.specs.declared.app.App.{Ghosts as AppWords}
use Rattle.mely_chain.specs.Runs.{Follow, RunThrough, given_to, puts_of}
use Rattle.mely_chain.proofs.OrderLemmas.{IsRunOn, each_on}
use Rattle.mely_cause.specs.Causes.{Registration, put_first}
use Rattle.mely_cause.specs.Ended.{RanWithCauses}
use Rattle.mely_order.specs.InOrder.{BeginsInOrder}
use Rattle.mely_order.specs.Stream.{Stream, HandlerServes, numbers_put}
use Rattle.sws_link.specs.declared.Link.{Ghosts as LinkWords}
use Rattle.sws_link.specs.declared.world.World.{Ghosts as WorldWords}
use Rattle.sws_steps.specs.declared.talk.Talk.{Ghosts as TalkWords}
use Rattle.sws_handlers.specs.declared.load.Load.{Load}
use Rattle.sws_handlers.specs.declared.place.Frame.{Frame}
use Rattle.sws_handlers.specs.Counting.{colours_over}
use Rattle.sws_engine.specs.CrewLeaves.{first_put}
use Rattle.sws_handlers.specs.Handling.{Put, Runs}
use Rattle.sws_handlers.specs.Initial.{AreInitialPlacesOver, initial_load}
use Rattle.sws_handlers.specs.Loads.{Fit, at_first}
use Rattle.sws_weave.specs.LogStream.{log_stream}
use Rattle.sws_handlers.specs.LogTurns.{turns_of}
use Rattle.sws_handlers.specs.Place.{PlaceState}
use Rattle.sws_weave.specs.RunStands.{at_seat}
use Rattle.sws_weave.proofs.Runs.LogOrderLemmas.{begins_in_order, first_is_no_line, handler_serves}
use Rattle.sws_engine.proofs.Crews.StreamCameLemmas.{ServesAt, all_received, silent_runs}

module _ {W L T G H R : Type 0} (x : WorldWords W L) (l : LinkWords L) (y : TalkWords T L G H) (t : TrailWords (PlaceState H W T) (Frame H W)) (fits : Frame H W → Colour → Event → Option (Load W L) → Type 0) (z : AppWords R (Load W L) (PlaceState H W T) (Frame H W)) (app : R)
    (frame_is : (s : PlaceState H W T) → t.frame_of s ≡ record { hall = s.hall; first = s.first })
    (colour_is : (s : PlaceState H W T) → t.colour_of s ≡ s.colour)
    (fits_is : (frame : Frame H W) (c : Colour) (event : Event) (carried : Option (Load W L)) → fits frame c event carried → Fit x l frame.first c event carried)
    (first : W) (log : Bool)
    (runs_is : (s : PlaceState H W T) (event : Event) (carried : Option (Load W L)) (becomes : PlaceState H W T) (puts : List (Put W L)) → z.runs app s event carried becomes puts → Runs x l y log (at_first x l first).total s event carried becomes puts)
    (hall : H) (firsts states : List (PlaceState H W T)) (weave : WeaveState (PlaceState H W T) (Load W L))
    (ran : RanWithCauses t fits z app weave (first_put {L = L} (at_first x l first).total first) (λ c. slice_get firsts c.0) (λ c. slice_get states c.0))
    (many : colours_of weave.setup ≡ colours_over (at_first x l first).total log)
    (initial : AreInitialPlacesOver y first hall (at_first x l first).total (colours_over (at_first x l first).total log) firsts)
    (homes : AreByColour (λ (lane : ColourState (PlaceState H W T) (Load W L)). lane.state) weave.setup weave.shards (map (λ (s : PlaceState H W T). Some s) states)) where
  abbrev Run : Type 0
  Run = HandlerRun (PlaceState H W T) (Load W L)

  abbrev total : ℕ
  total = (at_first x l first).total

  abbrev begin : Put W L
  begin = first_put total first

  abbrev given : Colour → Option (PlaceState H W T)
  given c = slice_get firsts c.0

  abbrev left : Colour → Option (PlaceState H W T)
  left c = slice_get states c.0

  abbrev frame : Frame H W
  frame = t.frame_of weave.given

  abbrev loaded : Colour → List (Event × Option (Load W L))
  loaded c = loaded_of (ran.order.notes c) c

  abbrev runs : Colour → List Run
  runs c = map (λ run. run.1) (ran.order.by_colour c)

  abbrev IsOn : Colour → Run → Type 0
  IsOn c run = IsRunOn t fits z app weave.setup frame begin given left ran.order.notes ran.order.by_core ran.order.by_colour ran.order.in_order c run

  all_on : (c : Colour) → AllByRecursion (IsOn c) (runs c)
  all_on c = each_on t fits z app weave.setup frame begin given left ran.order.notes ran.order.by_core ran.order.by_colour ran.order.in_order c

  many_states : length states ≡ colours_of weave.setup
  many_states = sym (length-map {B = Option (PlaceState H W T)} states (λ s. Some s)) ∙ homes.many

  given_at : (c : Colour) → c.0 < colours_of weave.setup → (s : PlaceState H W T) × (given c ≡ Some s)
  given_at c low = let places = initial.many in get_there firsts c.0 (omega (arith, low, many, places))

  through : (c : Colour) (from to : PlaceState H W T) → given c ≡ Some from → left c ≡ Some to → RunThrough from (loaded c) to (runs c)
  through c from to from_is to_is = ran.order.in_order.on_colour c from to from_is to_is

  -- ---- the frame

  abbrev zeroth : Colour
  zeroth = record { 0 = 0 }

  framed : (from to : PlaceState H W T) → from.first ≡ first → (some : List Run) → AllByRecursion (IsOn zeroth) some → Follow from some to → (came : List (Registration (Load W L))) → map given_to some ≡ map (λ one. one.event) came → filter_map put_first came ≡ (begin.1, begin.2) ∷ [] → frame.first ≡ first
  framed from to over [] all follow [] are begun = absurd (cc)
  framed from to over [] all follow (one ∷ came) are begun = absurd (cc)
  framed from to over (run ∷ some) all follow came are begun = sym (ap (λ (f : Frame H W). f.first) all.0.0.framed) ∙ ap (λ (s : PlaceState H W T). (t.frame_of s).first) follow.0 ∙ ap (λ (f : Frame H W). f.first) (frame_is from) ∙ over

  -- the first event was run, on the state of colour 0 that was given, so all runs are over its world
  pub over_first : frame.first ≡ first
  over_first =
      let from = given_at zeroth (omega (arith, many)) in
      let to = get_there states 0 (omega (arith, many, many_states)) in
      let chain = through zeroth from.0 to.0 from.1 to.1 in
      framed from.0 to.0 (initial.each 0 from.0 from.1).initial.world (runs zeroth) (all_on zeroth) chain.follow (ran.caused.came zeroth) (chain.given ∙ sym (ran.caused.loads zeroth)) (ran.caused.first zeroth)

  same : (x.tells frame.first).total ≡ total
  same = ap (λ (w : W). (x.tells w).total) over_first

  -- ---- the lines of a connection

  module _ (on : log ≡ true) (i : ℕ) (low : i < total) where
    abbrev stream : Stream (PlaceState H W T) (Load W L)
    stream = log_stream y total i

    one_serves : (c : Colour) (run : Run) → IsOn c run → ServesAt stream c run
    one_serves c run (is, own) sound =
        let at : run.state.colour ≡ c = sym (colour_is run.state) ∙ is.coloured ∙ own in
        let fit : Fit x l frame.first run.state.colour run.event run.load = subst (λ (d : Colour). Fit x l frame.first d run.event run.load) (own ∙ sym at) (fits_is frame run.colour run.event run.load is.fit) in
        let does = subst (λ (b : Bool). Runs x l y b total run.state run.event run.load run.becomes run.puts) on (runs_is run.state run.event run.load run.becomes run.puts is.ran) in
        subst (λ (d : Colour). HandlerServes stream d run.state (run.event, run.load) run.becomes run.puts) at
        (handler_serves x l y frame.first total i low same run.state run.becomes run.event run.load run.puts sound fit does)

    serves : (c : Colour) → AllByRecursion (ServesAt stream c) (runs c)
    serves c = for (runs c) (all_on c) where
      for : (some : List Run) → AllByRecursion (IsOn c) some → AllByRecursion (ServesAt stream c) some
      for [] all = tt
      for (run ∷ some) all = (one_serves c run all.0, for some all.1)

    begins : BeginsInOrder stream firsts
    begins = begins_in_order y first hall total log firsts i on low initial

    -- the runs of no other colour put a line of the connection
    silent : (d : Colour) → d.0 ≢ stream.sender.0 → numbers_put stream (puts_of (runs d)) ≡ []
    silent d apart = for (runs d) (all_on d) refl where
      for : (some : List Run) → AllByRecursion (IsOn d) some → some ≡ runs d → numbers_put stream (puts_of (runs d)) ≡ []
      for [] all is = ap (λ (rs : List Run). numbers_put stream (puts_of rs)) (sym is)
      for (run ∷ some) all is =
          let there = all.0.0.there in
          let own = ap (λ (c : Colour). c.0) all.0.1 in
          let from = given_at d (omega (arith, there, own)) in
          let to = get_there states d.0 (omega (arith, there, own, many_states)) in
          silent_runs stream d to.0 apart from.0 (runs d) (begins.sound d.0 from.0 from.1) (serves d) (through d from.0 to.0 from.1 to.1).follow

    -- so the log has the lines of the connection that this gave, in their order
    pub in_turn : (last place : PlaceState H W T) → slice_get states (total + 2) ≡ Some last → slice_get states (i + 2) ≡ Some place → turns_of i last.lines.came ≡ range_with_len 1 (at_seat (λ seat. (y.view_of seat.talk).lines) place.role)
    in_turn last place last_is place_is =
        all_received stream begin loaded runs ran.caused firsts begins last place (first_is_no_line y total i begin.1 (initial_load first)) refl serves silent
        (through stream.receiver begins.receiver last begins.receiver_is last_is) (through stream.sender begins.sender place begins.sender_is place_is)
