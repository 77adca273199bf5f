-- A stream is in order in an initial weave, after a post, and in the parts of a weave.
use Rattle.std.proofs.Common.{◌≡◌, ℕ, ◌+◌, ◌*◌, ◌/◌, ◌%◌, ◌<◌, true, List, [], ◌∷◌, ◌++◌, Option, None, Some, Result, Ok, Err, map, length, refl, sym, ◌∙◌, ap, subst, arith, inl, inr}
use Rattle.std.proofs.lemmas.Bool.{cases_eq}
use Rattle.std.proofs.lemmas.List.{append-nil}
use Rattle.std.proofs.lemmas.Option.{slice_get-map, slice_get_within, same_Some}
use Rattle.std.specs.Prelude.{slice_get, option_map}
use Rattle.std.specs.List.{range_with_len}
use Rattle.mely_event.specs.declared.colour.Colour.{Colour}
use Rattle.mely_event.specs.declared.event.Event.{Event}
use Rattle.mely_event.specs.declared.trail.Trail.{Ghosts as TrailWords}
use Rattle.mely_event.specs.declared.unregistered.Unregistered.{Unregistered}
use Rattle.mely_history.specs.declared.registered.Registered.{Registered}
use Rattle.mely_history.specs.declared.setup.Setup.{Setup}
use Rattle.mely_history.specs.Setup.{shape_of, colours_of}
use Rattle.mely_shard.specs.Shard.{ShardState, ColourState, initial_lane, colour_at, place}
use Rattle.mely_worker.specs.declared.phase.Phase.{Phase}
use Rattle.mely_worker.specs.declared.phase.Phase.TheVariants.{Free, Popped, Picked, Landing, Pushing, Turning}
use Rattle.mely_worker.specs.Phase.{is_free}
use Rattle.mely_worker.specs.Worker.{WorkerState}
use Rattle.mely_weave.specs.Drains.{AllFree}
use Rattle.mely_weave.specs.Lanes.{lane_in, lane_for, AreByColour}
use Rattle.mely_weave.specs.Making.{AreInitial, IsInitialWeave}
use Rattle.mely_weave.specs.Side.{shard_of}
use Rattle.mely_weave.specs.StandsWell.{StandsWell}
use Rattle.mely_weave.specs.Weave.{WeaveState}
use Rattle.mely_weave.proofs.Wholes.GatherLemmas.{get_there}
use Rattle.mely_tally.specs.Tallies.{Carried}
use Rattle.mely_order.specs.InOrder.{InOrder, BeginsInOrder, EndsInOrder}
use Rattle.mely_order.specs.Rising.{Rises}
use Rattle.mely_order.specs.Seen.{Put, TurnOut, ColourSeen, turn_in, turns_of, lane_state, lane_events, state_in, puts_in, seen_in, seen, lost_in}
use Rattle.mely_order.specs.Steps.{Enters, PostSeen}
use Rattle.mely_order.specs.Stream.{Stream, numbers_of, numbers_put}
use Rattle.mely_order.proofs.LaneLemmas.{colour_same}
use Rattle.mely_order.proofs.OrderLemmas.{IsGained, Gains, gains_there, gains_apart}
use Rattle.mely_order.proofs.RisingLemmas.{rises_front, rising_all}
use Rattle.mely_order.proofs.SeenLemmas.{flat_none}

-- ---- at first

-- a lane that has a state at home
record HasHome {S P : Type 0} (o : Option (ColourState S P)) (state : S) : Type 0 where
  pub lane : ColourState S P
  pub is : o ≡ Some lane
  pub home : lane.state ≡ Some state

has_home : {S P : Type 0} (o : Option (ColourState S P)) (state : S) → lane_state o ≡ Some state → HasHome o state
has_home None state is = cc
has_home (Some lane) state is = record { lane = lane; is = refl; home = is }

-- a lane of a weave that stands well is of a colour of the setup
lane_within : {S P F : Type 0} (t : TrailWords S F) (fits : F → Colour → Event → Option P → Type 0) (weave : WeaveState S P) → StandsWell t fits weave → (c : Colour) (o : Option (ShardState S P)) (lane : ColourState S P) → slice_get weave.shards (shard_of weave.setup c) ≡ o → lane_in o c ≡ Some lane → c.0 < colours_of weave.setup
lane_within t fits weave well c None lane there is = cc
lane_within t fits weave well c (Some has) lane there is =
    let stands = well.shard (shard_of weave.setup c) has there in
    let same = stands.of_setup in
    let n = (shape_of weave.setup).shards in
    let some = weave.setup.shards_in.0 in
    let within : place has.setup c < length has.lanes = slice_get_within has.lanes (place has.setup c) lane is in
    let low : (colour_at has.setup has.shard (place has.setup c)).0 < colours_of has.setup = stands.kept.only (place has.setup c) within in
    let shape : (colour_at has.setup has.shard (place has.setup c)).0 ≡ (c.0 / n) * n + c.0 % n = ap (λ (s : Setup). (c.0 / (shape_of s).shards) * (shape_of s).shards + has.shard) same ∙ ap (λ (k : ℕ). (c.0 / n) * n + k) stands.numbered in
    let colours : colours_of has.setup ≡ colours_of weave.setup = ap (λ (s : Setup). colours_of s) same in
    omega (arith, some, low, shape, colours)

module _ {S P F : Type 0} (t : TrailWords S F) (fits : F → Colour → Event → Option P → Type 0) (stream : Stream S P) (setup : Setup) (states : List S) (weave : WeaveState S P) (given : AreInitial t setup states) (is : IsInitialWeave setup states weave) (well : StandsWell t fits weave) where
  first_turns : (c : Colour) → turns_of c weave.workers ≡ []
  first_turns c = flat_none (λ (w : WorkerState S P). turn_in c w.phase) weave.workers (λ core w at. ap (λ (x : WorkerState S P). turn_in c x.phase) (is.worker core w at))

  none_lost : lost_in weave ≡ []
  none_lost = flat_none (λ (w : WorkerState S P). w.lost) weave.workers (λ core w at. ap (λ (x : WorkerState S P). x.lost) (is.worker core w at))

  first_seen : (c : Colour) (state : S) → slice_get states c.0 ≡ Some state → seen c weave ≡ seen_in [] (Some (initial_lane state))
  first_seen c state at = ap (λ (l : List (TurnOut S P)). seen_in l (lane_for weave.setup weave.shards c)) (first_turns c) ∙ ap (λ (o : Option (ColourState S P)). seen_in [] o) (is.lane c state at)

  -- whatever state is seen of a colour was given
  first_given : (c : Colour) (state : S) → (seen c weave).state ≡ Some state → slice_get states c.0 ≡ Some state
  first_given c state at =
      let home = has_home (lane_for weave.setup weave.shards c) state (sym (ap (λ (l : List (TurnOut S P)). state_in l (lane_state (lane_for weave.setup weave.shards c))) (first_turns c)) ∙ at) in
      let low = lane_within t fits weave well c (slice_get weave.shards (shard_of weave.setup c)) home.lane refl home.is in
      let all = given.all in
      let colours : colours_of weave.setup ≡ colours_of setup = ap (λ (s : Setup). colours_of s) is.of_setup in
      let there = get_there states c.0 (omega (arith, low, all, colours)) in
      let same : Some there.0 ≡ Some state = sym (ap (λ (s : ColourSeen S P). s.state) (first_seen c there.0 there.1)) ∙ at in
      there.1 ∙ same

  pub begins_in_order : BeginsInOrder stream states → InOrder stream weave
  begins_in_order first =
      let to = first_seen stream.receiver first.receiver first.receiver_is in
      let from = first_seen stream.sender first.sender first.sender_is in
      let had : List ℕ = stream.received first.receiver in
      let line : (seen stream.receiver weave).line ≡ [] = ap (λ (s : ColourSeen S P). s.line) to in
      let puts : (seen stream.sender weave).puts ≡ [] = ap (λ (s : ColourSeen S P). s.puts) from in
      let all : had ++ numbers_of stream (seen stream.receiver weave).line ++ numbers_put stream (seen stream.sender weave).puts ≡ had =
      ap (λ (l : List (Carried P)). had ++ numbers_of stream l ++ numbers_put stream (seen stream.sender weave).puts) line
      ∙ ap (λ (l : List (Put P)). had ++ [] ++ numbers_put stream l) puts
      ∙ append-nil (had ++ []) ∙ append-nil had in
      record {
        receiver = first.receiver;
        receiver_is = ap (λ (s : ColourSeen S P). s.state) to;
        sender = first.sender;
        sender_is = ap (λ (s : ColourSeen S P). s.state) from;
        rises = subst (λ (l : List ℕ). Rises 0 l (stream.sent first.sender)) (sym all) first.rises;
        counted = λ gapless.
            let before = first.counted gapless in
            let there = ap (λ (l : List (Carried P)). length (numbers_of stream l)) line in
            let held = ap (λ (l : List (Put P)). length (numbers_put stream l)) puts in
            let lost = ap (λ (l : List (Put P)). length (numbers_put stream l)) none_lost in
            omega (arith, before, there, held, lost);
        quiet = λ c apart. ap (λ (l : List (TurnOut S P)). numbers_put stream (puts_in l)) (first_turns c);
        sound = λ c state at. first.sound c.0 state (first_given c state at);
      }

-- ---- after a post of what isn't of the stream

module _ {S P : Type 0} (stream : Stream S P) (colour : Colour) (event : Event) (load : Option P) (answer : Result Registered (Unregistered P)) (before after : WeaveState S P) (post : PostSeen colour event load answer before after) (not : numbers_put stream ((colour, event, load) ∷ []) ≡ []) where
  gained : Gains stream (colour, event, load) answer (seen stream.receiver before).line (seen stream.receiver after).line
  gained = elim (cases_eq colour.0 stream.receiver.0) [
    | inl there ↦
        let it = colour_same colour stream.receiver there in
        gains_there stream (colour, event, load) answer (seen stream.receiver before).line (seen stream.receiver after).line there
        (subst (λ (c : Colour). Enters answer (event, load) (seen c before).line (seen c after).line) it post.enters)
    | inr apart ↦ gains_apart stream (colour, event, load) answer (seen stream.receiver before).line (seen stream.receiver after).line apart (post.lines stream.receiver (λ e. apart (sym e)))
  ]

  none_by : (reply : Result Registered (Unregistered P)) (more : List ℕ) → IsGained stream (colour, event, load) reply more → more ≡ []
  none_by (Ok reply) more known = known ∙ not
  none_by (Err back) more known = known

  no_more : gained.more ≡ []
  no_more = none_by answer gained.more gained.known

  pub posted_in_order : InOrder stream before → InOrder stream after
  posted_in_order was =
      let had : List ℕ = stream.received was.receiver in
      let line : numbers_of stream (seen stream.receiver after).line ≡ numbers_of stream (seen stream.receiver before).line =
      gained.line ∙ ap (λ (l : List ℕ). numbers_of stream (seen stream.receiver before).line ++ l) no_more ∙ append-nil (numbers_of stream (seen stream.receiver before).line) in
      let all : had ++ numbers_of stream (seen stream.receiver after).line ++ numbers_put stream (seen stream.sender after).puts ≡ had ++ numbers_of stream (seen stream.receiver before).line ++ numbers_put stream (seen stream.sender before).puts =
      ap (λ (l : List ℕ). had ++ l ++ numbers_put stream (seen stream.sender after).puts) line
      ∙ ap (λ (l : List (Put P)). had ++ numbers_of stream (seen stream.receiver before).line ++ numbers_put stream l) (post.puts stream.sender) in
      record {
        receiver = was.receiver;
        receiver_is = post.states stream.receiver ∙ was.receiver_is;
        sender = was.sender;
        sender_is = post.states stream.sender ∙ was.sender_is;
        rises = subst (λ (l : List ℕ). Rises 0 l (stream.sent was.sender)) (sym all) was.rises;
        counted = λ gapless.
            let counts = was.counted gapless in
            let there = ap length line in
            let held = ap (λ (l : List (Put P)). length (numbers_put stream l)) (post.puts stream.sender) in
            let lost = ap (λ (l : List (Put P)). length (numbers_put stream l)) post.lost in
            omega (arith, counts, there, held, lost);
        quiet = λ c apart. ap (λ (l : List (Put P)). numbers_put stream l) (post.puts c) ∙ was.quiet c apart;
        sound = λ c state at. was.sound c state (sym (post.states c) ∙ at);
      }

-- ---- in the parts

free_turn : {S P : Type 0} (c : Colour) (phase : Phase S P) → is_free phase ≡ true → turn_in c phase ≡ []
free_turn c (Free at) free = refl
free_turn c (Popped mark) free = cc
free_turn c (Picked mark victim) free = cc
free_turn c (Landing mark) free = cc
free_turn c (Pushing core mark) free = cc
free_turn c (Turning turn hand puts) free = cc

module _ {S P : Type 0} (stream : Stream S P) (weave : WeaveState S P) (states : List S) (queued : List (List (Carried P))) (refused : List (Put P)) (was : InOrder stream weave) (free : AllFree weave)
    (homes : AreByColour (λ (lane : ColourState S P). lane.state) weave.setup weave.shards (map (λ (s : S). Some s) states))
    (waits : AreByColour (λ (lane : ColourState S P). lane.events) weave.setup weave.shards queued)
    (lost : refused ≡ lost_in weave) where
  no_turns : (c : Colour) → turns_of c weave.workers ≡ []
  no_turns c = flat_none (λ (w : WorkerState S P). turn_in c w.phase) weave.workers (λ core w at. free_turn c w.phase (free core w at))

  rests : (c : Colour) → seen c weave ≡ seen_in [] (lane_for weave.setup weave.shards c)
  rests c = ap (λ (l : List (TurnOut S P)). seen_in l (lane_for weave.setup weave.shards c)) (no_turns c)

  some_at : (c : Colour) (state : S) → slice_get states c.0 ≡ Some state → slice_get (map (λ (s : S). Some s) states) c.0 ≡ Some (Some state)
  some_at c state at = slice_get-map (λ (s : S). Some s) states c.0 ∙ ap (λ (o : Option S). option_map (λ (s : S). Some s) o) at

  low_at : (c : Colour) (state : S) → slice_get states c.0 ≡ Some state → c.0 < colours_of weave.setup
  low_at c state at =
      let many = homes.many in
      let within = slice_get_within (map (λ (s : S). Some s) states) c.0 (Some state) (some_at c state at) in
      omega (arith, many, within)

  home_at : (c : Colour) (state : S) → (seen c weave).state ≡ Some state → HasHome (lane_for weave.setup weave.shards c) state
  home_at c state is = has_home (lane_for weave.setup weave.shards c) state (sym (ap (λ (s : ColourSeen S P). s.state) (rests c)) ∙ is)

  -- the state in the list is the one that is seen
  one_state : (c : Colour) (state found : S) → (seen c weave).state ≡ Some state → slice_get states c.0 ≡ Some found → found ≡ state
  one_state c state found is at =
      let home = home_at c state is in
      let there : Some (Some found) ≡ Some home.lane.state = sym (some_at c found at) ∙ homes.each c home.lane (low_at c found at) home.is in
      same_Some found state (same_Some (Some found) home.lane.state there ∙ home.home)

  -- and so are the events
  one_line : (c : Colour) (state found : S) (events : List (Carried P)) → (seen c weave).state ≡ Some state → slice_get states c.0 ≡ Some found → slice_get queued c.0 ≡ Some events → (seen c weave).line ≡ events
  one_line c state found events is at there =
      let home = home_at c state is in
      let same : home.lane.events ≡ events = same_Some home.lane.events events (sym (waits.each c home.lane (low_at c found at) home.is) ∙ there) in
      ap (λ (s : ColourSeen S P). s.line) (rests c) ∙ ap (λ (o : Option (ColourState S P)). lane_events o) home.is ∙ same

  line_rises : Rises 0 (stream.received was.receiver ++ numbers_of stream (seen stream.receiver weave).line) (stream.sent was.sender)
  line_rises = rises_front 0 (stream.received was.receiver ++ numbers_of stream (seen stream.receiver weave).line) (numbers_put stream (seen stream.sender weave).puts) (stream.sent was.sender) was.rises

  by_states : (Fact : S → S → Type 0) → Fact was.receiver was.sender → (receiver sender : S) → slice_get states stream.receiver.0 ≡ Some receiver → slice_get states stream.sender.0 ≡ Some sender → Fact receiver sender
  by_states Fact fact receiver sender to from =
      let one = one_state stream.receiver was.receiver receiver was.receiver_is to in
      let other = one_state stream.sender was.sender sender was.sender_is from in
      subst (λ (s : S). Fact s sender) (sym one) (subst (λ (u : S). Fact was.receiver u) (sym other) fact)

  -- the receiver's events that are queued are its line
  line_of : (receiver : S) (events : List (Carried P)) → slice_get states stream.receiver.0 ≡ Some receiver → slice_get queued stream.receiver.0 ≡ Some events → (seen stream.receiver weave).line ≡ events
  line_of receiver events to there = one_line stream.receiver was.receiver receiver events was.receiver_is to there

  received_rises : (receiver sender : S) → slice_get states stream.receiver.0 ≡ Some receiver → slice_get states stream.sender.0 ≡ Some sender → Rises 0 (stream.received receiver) (stream.sent sender)
  received_rises = by_states (λ s u. Rises 0 (stream.received s) (stream.sent u))
      (rises_front 0 (stream.received was.receiver) (numbers_of stream (seen stream.receiver weave).line) (stream.sent was.sender) line_rises)

  ends_counted : stream.is_gapless ≡ true → (receiver sender : S) (events : List (Carried P)) → slice_get states stream.receiver.0 ≡ Some receiver → slice_get states stream.sender.0 ≡ Some sender → slice_get queued stream.receiver.0 ≡ Some events → length (stream.received receiver) + length (numbers_of stream events) + length (numbers_put stream refused) ≡ stream.sent sender
  ends_counted gapless receiver sender events to from there =
      let counts = was.counted gapless in
      let line = ap (λ (l : List (Carried P)). length (numbers_of stream l)) (line_of receiver events to there) in
      let puts = ap (λ (l : List (Put P)). length (numbers_put stream l)) (ap (λ (s : ColourSeen S P). s.puts) (rests stream.sender)) in
      let left = ap (λ (l : List (Put P)). length (numbers_put stream l)) lost in
      by_states (λ s u. length (stream.received s) + length (numbers_of stream events) + length (numbers_put stream refused) ≡ stream.sent u) (omega (arith, counts, line, puts, left)) receiver sender to from

  pub ends_in_order : EndsInOrder stream states queued refused
  ends_in_order = record {
    received = received_rises;
    queued = λ receiver sender events to from there. by_states (λ s u. Rises 0 (stream.received s ++ numbers_of stream events) (stream.sent u))
        (subst (λ (l : List (Carried P)). Rises 0 (stream.received was.receiver ++ numbers_of stream l) (stream.sent was.sender)) (line_of receiver events to there) line_rises)
        receiver sender to from;
    counted = ends_counted;
    whole = λ gapless receiver sender events to from there none kept.
        let counts = ends_counted gapless receiver sender events to from there in
        let nothing = ap length none in
        let nowhere = ap length kept in
        let all : length (stream.received receiver) ≡ stream.sent sender = omega (arith, counts, nothing, nowhere) in
        rising_all 0 (stream.received receiver) (stream.sent sender) (received_rises receiver sender to from) (omega (arith, all)) ∙ ap (range_with_len 1) all;
  }
