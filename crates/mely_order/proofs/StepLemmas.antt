-- What a step of a weave changes of what is seen of its colours.
use Rattle.std.proofs.Common.{◌≡◌, ◌≢◌, ℕ, zero, suc, Bool, true, false, List, [], ◌∷◌, ◌++◌, Option, None, Some, Result, Ok, Err, take, drop, refl, sym, ◌∙◌, ap, subst, arith, inl, inr}
use Rattle.std.proofs.lemmas.Bool.{cases_eq}
use Rattle.std.proofs.lemmas.List.{append_assoc, take-append-drop}
use Rattle.std.proofs.lemmas.Option.{same_Some}
use Rattle.std.specs.Prelude.{slice_get, slice_set}
use Rattle.mely_event.specs.declared.colour.Colour.{Colour}
use Rattle.mely_event.specs.declared.event.Event.{Event}
use Rattle.mely_event.specs.declared.mark.Mark.{Mark}
use Rattle.mely_event.specs.declared.trail.Trail.{Ghosts as TrailWords}
use Rattle.mely_event.specs.declared.unregistered.Unregistered.{Unregistered}
use Rattle.mely_history.specs.declared.entry.Entry.{Entry}
use Rattle.mely_history.specs.declared.registered.Registered.{Registered}
use Rattle.mely_history.specs.declared.no_take.NoTake.{NoTake}
use Rattle.mely_history.specs.declared.no_take.NoTake.TheVariants as no_take
use Rattle.mely_history.specs.declared.no_steal.NoSteal.{NoSteal}
use Rattle.mely_history.specs.declared.no_steal.NoSteal.TheVariants as no_steal
use Rattle.mely_history.specs.declared.stolen.Stolen.{Stolen}
use Rattle.mely_history.specs.declared.after.After.{After}
use Rattle.mely_history.specs.declared.after.After.TheVariants.{More, Idle}
use Rattle.mely_history.specs.History.{IsRunning, last_take}
use Rattle.mely_queue.specs.Turn.{TurnState, EachFits}
use Rattle.mely_shard.specs.Shard.{ShardState, ColourState}
use Rattle.mely_core.specs.CoreQueue.{CoreQueueState}
use Rattle.mely_worker.specs.declared.phase.Phase.{Phase}
use Rattle.mely_worker.specs.declared.phase.Phase.TheVariants.{Free, Popped, Picked, Landing, Pushing, Turning}
use Rattle.mely_worker.specs.declared.delivery.Delivery.{Delivery}
use Rattle.mely_worker.specs.declared.delivery.Delivery.TheVariants.{Nothing, PushMark, Report}
use Rattle.mely_worker.specs.declared.made.Made.{Made}
use Rattle.mely_worker.specs.declared.app.App.{Ghosts as AppWords}
use Rattle.mely_worker.specs.Worker.{WorkerState}
use Rattle.mely_worker.specs.Delivery.{delivery_after}
use Rattle.mely_worker.specs.Conditions.{MayTurn, PhaseMayStep}
use Rattle.mely_worker.specs.Step.{Runs, Steps, StepsFrom, StepsTurning, StepsPuts, StepsTurn, StepsFree, StepsHunt, in_phase, register_name, after_register, after_finish, after_take, after_steal, after_pop, after_pick}
use Rattle.mely_weave.specs.Lanes.{lane_for}
use Rattle.mely_weave.specs.Side.{SideState, shard_of, history_in, history_for, readiness_for}
use Rattle.mely_weave.specs.Calls.{AtShard, AtChain, IsOut, RegisterAs, TakeAs, FinishAs, StealAs, side_words}
use Rattle.mely_weave.specs.StandsWell.{side_of, PhaseIsTold, StandsWell}
use Rattle.mely_weave.specs.Weave.{WeaveState}
use Rattle.mely_weave.specs.Steps.{StepsAt}
use Rattle.mely_weave.proofs.Runs.SidedStepLemmas.{step_on_side}
use Rattle.mely_tally.proofs.SumsLemmas.{around}
use Rattle.mely_order.specs.Seen.{Put, TurnOut, ColourSeen, turn_in, turns_of, lane_state, lane_events, state_in, left_in, puts_in, seen_in, seen, lost_in}
use Rattle.mely_order.specs.Steps.{Enters, IsKept, NothingSeen, RegistersFirst, RunsFirst, StepSeen}
use Rattle.mely_order.proofs.LaneLemmas.{colour_same, lanes_stay, lane_before, lane_after, lanes_beside, lanes_entered, enters_behind}
use Rattle.mely_order.proofs.SeenLemmas.{flat_same, IsAlone, turn_own, turn_other, turns_before, turns_after, turns_stay, seen_equal}

module _ {R S P F : Type 0} (t : TrailWords S F) (fits : F → Colour → Event → Option P → Type 0) (y : AppWords R P S F) (app : R) (weave : WeaveState S P) (well : StandsWell t fits weave) (k : ℕ) (w : WorkerState S P) (here : slice_get weave.workers k ≡ Some w) (b : SideState S P) (v : WorkerState S P) (made : Made) where
  abbrev a : SideState S P
  a = side_of weave k

  -- the weave after the step
  abbrev after : WeaveState S P
  after = record { setup = b.setup; given = b.given; shards = b.shards; chains = b.chains; workers = slice_set weave.workers k v }

  abbrev Same : Type 0
  Same = (c : Colour) → seen c after ≡ seen c weave

  -- nothing more is refused
  lost_stays : v.lost ≡ w.lost → lost_in after ≡ lost_in weave
  lost_stays same = flat_same (λ (x : WorkerState S P). x.lost) weave.workers k w v here same

  unseen : Same → v.lost ≡ w.lost → NothingSeen weave after
  unseen same lost = record { each = same; lost = lost_stays lost }

  lost_of : (u : WorkerState S P) → v ≡ u → u.lost ≡ w.lost → v.lost ≡ w.lost
  lost_of u is same = ap (λ (x : WorkerState S P). x.lost) is ∙ same

  abbrev Alone : Colour → Type 0
  Alone c = IsAlone c weave.workers k w v here

  may_turn : (j : ℕ) (u : WorkerState S P) → slice_get weave.workers j ≡ Some u → (turn : TurnState S P) (hand : Delivery) (puts : List (Put P)) → u.phase ≡ Turning turn hand puts → MayTurn t fits weave.setup j (t.frame_of weave.given) (IsOut (side_of weave j)) turn hand puts
  may_turn j u at turn hand puts phase = subst (PhaseMayStep t fits weave.setup j (t.frame_of weave.given) (IsOut (side_of weave j))) phase (well.worker j u at).may.phase

  turn_core : (j : ℕ) (u : WorkerState S P) → slice_get weave.workers j ≡ Some u → (turn : TurnState S P) (hand : Delivery) (puts : List (Put P)) → u.phase ≡ Turning turn hand puts → turn.core ≡ j
  turn_core j u at turn hand puts phase = (subst (λ (p : Phase S P). PhaseIsTold weave.setup (readiness_for weave.setup weave.shards) j p) phase (well.worker j u at).told).0

  -- two workers that turn on one colour are one
  one_turns : (j : ℕ) (u : WorkerState S P) → slice_get weave.workers j ≡ Some u → (turn other : TurnState S P) (hand hand' : Delivery) (puts puts' : List (Put P)) → w.phase ≡ Turning turn hand puts → u.phase ≡ Turning other hand' puts' → other.colour.0 ≡ turn.colour.0 → j ≡ k
  one_turns j u at turn other hand hand' puts puts' mine phase same =
      let runs = (may_turn k w here turn hand puts mine).of_turn.owed.runs.last in
      let there = (may_turn j u at other hand' puts' phase).of_turn.owed.runs.last in
      let one = colour_same other.colour turn.colour same in
      let both : Some (other.core, other.count) ≡ Some (turn.core, turn.count) = sym there ∙ ap (λ (c : Colour). last_take (history_for weave.setup weave.shards c) c) one ∙ runs in
      let core : other.core ≡ turn.core = ap (λ (p : ℕ × ℕ). p.0) (same_Some (other.core, other.count) (turn.core, turn.count) both) in
      sym (turn_core j u at other hand' puts' phase) ∙ core ∙ turn_core k w here turn hand puts mine

  -- so no other worker has a turn of the colour that this one turns on
  turning_alone : (turn : TurnState S P) (hand : Delivery) (puts : List (Put P)) → w.phase ≡ Turning turn hand puts → Alone turn.colour
  turning_alone turn hand puts mine j u apart at = by_phase u.phase refl where
    by_phase : (phase : Phase S P) → u.phase ≡ phase → turn_in turn.colour phase ≡ []
    by_phase (Free place) is = refl
    by_phase (Popped mark) is = refl
    by_phase (Picked mark victim) is = refl
    by_phase (Landing mark) is = refl
    by_phase (Pushing core mark) is = refl
    by_phase (Turning other hand' puts') is = elim (cases_eq other.colour.0 turn.colour.0) [
      | inl same ↦ absurd (apart (one_turns j u at turn other hand hand' puts puts' mine is same))
      | inr unlike ↦ turn_other turn.colour other hand' puts' unlike
    ]

  -- and none has one of a colour that rests
  resting_alone : (c : Colour) → (IsRunning (history_for weave.setup weave.shards c) c → ⊥) → Alone c
  resting_alone c rests j u apart at = by_phase u.phase refl where
    by_phase : (phase : Phase S P) → u.phase ≡ phase → turn_in c phase ≡ []
    by_phase (Free place) is = refl
    by_phase (Popped mark) is = refl
    by_phase (Picked mark victim) is = refl
    by_phase (Landing mark) is = refl
    by_phase (Pushing core mark) is = refl
    by_phase (Turning other hand' puts') is = elim (cases_eq other.colour.0 c.0) [
      | inl same ↦
          let runs = (may_turn j u at other hand' puts' is).of_turn.owed.runs.running in
          absurd (rests (subst (λ (d : Colour). IsRunning (history_for weave.setup weave.shards d) d) (colour_same other.colour c same) runs))
      | inr unlike ↦ turn_other c other hand' puts' unlike
    ]

  -- a colour of which neither the turn nor the lane changes
  seen_stays : (c : Colour) → turn_in c v.phase ≡ turn_in c w.phase → lane_for b.setup b.shards c ≡ lane_for weave.setup weave.shards c → seen c after ≡ seen c weave
  seen_stays c turns lane =
      ap (λ (l : List (TurnOut S P)). seen_in l (lane_for b.setup b.shards c)) (turns_stay c weave.workers k w v here turns)
      ∙ ap (λ (o : Option (ColourState S P)). seen_in (turns_of c weave.workers) o) lane

  -- a line on a chain
  chain_same : (core : ℕ) (Does : CoreQueueState → CoreQueueState → Type 0) (u : WorkerState S P) → v ≡ u → u.lost ≡ w.lost → AtChain a b core Does → ((c : Colour) → turn_in c u.phase ≡ turn_in c w.phase) → NothingSeen weave after
  chain_same core Does u is lost at turns = unseen (λ c.
      (seen_stays c (ap (λ (x : WorkerState S P). turn_in c x.phase) is ∙ turns c) (ap (λ (s : SideState S P). lane_for s.setup s.shards c) at.becomes))) (lost_of u is lost)

  -- no shard changes, nor what the worker turns on
  worker_same : (u : WorkerState S P) → v ≡ u → u.lost ≡ w.lost → b ≡ a → ((c : Colour) → turn_in c u.phase ≡ turn_in c w.phase) → NothingSeen weave after
  worker_same u is lost untouched turns = unseen (λ c.
      (seen_stays c (ap (λ (x : WorkerState S P). turn_in c x.phase) is ∙ turns c) (ap (λ (s : SideState S P). lane_for s.setup s.shards c) untouched))) (lost_of u is lost)

  -- the shard of a colour is of the setup
  of_setup : (c : Colour) (has : ShardState S P) → slice_get weave.shards (shard_of weave.setup c) ≡ Some has → has.setup ≡ weave.setup
  of_setup c has there = (well.shard (shard_of weave.setup c) has there).of_setup

  -- a phase without a turn
  abbrev NoTurn : Phase S P → Type 0
  NoTurn phase = (c : Colour) → turn_in c phase ≡ []

  -- ---- a finish: the state comes home

  finish_phase : (turn : TurnState S P) (answer : After) → NoTurn (after_finish w turn.colour answer).phase
  finish_phase turn (More started worth) c = refl
  finish_phase turn Idle c = refl

  finish_lost : (turn : TurnState S P) (answer : After) → (after_finish w turn.colour answer).lost ≡ w.lost
  finish_lost turn (More started worth) = refl
  finish_lost turn Idle = refl

  module _ (turn : TurnState S P) (hand : Delivery) (answer : After) (phase : w.phase ≡ Turning turn hand []) (none : turn.events ≡ []) (is : v ≡ after_finish w turn.colour answer) (at : AtShard a b turn.colour (FinishAs turn answer)) where
    finish_before : ColourState S P
    finish_before = at.does.0.before

    finish_setup : at.old.setup ≡ weave.setup
    finish_setup = of_setup turn.colour at.old at.was

    finish_none : NoTurn v.phase
    finish_none c = ap (λ (x : WorkerState S P). turn_in c x.phase) is ∙ finish_phase turn answer c

    finish_own : seen turn.colour after ≡ seen turn.colour weave
    finish_own =
        let does = at.does.0 in
        let z = turn.colour in
        let out : TurnOut S P = record { turn = turn; puts = [] } in
        let home : ColourState S P = record does.before { state = Some turn.state } in
        let alone = turning_alone turn hand [] phase in
        let was_turns : turns_of z weave.workers ≡ out ∷ [] = turns_before z weave.workers k w v here alone ∙ ap (turn_in z) phase ∙ turn_own z turn hand [] refl in
        let is_turns : turns_of z (slice_set weave.workers k v) ≡ [] = turns_after z weave.workers k w v here alone ∙ finish_none z in
        let was_lane = lane_before a b z (FinishAs turn answer) at finish_setup does.after.same_setup does.before home does.was does.after.lanes in
        let is_lane = lane_after a b z (FinishAs turn answer) at finish_setup does.after.same_setup does.before home does.was does.after.lanes in
        let was : seen z weave ≡ seen_in (out ∷ []) (Some does.before) = ap (λ (l : List (TurnOut S P)). seen_in l (lane_for weave.setup weave.shards z)) was_turns ∙ ap (λ (o : Option (ColourState S P)). seen_in (out ∷ []) o) was_lane in
        let now : seen z after ≡ seen_in [] (Some home) = ap (λ (l : List (TurnOut S P)). seen_in l (lane_for b.setup b.shards z)) is_turns ∙ ap (λ (o : Option (ColourState S P)). seen_in [] o) is_lane in
        let line : does.before.events ≡ turn.events ++ does.before.events = sym (ap (λ l. l ++ does.before.events) none) in
        now ∙ seen_equal (seen_in (out ∷ []) (Some does.before)) (seen_in [] (Some home)) refl line refl ∙ sym was

    finish_same : Same
    finish_same c = elim (cases_eq c.0 turn.colour.0) [
      | inl same ↦ subst (λ (d : Colour). seen d after ≡ seen d weave) (sym (colour_same c turn.colour same)) finish_own
      | inr apart ↦
          let does = at.does.0 in
          let was : turn_in c w.phase ≡ [] = ap (turn_in c) phase ∙ turn_other c turn hand [] (λ e. apart (sym e)) in
          (seen_stays c (finish_none c ∙ sym was) (lanes_beside a b turn.colour (FinishAs turn answer) at finish_setup does.after.same_setup does.before (record does.before { state = Some turn.state }) does.was does.after.lanes c apart))
    ]

  -- ---- a take: the state and the first events go out

  module _ (mark : Mark) (turn : TurnState S P) (phase : w.phase ≡ Popped mark) (is : v ≡ after_take w mark (Ok turn)) (at : AtShard a b mark.colour (TakeAs mark.colour k (Ok turn))) where
    taken_colour : turn.colour ≡ mark.colour
    taken_colour = ap (λ (x : TurnState S P). x.colour) at.does.made

    taken_setup : at.old.setup ≡ weave.setup
    taken_setup = of_setup mark.colour at.old at.was

    taken_alone : Alone mark.colour
    taken_alone = resting_alone mark.colour (λ runs.
        let rest = at.does.allowed.ready.at_rest in
        let now : IsRunning at.old.history mark.colour = subst (λ (h : List Entry). IsRunning h mark.colour) (ap history_in at.was) runs in
        omega (arith, rest, now))

    taken_own : seen mark.colour after ≡ seen mark.colour weave
    taken_own =
        let does = at.does in
        let z = mark.colour in
        let out : TurnOut S P = record { turn = turn; puts = [] } in
        let away : ColourState S P = record does.before { state = None; events = drop turn.count does.before.events } in
        let was_turns : turns_of z weave.workers ≡ [] = turns_before z weave.workers k w v here taken_alone ∙ ap (turn_in z) phase in
        let is_turns : turns_of z (slice_set weave.workers k v) ≡ out ∷ [] = turns_after z weave.workers k w v here taken_alone ∙ ap (λ (x : WorkerState S P). turn_in z x.phase) is ∙ turn_own z turn Nothing [] (ap (λ (c : Colour). c.0) taken_colour) in
        let was_lane = lane_before a b z (TakeAs mark.colour k (Ok turn)) at taken_setup does.after.same_setup does.before away does.was does.after.lanes in
        let is_lane = lane_after a b z (TakeAs mark.colour k (Ok turn)) at taken_setup does.after.same_setup does.before away does.was does.after.lanes in
        let was : seen z weave ≡ seen_in [] (Some does.before) = ap (λ (l : List (TurnOut S P)). seen_in l (lane_for weave.setup weave.shards z)) was_turns ∙ ap (λ (o : Option (ColourState S P)). seen_in [] o) was_lane in
        let now : seen z after ≡ seen_in (out ∷ []) (Some away) = ap (λ (l : List (TurnOut S P)). seen_in l (lane_for b.setup b.shards z)) is_turns ∙ ap (λ (o : Option (ColourState S P)). seen_in (out ∷ []) o) is_lane in
        let first : turn.events ≡ take turn.count does.before.events = ap (λ (x : TurnState S P). x.events) does.made in
        let line : turn.events ++ drop turn.count does.before.events ≡ does.before.events = ap (λ l. l ++ drop turn.count does.before.events) first ∙ take-append-drop turn.count does.before.events in
        let home : Some turn.state ≡ does.before.state = ap (λ (x : TurnState S P). let one : Option S = Some x.state in one) does.made ∙ sym does.at_home in
        now ∙ seen_equal (seen_in [] (Some does.before)) (seen_in (out ∷ []) (Some away)) home line refl ∙ sym was

    taken_same : Same
    taken_same c = elim (cases_eq c.0 mark.colour.0) [
      | inl same ↦ subst (λ (d : Colour). seen d after ≡ seen d weave) (sym (colour_same c mark.colour same)) taken_own
      | inr apart ↦
          let does = at.does in
          let unlike : turn.colour.0 ≢ c.0 = λ e. apart (sym e ∙ ap (λ (d : Colour). d.0) taken_colour) in
          let now : turn_in c v.phase ≡ [] = ap (λ (x : WorkerState S P). turn_in c x.phase) is ∙ turn_other c turn Nothing [] unlike in
          (seen_stays c (now ∙ sym (ap (turn_in c) phase)) (lanes_beside a b mark.colour (TakeAs mark.colour k (Ok turn)) at taken_setup does.after.same_setup does.before (record does.before { state = None; events = drop turn.count does.before.events }) does.was does.after.lanes c apart))
    ]

  -- a take that is refused: no lane changes
  untaken_phase : (mark : Mark) (why : NoTake) → NoTurn (after_take w mark (Err why)).phase
  untaken_phase mark (no_take.Elsewhere owner) c = refl
  untaken_phase mark (no_take.Busy core) c = refl
  untaken_phase mark (no_take.Empty registered) c = refl
  untaken_phase mark no_take.Memory c = refl

  untaken_same : (mark : Mark) (why : NoTake) → w.phase ≡ Popped mark → v ≡ after_take w mark (Err why) → AtShard a b mark.colour (TakeAs mark.colour k (Err why)) → Same
  untaken_same mark why phase is at c =
      seen_stays c (ap (λ (x : WorkerState S P). turn_in c x.phase) is ∙ untaken_phase mark why c ∙ sym (ap (turn_in c) phase))
      (lanes_stay a b mark.colour (TakeAs mark.colour k (Err why)) at (of_setup mark.colour at.old at.was) at.does.0.same_setup at.does.0.lanes c)

  untaken_lost : (mark : Mark) (why : NoTake) → (after_take w mark (Err why)).lost ≡ w.lost
  untaken_lost mark (no_take.Elsewhere owner) = refl
  untaken_lost mark (no_take.Busy core) = refl
  untaken_lost mark (no_take.Empty registered) = refl
  untaken_lost mark no_take.Memory = refl

  take_same : (mark : Mark) (answer : Result (TurnState S P) NoTake) → w.phase ≡ Popped mark → v ≡ after_take w mark answer → AtShard a b mark.colour (TakeAs mark.colour k answer) → NothingSeen weave after
  take_same mark (Ok turn) phase is at = unseen (taken_same mark turn phase is at) (lost_of (after_take w mark (Ok turn)) is refl)
  take_same mark (Err why) phase is at = unseen (untaken_same mark why phase is at) (lost_of (after_take w mark (Err why)) is (untaken_lost mark why))

  -- ---- a steal: no lane changes

  steal_phase : (mark : Mark) (victim : ℕ) (answer : Result Stolen NoSteal) → NoTurn (after_steal w mark victim answer).phase
  steal_phase mark victim (Ok stolen) c = refl
  steal_phase mark victim (Err no_steal.Memory) c = refl
  steal_phase mark victim (Err (no_steal.Pinned colour)) c = refl
  steal_phase mark victim (Err no_steal.Own) c = refl
  steal_phase mark victim (Err (no_steal.Busy core)) c = refl
  steal_phase mark victim (Err (no_steal.Empty registered)) c = refl
  steal_phase mark victim (Err (no_steal.Cheap worth)) c = refl

  steal_lost : (mark : Mark) (victim : ℕ) (answer : Result Stolen NoSteal) → (after_steal w mark victim answer).lost ≡ w.lost
  steal_lost mark victim (Ok stolen) = refl
  steal_lost mark victim (Err no_steal.Memory) = refl
  steal_lost mark victim (Err (no_steal.Pinned colour)) = refl
  steal_lost mark victim (Err no_steal.Own) = refl
  steal_lost mark victim (Err (no_steal.Busy core)) = refl
  steal_lost mark victim (Err (no_steal.Empty registered)) = refl
  steal_lost mark victim (Err (no_steal.Cheap worth)) = refl

  steal_setup : (c : Colour) (to : ℕ) (answer : Result Stolen NoSteal) (old new : ShardState S P) → StealAs c to answer old new → new.setup ≡ old.setup
  steal_setup c to (Ok stolen) old new does = does.same_setup
  steal_setup c to (Err why) old new does = does.0.same_setup

  steal_lanes : (c : Colour) (to : ℕ) (answer : Result Stolen NoSteal) (old new : ShardState S P) → StealAs c to answer old new → new.lanes ≡ old.lanes
  steal_lanes c to (Ok stolen) old new does = does.lanes
  steal_lanes c to (Err why) old new does = does.0.lanes

  steal_same : (mark : Mark) (victim : ℕ) (answer : Result Stolen NoSteal) → w.phase ≡ Picked mark victim → v ≡ after_steal w mark victim answer → AtShard a b mark.colour (StealAs mark.colour k answer) → NothingSeen weave after
  steal_same mark victim answer phase is at = unseen (λ c.
      (seen_stays c (ap (λ (x : WorkerState S P). turn_in c x.phase) is ∙ steal_phase mark victim answer c ∙ sym (ap (turn_in c) phase))
      (lanes_stay a b mark.colour (StealAs mark.colour k answer) at (of_setup mark.colour at.old at.was) (steal_setup mark.colour k answer at.old at.new at.does) (steal_lanes mark.colour k answer at.old at.new at.does) c))) (lost_of (after_steal w mark victim answer) is (steal_lost mark victim answer))

  -- ---- a registration: the event enters a line, and the turn has one less left

  -- turns that have the same state and the same events left
  record TurnsAlike (before later : List (TurnOut S P)) : Type 0 where
    pub state : (home : Option S) → state_in later home ≡ state_in before home
    pub left : left_in later ≡ left_in before

  register_phase : (turn : TurnState S P) (put : Put P) (rest : List (Put P)) (answer : Result Registered (Unregistered P)) → (hand : Delivery) × ((after_register w turn rest put answer).phase ≡ Turning turn hand rest)
  register_phase turn put rest (Ok reply) = (delivery_after put.0 reply, refl)
  register_phase turn put rest (Err back) = (Nothing, refl)

  register_kept : (turn : TurnState S P) (put : Put P) (rest : List (Put P)) (answer : Result Registered (Unregistered P)) → v ≡ after_register w turn rest put answer → IsKept answer put (lost_in weave) (lost_in after)
  register_kept turn put rest (Ok reply) is = lost_stays (lost_of (after_register w turn rest put (Ok reply)) is refl)
  register_kept turn put rest (Err back) is =
      let it = around (λ (x : WorkerState S P). x.lost) weave.workers k w here in
      let more : v.lost ≡ w.lost ++ put ∷ [] = ap (λ (x : WorkerState S P). x.lost) is in (
        it.front ++ w.lost,
        it.back,
        it.was,
        it.set v ∙ ap (λ (l : List (Put P)). it.front ++ l ++ it.back) more ∙ ap (λ (l : List (Put P)). l ++ it.back) (sym (append_assoc it.front w.lost (put ∷ []))),
      )

  module _ (turn : TurnState S P) (put : Put P) (rest : List (Put P)) (answer : Result Registered (Unregistered P)) (phase : w.phase ≡ Turning turn Nothing (put ∷ rest)) (is : v ≡ after_register w turn rest put answer) (at : AtShard a b put.0 (RegisterAs put.0 put.1 put.2 k answer)) (named : made ≡ register_name put.0 answer) where
    held_out : TurnOut S P
    held_out = record { turn = turn; puts = put ∷ rest }

    left_out : TurnOut S P
    left_out = record { turn = turn; puts = rest }

    now_phase : (hand : Delivery) × (v.phase ≡ Turning turn hand rest)
    now_phase = let p = register_phase turn put rest answer in (p.0, ap (λ (x : WorkerState S P). x.phase) is ∙ p.1)

    register_alone : Alone turn.colour
    register_alone = turning_alone turn Nothing (put ∷ rest) phase

    turns_held : turns_of turn.colour weave.workers ≡ held_out ∷ []
    unfolding held_out
    turns_held = turns_before turn.colour weave.workers k w v here register_alone ∙ ap (turn_in turn.colour) phase ∙ turn_own turn.colour turn Nothing (put ∷ rest) refl

    turns_left : turns_of turn.colour (slice_set weave.workers k v) ≡ left_out ∷ []
    unfolding left_out
    turns_left = turns_after turn.colour weave.workers k w v here register_alone ∙ ap (turn_in turn.colour) now_phase.1 ∙ turn_own turn.colour turn now_phase.0 rest refl

    turns_beside : (c : Colour) → c.0 ≢ turn.colour.0 → turns_of c (slice_set weave.workers k v) ≡ turns_of c weave.workers
    turns_beside c apart =
        let unlike : turn.colour.0 ≢ c.0 = λ e. apart (sym e) in
        turns_stay c weave.workers k w v here
        (ap (turn_in c) now_phase.1 ∙ turn_other c turn now_phase.0 rest unlike ∙ sym (ap (turn_in c) phase ∙ turn_other c turn Nothing (put ∷ rest) unlike))

    alike_own : TurnsAlike (turns_of turn.colour weave.workers) (turns_of turn.colour (slice_set weave.workers k v))
    unfolding held_out left_out
    alike_own = record {
      state = λ home. ap (λ (l : List (TurnOut S P)). state_in l home) turns_left ∙ sym (ap (λ (l : List (TurnOut S P)). state_in l home) turns_held);
      left = ap (λ (l : List (TurnOut S P)). left_in l) turns_left ∙ sym (ap (λ (l : List (TurnOut S P)). left_in l) turns_held);
    }

    turns_alike : (c : Colour) → TurnsAlike (turns_of c weave.workers) (turns_of c (slice_set weave.workers k v))
    turns_alike c = elim (cases_eq c.0 turn.colour.0) [
      | inl same ↦ subst (λ (d : Colour). TurnsAlike (turns_of d weave.workers) (turns_of d (slice_set weave.workers k v))) (sym (colour_same c turn.colour same)) alike_own
      | inr apart ↦ record {
        state = λ home. ap (λ (l : List (TurnOut S P)). state_in l home) (turns_beside c apart);
        left = ap (λ (l : List (TurnOut S P)). left_in l) (turns_beside c apart);
      }
    ]

    register_seen : RegistersFirst made weave after
    unfolding held_out left_out
    register_seen =
        let lanes = lanes_entered a b put k answer at (of_setup put.0 at.old at.was) in
        record {
          by = turn.colour;
          put = put;
          rest = rest;
          answer = answer;
          named = named;
          first = ap (λ (l : List (TurnOut S P)). puts_in l) turns_held;
          left = ap (λ (l : List (TurnOut S P)). puts_in l) turns_left;
          enters = subst (λ (l : List (Event × Option P)). Enters answer (put.1, put.2) (seen put.0 weave).line (l ++ lane_events (lane_for b.setup b.shards put.0))) (sym (turns_alike put.0).left)
              (enters_behind (left_in (turns_of put.0 weave.workers)) answer (put.1, put.2) (lane_events (lane_for weave.setup weave.shards put.0)) (lane_events (lane_for b.setup b.shards put.0)) lanes.enters);
          states = λ c. (turns_alike c).state (lane_state (lane_for b.setup b.shards c)) ∙ ap (λ (o : Option S). state_in (turns_of c weave.workers) o) (lanes.home c);
          lines = λ c apart. ap (λ (l : List (Event × Option P)). l ++ lane_events (lane_for b.setup b.shards c)) (turns_alike c).left ∙ ap (λ (o : Option (ColourState S P)). left_in (turns_of c weave.workers) ++ lane_events o) (lanes.others c apart);
          others = λ c apart. ap (λ (l : List (TurnOut S P)). puts_in l) (turns_beside c apart);
          lost = register_kept turn put rest answer is;
        }

  -- ---- a handler: the first event of the line is run

  module _ (turn : TurnState S P) (event : Event × Option P) (rest : List (Event × Option P)) (phase : w.phase ≡ Turning turn Nothing []) (some : turn.events ≡ event ∷ rest) (runs : Runs (side_words t (λ _. Unit {0})) y app a w made b v turn event rest) where
    ran_turn : TurnState S P
    ran_turn = record turn { state = runs.state; events = rest }

    run_seen : RunsFirst t fits y app made weave after
    unfolding ran_turn
    run_seen =
        let z = turn.colour in
        let may = (may_turn k w here turn Nothing [] phase).of_turn in
        let fit = subst (λ (l : List (Event × Option P)). EachFits (fits (t.frame_of weave.given) turn.colour) l) some may.events_fit in
        let alone = turning_alone turn Nothing [] phase in
        let out : TurnOut S P = record { turn = turn; puts = [] } in
        let next : TurnOut S P = record { turn = ran_turn; puts = runs.puts } in
        let now : v.phase ≡ Turning ran_turn Nothing runs.puts = ap (λ (x : WorkerState S P). x.phase) runs.becomes in
        let was_turns : turns_of z weave.workers ≡ out ∷ [] = turns_before z weave.workers k w v here alone ∙ ap (turn_in z) phase ∙ turn_own z turn Nothing [] refl in
        let is_turns : turns_of z (slice_set weave.workers k v) ≡ next ∷ [] = turns_after z weave.workers k w v here alone ∙ ap (turn_in z) now ∙ turn_own z ran_turn Nothing runs.puts refl in
        let lanes : (c : Colour) → lane_for b.setup b.shards c ≡ lane_for weave.setup weave.shards c = λ c. ap (λ (s : SideState S P). lane_for s.setup s.shards c) runs.untouched in
        let was : seen z weave ≡ seen_in (out ∷ []) (lane_for weave.setup weave.shards z) = ap (λ (l : List (TurnOut S P)). seen_in l (lane_for weave.setup weave.shards z)) was_turns in
        let is : seen z after ≡ seen_in (next ∷ []) (lane_for weave.setup weave.shards z) = ap (λ (l : List (TurnOut S P)). seen_in l (lane_for b.setup b.shards z)) is_turns ∙ ap (λ (o : Option (ColourState S P)). seen_in (next ∷ []) o) (lanes z) in
        record {
          of = z;
          state = turn.state;
          event = event;
          becomes = runs.state;
          puts = runs.puts;
          named = runs.named;
          ran = runs.ran;
          colour = may.of_colour;
          frame = may.of_frame;
          fit = fit.0;
          was = ap (λ (s : ColourSeen S P). s.state) was;
          is = ap (λ (s : ColourSeen S P). s.state) is;
          first = ap (λ (s : ColourSeen S P). s.line) was ∙ ap (λ (l : List (Event × Option P)). l ++ lane_events (lane_for weave.setup weave.shards z)) some ∙ ap (λ l. event ∷ l) (sym (ap (λ (s : ColourSeen S P). s.line) is));
          none_left = ap (λ (s : ColourSeen S P). s.puts) was;
          put = ap (λ (s : ColourSeen S P). s.puts) is;
          others = λ c apart.
              let unlike : turn.colour.0 ≢ c.0 = λ e. apart (sym e) in
              (seen_stays c (ap (turn_in c) now ∙ turn_other c ran_turn Nothing runs.puts unlike ∙ sym (ap (turn_in c) phase ∙ turn_other c turn Nothing [] unlike)) (lanes c));
          lost = lost_stays (ap (λ (x : WorkerState S P). x.lost) runs.becomes);
        }

  -- ---- the line that applies

  abbrev Line_seen : Type 0
  Line_seen = StepSeen t fits y app made weave after

  turn_seen : (turn : TurnState S P) (left : List (Event × Option P)) → w.phase ≡ Turning turn Nothing [] → turn.events ≡ left → StepsTurn (side_words t (λ _. Unit {0})) y app a w made b v turn left → Line_seen
  turn_seen turn [] phase none line = inl (unseen (finish_same turn Nothing line.answer phase none line.becomes line.called) (lost_of (after_finish w turn.colour line.answer) line.becomes (finish_lost turn line.answer)))
  turn_seen turn (event ∷ rest) phase some line = inr (inr (run_seen turn event rest phase some line))

  puts_seen : (turn : TurnState S P) (puts : List (Put P)) → w.phase ≡ Turning turn Nothing puts → StepsPuts (side_words t (λ _. Unit {0})) y app a w made b v turn puts → Line_seen
  puts_seen turn [] phase line = turn_seen turn turn.events phase refl line
  puts_seen turn (put ∷ rest) phase line = inr (inl (register_seen turn put rest line.answer phase line.becomes line.called line.named))

  turning_seen : (turn : TurnState S P) (hand : Delivery) (puts : List (Put P)) → w.phase ≡ Turning turn hand puts → StepsTurning (side_words t (λ _. Unit {0})) y app a w made b v turn hand puts → Line_seen
  turning_seen turn Nothing puts phase line = puts_seen turn puts phase line
  turning_seen turn (PushMark core mark) puts phase line = inl (chain_same core _ (in_phase w (Turning turn Nothing puts)) line.becomes refl line.called (λ c. sym (ap (turn_in c) phase)))
  turning_seen turn (Report core colour started worth) puts phase line = inl (chain_same core _ (in_phase w (Turning turn Nothing puts)) line.becomes refl line.called (λ c. sym (ap (turn_in c) phase)))

  pop_phase : (answer : Option Mark) → NoTurn (after_pop w answer).phase
  pop_phase (Some mark) c = refl
  pop_phase None c = refl

  pick_phase : (place victim : ℕ) (answer : Option Mark) → NoTurn (after_pick w place victim answer).phase
  pick_phase place victim (Some mark) c = refl
  pick_phase place victim None c = refl

  pop_lost : (answer : Option Mark) → (after_pop w answer).lost ≡ w.lost
  pop_lost (Some mark) = refl
  pop_lost None = refl

  pick_lost : (place victim : ℕ) (answer : Option Mark) → (after_pick w place victim answer).lost ≡ w.lost
  pick_lost place victim (Some mark) = refl
  pick_lost place victim None = refl

  hunt_seen : (place : ℕ) (victim : Option ℕ) → w.phase ≡ Free place → StepsHunt (side_words t (λ _. Unit {0})) y app a w made b v place victim → Line_seen
  hunt_seen place (Some victim) phase line = inl (chain_same victim _ (after_pick w place victim line.answer) line.becomes (pick_lost place victim line.answer) line.called (λ c. pick_phase place victim line.answer c ∙ sym (ap (turn_in c) phase)))
  hunt_seen place None phase line = absurd line

  free_seen : (halted : Bool) (place : ℕ) → w.phase ≡ Free place → StepsFree (side_words t (λ _. Unit {0})) y app a w made b v halted place → Line_seen
  free_seen true place phase line = inl (worker_same w line.1 refl line.0 (λ c. refl))
  free_seen false zero phase line = inl (chain_same k _ (after_pop w line.answer) line.becomes (pop_lost line.answer) line.called (λ c. pop_phase line.answer c ∙ sym (ap (turn_in c) phase)))
  free_seen false (suc n) phase line = hunt_seen (suc n) (slice_get w.victims n) phase line

  phase_seen : (phase : Phase S P) → w.phase ≡ phase → StepsFrom (side_words t (λ _. Unit {0})) y app a w made b v phase → Line_seen
  phase_seen (Turning turn hand puts) is line = turning_seen turn hand puts is line
  phase_seen (Pushing core mark) is line = inl (chain_same core _ (in_phase w (Free 0)) line.becomes refl line.called (λ c. sym (ap (turn_in c) is)))
  phase_seen (Popped mark) is line = inl (take_same mark line.answer is line.becomes line.called)
  phase_seen (Picked mark victim) is line = inl (steal_same mark victim line.answer is line.becomes line.called)
  phase_seen (Landing mark) is line = inl (chain_same w.core _ (in_phase w (Free 0)) line.becomes refl line.called (λ c. sym (ap (turn_in c) is)))
  phase_seen (Free place) is line = free_seen w.halted place is line

  line_seen : Steps (side_words t (λ _. Unit {0})) y app a w made b v → Line_seen
  line_seen line = phase_seen w.phase refl line

-- a step goes by the lines
pub step_seen : {R S P F : Type 0} (t : TrailWords S F) (fits : F → Colour → Event → Option P → Type 0) (y : AppWords R P S F) (app : R) (before later : WeaveState S P) (core : ℕ) (made : Made) → StandsWell t fits before → StepsAt t y app before core made later → StepSeen t fits y app made before later
step_seen {S = S} {P = P} t fits y app before later core made well at =
    let line = line_seen t fits y app before well core at.worker at.was at.side at.becomes made (step_on_side t y app (side_of before core) at.side at.worker at.becomes made at.steps) in
    subst (λ (l : WeaveState S P). StepSeen t fits y app made before l) (sym at.leaves) line
