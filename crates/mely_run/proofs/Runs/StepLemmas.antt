-- A step of a weave is the machine's, where its handler puts what the function says, and what
-- changes of what the app has: one walk over the worker's rule.
use Rattle.std.proofs.Common.{◌≡◌, ◌≢◌, ◌<◌, ◌+◌, ℕ, zero, suc, Bool, true, false, List, [], ◌∷◌, Option, None, Some, Result, Ok, Err, refl, sym, ap, subst, ◌∙◌}
use Rattle.std.specs.Prelude.{slice_get, slice_set, IsPermutation}
use Rattle.std.proofs.lemmas.List.{map-set}
use Rattle.mely_event.specs.declared.colour.Colour.{Colour}
use Rattle.mely_event.specs.declared.event.Event.{Event}
use Rattle.mely_event.specs.declared.mark.Mark.{Mark}
use Rattle.mely_event.specs.declared.unregistered.Unregistered.{Unregistered}
use Rattle.mely_event.specs.declared.trail.Trail.{Ghosts as TrailWords}
use Rattle.mely_history.specs.declared.registered.Registered.{Registered}
use Rattle.mely_history.specs.declared.no_take.NoTake.{NoTake}
use Rattle.mely_history.specs.declared.no_take.NoTake.TheVariants as no_take
use Rattle.mely_history.specs.declared.no_steal.NoSteal.{NoSteal}
use Rattle.mely_history.specs.declared.no_steal.NoSteal.TheVariants as no_steal
use Rattle.mely_history.specs.declared.stolen.Stolen.{Stolen}
use Rattle.mely_history.specs.declared.after.After.{After}
use Rattle.mely_history.specs.declared.after.After.TheVariants.{More, Idle}
use Rattle.mely_history.specs.Setup.{shape_of}
use Rattle.mely_queue.specs.Turn.{TurnState}
use Rattle.mely_core.specs.CoreQueue.{CoreQueueState}
use Rattle.mely_worker.specs.declared.phase.Phase.{Phase}
use Rattle.mely_worker.specs.declared.phase.Phase.TheVariants as at
use Rattle.mely_worker.specs.declared.delivery.Delivery.{Delivery}
use Rattle.mely_worker.specs.declared.delivery.Delivery.TheVariants.{Nothing, PushMark, Report}
use Rattle.mely_worker.specs.declared.made.Made.{Made}
use Rattle.mely_worker.specs.declared.made.Made.TheVariants as names
use Rattle.mely_worker.specs.declared.app.App.{Ghosts as AppWords}
use Rattle.mely_worker.specs.Access.{IsColour, events_of}
use Rattle.mely_worker.specs.Worker.{WorkerState}
use Rattle.mely_worker.specs.Step.{Line, Steps, StepsFrom, StepsTurning, StepsPuts, StepsTurn, StepsFree, StepsHunt, in_phase, after_register, after_finish, after_take, after_steal, after_pop, after_pick, register_name, take_name, steal_name}
use Rattle.mely_weave.specs.Side.{SideState, shard_of, readiness_for}
use Rattle.mely_weave.specs.Calls.{AtShard, AtChain, RegisterAs, TakeAs, StealAs, PushAs, weave_words}
use Rattle.mely_weave.specs.StandsWell.{side_of, PhaseIsTold, StandsWell, WasntRefused}
use Rattle.mely_weave.specs.Weave.{WeaveState}
use Rattle.mely_weave.specs.Steps.{with_workers}
use Rattle.mely_weave.specs.Drains.{NoneHalted}
use Rattle.mely_weave.proofs.Entries.SideLemmas.{get_map, each_set}
use Rattle.mely_weave.proofs.Lines.LineLemmas.{own, told}
use Rattle.mely_machine.specs.Rules.{Rules, rules_of}
use Rattle.mely_machine.specs.Listing.{Listed, first_to_steal}
use Rattle.mely_machine.specs.Machine.{Acts, Doing, Free, Popped, Picked, Turning, Machine, list_at}
use Rattle.mely_machine.specs.MachineStep.{step_from, step_of, step_turning, step_puts, step_turn, step_free, step_hunt, step_pop, step_pick, step}
use Rattle.mely_run.specs.Corresponds.{worker_doing, doing_of, without_loads, IsShown, Corresponds}
use Rattle.mely_run.specs.Pieces.{Piece, of_lanes, of_worker, pieces}
use Rattle.mely_run.proofs.Lines.FollowsLemmas.{Follows, push_line, report_line, pop_line, pick_line, register_line, finish_line, take_line, steal_line, same_line}
use Rattle.mely_run.proofs.Pieces.MovesLemmas.{next, shard_same}
use Rattle.mely_run.proofs.Pieces.ChangesLemmas.{Changed, moved, ran, becomes_by, PutsTold}
use Rattle.mely_run.proofs.Pieces.HandingLemmas.{chain_still, held_in, may, register_moves, finish_moves, take_moves, run_moves}

module _ {S P F R X : Type 0} (t : TrailWords S F) (fits : F → Colour → Event → Option P → Type 0) (weave : WeaveState S P) (well : StandsWell t fits weave) (k : ℕ) (w : WorkerState S P) (here : slice_get weave.workers k ≡ Some w) (low : k < (shape_of weave.setup).cores)
    (going_all : NoneHalted weave) (m : Machine X) (y : AppWords R P S F) (app : R) (act : Acts X)
    (made : Made) (b : SideState S P) (v : WorkerState S P) (accepted : WasntRefused made) (no_want : made ≢ names.Memory) where
  abbrev rules : Rules
  rules = rules_of weave.setup

  abbrev from : SideState S P
  from = side_of weave k

  -- the pieces that an app has after the step
  abbrev left_with : WorkerState S P → List (Piece S P)
  left_with u = pieces (next t fits weave well k w here low b u)

  abbrev Change : WorkerState S P → Type 0
  Change u = Changed t fits y app (t.frame_of weave.given) (pieces weave) (left_with u)

  -- the worker and the machine that a step leaves: what changes of what the app has, and, where
  -- what was put is what the function says, the machine goes on as the weave does
  record Goes (u : WorkerState S P) (n : Machine X) : Type 0 where
    pub change : Change u
    pub going : u.halted ≡ false
    pub follows : (is : Corresponds weave m) → PutsTold t fits y app (t.frame_of weave.given) act (pieces weave) (left_with u) m.app change → Follows t fits weave well k w here low m is b u n
    pub becomes : n.app ≡ becomes_by t fits y app (t.frame_of weave.given) act (pieces weave) (left_with u) m.app change

  -- a worker that isn't halted
  awake : w.halted ≡ false
  awake = going_all k w here

  -- what each answer does that wasn't refused, the line does
  carried : {Answer : Type 0} (Called : Answer → Type 0) (then : Answer → WorkerState S P) (name : Answer → Made) (n : Machine X) → ((answer : Answer) → Called answer → WasntRefused (name answer) → name answer ≢ names.Memory → Goes (then answer) n)
      → Line Called then name made v → Goes v n
  carried Called then name n goes line =
      subst (λ (u : WorkerState S P). Goes u n) (sym line.becomes)
      (goes line.answer line.called (subst WasntRefused line.named accepted) (λ e. no_want (line.named ∙ e)))

  -- the pieces only move
  goes_still : (u : WorkerState S P) (n : Machine X) → IsPermutation (pieces weave) (left_with u) → ((is : Corresponds weave m) → Follows t fits weave well k w here low m is b u n) → u.halted ≡ w.halted → n.app ≡ m.app → Goes u n
  goes_still u n order follows same_halted same = record { change = moved order; going = same_halted ∙ awake; follows = λ is told. follows is; becomes = same }

  -- a chain changes, and no piece moves
  chain_order : (u : WorkerState S P) (core : ℕ) (Does : CoreQueueState → CoreQueueState → Type 0) → AtChain from b core Does → of_worker u ≡ of_worker w → IsPermutation (pieces weave) (left_with u)
  chain_order = chain_still t fits weave well k w here low b

  -- a worker in this phase has these pieces
  has : (phase : Phase S P) → w.phase ≡ phase → of_worker w ≡ of_worker (in_phase w phase)
  has phase is_at = held_in t fits weave well k w here low b phase is_at

  -- who isn't halted isn't after an answer
  finish_same : (c : Colour) (answer : After) → (after_finish w c answer).halted ≡ w.halted
  finish_same c (More started worth) = refl
  finish_same c Idle = refl

  pop_same : (answer : Option Mark) → (after_pop w answer).halted ≡ w.halted
  pop_same None = refl
  pop_same (Some mark) = refl

  pick_same : (place victim : ℕ) (answer : Option Mark) → (after_pick w place victim answer).halted ≡ w.halted
  pick_same place victim None = refl
  pick_same place victim (Some mark) = refl

  turn_goes : (turn : TurnState S P) (left : List (Event × Option P)) → w.phase ≡ at.Turning turn Nothing [] → turn.events ≡ left → StepsTurn (weave_words t) y app from w made b v turn left
      → Goes v (step_turn rules k act m turn.colour turn.count (events_of left))
  unfolding run_moves
  turn_goes turn [] phase none line =
      let said : PhaseIsTold weave.setup (readiness_for weave.setup weave.shards) k (at.Turning turn Nothing []) = subst (PhaseIsTold weave.setup (readiness_for weave.setup weave.shards) k) phase (told t fits weave well k w here low) in
      carried _ _ _ _
      (λ answer called _ _. goes_still _ _ (finish_moves t fits weave well k w here low b turn answer phase none called) (λ is. finish_line t fits weave well k w here low m is b turn answer said.0 called) (finish_same turn.colour answer) refl)
      line
  turn_goes turn (event ∷ rest) phase some line =
      let change = run_moves t fits weave well k w here low b y app turn event rest line.state line.puts phase some line.untouched line.ran in
      let u : WorkerState S P = in_phase w (at.Turning (record turn { state = line.state; events = rest }) Nothing line.puts) in
      subst (λ (z : WorkerState S P). Goes z (step_turn rules k act m turn.colour turn.count (events_of (event ∷ rest)))) (sym line.becomes)
      (record {
        change = ran change;
        going = awake;
        follows = λ is told. same_line t fits weave well k w here low m is b line.untouched u
            (Turning turn.colour turn.count (events_of rest) Nothing (act m.app turn.colour event.0).puts) (act m.app turn.colour event.0).becomes
            (ap (λ (puts : List (Colour × Event)). Turning turn.colour turn.count (events_of rest) Nothing puts) (sym told)) awake;
        becomes = refl;
      })

  puts_go : (turn : TurnState S P) (puts : List (Colour × Event × Option P)) → w.phase ≡ at.Turning turn Nothing puts → StepsPuts (weave_words t) y app from w made b v turn puts
      → Goes v (step_puts rules k act m turn.colour turn.count (events_of turn.events) (without_loads puts))
  puts_go turn [] phase line = turn_goes turn turn.events phase refl line
  puts_go turn (put ∷ rest) phase line = carried _ _ _ _ by_answer line
    where
      by_answer : (answer : Result Registered (Unregistered P)) → AtShard from b put.0 (RegisterAs put.0 put.1 put.2 k answer) → WasntRefused (register_name put.0 answer) → register_name put.0 answer ≢ names.Memory
          → Goes (after_register w turn rest put answer) (step_puts rules k act m turn.colour turn.count (events_of turn.events) (without_loads (put ∷ rest)))
      by_answer (Ok reply) called _ _ = goes_still _ _ (register_moves t fits weave well k w here low b turn rest put reply phase called) (λ is. register_line t fits weave well k w here low m is b turn rest put reply called) refl refl
      by_answer (Err back) called _ want = absurd (want refl)

  turning_goes : (turn : TurnState S P) (hand : Delivery) (puts : List (Colour × Event × Option P)) → w.phase ≡ at.Turning turn hand puts → StepsTurning (weave_words t) y app from w made b v turn hand puts
      → Goes v (step_turning rules k act m turn.colour turn.count (events_of turn.events) hand (without_loads puts))
  turning_goes turn Nothing puts phase line = puts_go turn puts phase line
  turning_goes turn (PushMark to mark) puts phase line =
      let u : WorkerState S P = in_phase w (at.Turning turn Nothing puts) in
      carried _ _ _ _
      (λ answer called _ _. goes_still u _ (chain_order u to (PushAs mark (Ok tt)) called.1 (sym (has (at.Turning turn (PushMark to mark) puts) phase)))
      (λ is. push_line t fits weave well k w here low m is b to mark called.1 u (Turning turn.colour turn.count (events_of turn.events) Nothing (without_loads puts)) refl awake) refl refl)
      line
  turning_goes turn (Report to c started worth) puts phase line =
      let u : WorkerState S P = in_phase w (at.Turning turn Nothing puts) in
      carried _ _ _ _
      (λ found called _ _. goes_still u _ (chain_order u to _ called (sym (has (at.Turning turn (Report to c started worth) puts) phase)))
      (λ is. report_line t fits weave well k w here low m is b to c started worth found called u (Turning turn.colour turn.count (events_of turn.events) Nothing (without_loads puts)) refl awake) refl refl)
      line

  -- ---- a worker that hunts

  popped_holds : (answer : Option Mark) → of_worker (after_pop w answer) ≡ []
  popped_holds None = refl
  popped_holds (Some mark) = refl

  picked_holds : (place victim : ℕ) (answer : Option Mark) → of_worker (after_pick w place victim answer) ≡ []
  picked_holds place victim None = refl
  picked_holds place victim (Some mark) = refl

  pop_app : (list : List Listed) → (step_pop rules k m list).app ≡ m.app
  pop_app [] = refl
  pop_app (l ∷ list) = refl

  pick_app : (place victim : ℕ) (found : Option Listed) → (step_pick rules k m place victim found).app ≡ m.app
  pick_app place victim None = refl
  pick_app place victim (Some l) = refl

  hunt_goes : (n : ℕ) (victim : Option ℕ) → w.phase ≡ at.Free (suc n) → StepsHunt (weave_words t) y app from w made b v (suc n) victim → Goes v (step_hunt rules k m (suc n) victim)
  hunt_goes n None phase line = absurd line
  hunt_goes n (Some victim) phase line =
      carried _ _ _ _
      (λ answer called _ _.
      let u : WorkerState S P = after_pick w (suc n) victim answer in
      goes_still u _ (chain_order u victim _ called (picked_holds (suc n) victim answer ∙ sym (has (at.Free (suc n)) phase)))
      (λ is. pick_line t fits weave well k w here low m is b (suc n) victim answer called) (pick_same (suc n) victim answer)
      (pick_app (suc n) victim (first_to_steal rules.shape.steal_cost rules.pinned (list_at m victim))))
      line

  free_goes : (halted : Bool) (place : ℕ) → w.halted ≡ halted → w.phase ≡ at.Free place → StepsFree (weave_words t) y app from w made b v halted place → Goes v (step_free rules k m place)
  free_goes true place e phase line = let never : true ≡ false = sym e ∙ awake in cc
  free_goes false zero e phase line =
      carried _ _ _ _
      (λ answer called _ _.
      let u : WorkerState S P = after_pop w answer in
      goes_still u _ (chain_order u k _ called (popped_holds answer ∙ sym (has (at.Free zero) phase))) (λ is. pop_line t fits weave well k w here low m is b answer called) (pop_same answer) (pop_app (list_at m k)))
      line
  free_goes false (suc n) e phase line =
      subst (λ (victims : List ℕ). Goes v (step_hunt rules k m (suc n) (slice_get victims n))) (well.worker k w here).victims
      (hunt_goes n (slice_get w.victims n) phase line)

  -- ---- all lines

  from_phase : (phase : Phase S P) → w.phase ≡ phase → StepsFrom (weave_words t) y app from w made b v phase → Goes v (step_from rules k act m (doing_of phase))
  from_phase (at.Turning turn hand puts) phase line = turning_goes turn hand puts phase line
  from_phase (at.Pushing to mark) phase line =
      carried _ _ _ _
      (λ answer called _ _. goes_still _ _ (chain_order (in_phase w (at.Free 0)) to (PushAs mark (Ok tt)) called.1 (sym (has (at.Pushing to mark) phase)))
      (λ is. push_line t fits weave well k w here low m is b to mark called.1 (in_phase w (at.Free 0)) (Free 0) refl awake) refl refl)
      line
  from_phase (at.Popped mark) phase line = carried _ _ _ _ by_answer line
    where
      in_setup : IsColour weave.setup mark.colour
      in_setup = may t fits weave well k w here low b (at.Popped mark) phase

      by_answer : (answer : Result (TurnState S P) NoTake) → AtShard from b mark.colour (TakeAs mark.colour k answer) → WasntRefused (take_name answer) → take_name answer ≢ names.Memory → Goes (after_take w mark answer) (step_from rules k act m (Popped mark))
      by_answer (Ok turn) called _ _ = record {
        change = moved (take_moves t fits weave well k w here low b mark turn phase called);
        going = awake;
        follows = λ is told. take_line t fits weave well k w here low m is b mark turn in_setup called;
        becomes = refl;
      }
      by_answer (Err no_take.Memory) called _ want = absurd (want refl)
      by_answer (Err (no_take.Elsewhere owner)) called refused _ = absurd refused
      by_answer (Err (no_take.Busy core)) called refused _ = absurd refused
      by_answer (Err (no_take.Empty registered)) called refused _ = absurd refused
  from_phase (at.Picked mark victim) phase line = carried _ _ _ _ by_answer line
    where
      by_answer : (answer : Result Stolen NoSteal) → AtShard from b mark.colour (StealAs mark.colour k answer) → WasntRefused (steal_name mark.colour answer) → steal_name mark.colour answer ≢ names.Memory
          → Goes (after_steal w mark victim answer) (step_from rules k act m (Picked mark))
      by_answer (Ok stolen) called _ _ =
          let u : WorkerState S P = after_steal w mark victim (Ok stolen) in
          goes_still u _ (shard_same t fits weave well k w here low b u (shard_of weave.setup mark.colour) called.old called.new called.was
          (λ i. of_lanes (called.does.same_setup i) (called.does.same_shard i) 0 (called.does.lanes i)) (ap (λ (s : SideState S P). s.shards) called.becomes) (sym (has (at.Picked mark victim) phase)))
          (λ is. steal_line t fits weave well k w here low m is b mark victim stolen called) refl refl
      by_answer (Err no_steal.Memory) called _ want = absurd (want refl)
      by_answer (Err (no_steal.Pinned colour)) called refused _ = absurd refused
      by_answer (Err no_steal.Own) called refused _ = absurd refused
      by_answer (Err (no_steal.Busy core)) called refused _ = absurd refused
      by_answer (Err (no_steal.Empty registered)) called refused _ = absurd refused
      by_answer (Err (no_steal.Cheap worth)) called refused _ = absurd refused
  from_phase (at.Landing mark) phase line =
      carried _ _ _ _
      (λ answer called _ _.
      let called_own : AtChain from b k (PushAs mark (Ok tt)) = subst (λ (core : ℕ). AtChain from b core (PushAs mark (Ok tt))) (own t fits weave well k w here low) called.1 in
      goes_still _ _ (chain_order (in_phase w (at.Free 0)) k (PushAs mark (Ok tt)) called_own (sym (has (at.Landing mark) phase)))
      (λ is. push_line t fits weave well k w here low m is b k mark called_own (in_phase w (at.Free 0)) (Free 0) refl awake) refl refl)
      line
  from_phase (at.Free place) phase line = free_goes w.halted place refl phase line

  -- ---- the step

  -- what changes of what the app has, and, where what was put is what the function says, the weave
  -- and the machine correspond again
  pub record StepGoes (after : WeaveState S P) (n : Machine X) : Type 0 where
    pub change : Changed t fits y app (t.frame_of weave.given) (pieces weave) (pieces after)
    pub going : NoneHalted after
    pub corresponds : Corresponds weave m → PutsTold t fits y app (t.frame_of weave.given) act (pieces weave) (pieces after) m.app change → Corresponds after n
    pub becomes : Corresponds weave m → n.app ≡ becomes_by t fits y app (t.frame_of weave.given) act (pieces weave) (pieces after) m.app change

  pub step_goes : Steps (weave_words t) y app from w made b v → StepGoes (with_workers b (slice_set weave.workers k v)) (step rules act k m)
  unfolding step
  step_goes line =
      let goes = from_phase w.phase refl line in
      let none : NoneHalted (with_workers b (slice_set weave.workers k v)) = each_set (λ core (u : WorkerState S P). u.halted ≡ false) weave.workers k w v here going_all goes.going in
      let after : WeaveState S P = with_workers b (slice_set weave.workers k v) in
      let n : Machine X = step_from rules k act m (worker_doing w) in
      let then : Machine X = step_of rules k act m (slice_get m.workers k) in
      let same : slice_get m.workers k ≡ Some (worker_doing w) → then ≡ n = λ at_work. ap (λ (d : Option Doing). step_of rules k act m d) at_work in
      record {
        change = goes.change;
        going = none;
        corresponds = λ is puts.
            let follows = goes.follows is puts in
            let at_work : slice_get m.workers k ≡ Some (worker_doing w) = ap (λ (ws : List Doing). slice_get ws k) is.workers ∙ get_map worker_doing weave.workers k w here in
            subst (λ (x : Machine X). Corresponds after (record x { made = x.made + 1 })) (sym (same at_work))
            (record {
              shown = subst (λ (count : ℕ). IsShown b.shards b.chains (count + 1) n.histories n.lists) (sym follows.made) follows.shown;
              workers = follows.workers ∙ ap (λ (ws : List Doing). slice_set ws k (worker_doing v)) is.workers ∙ sym (map-set worker_doing weave.workers k v);
              going = none;
            });
        becomes = λ is.
            let at_work : slice_get m.workers k ≡ Some (worker_doing w) = ap (λ (ws : List Doing). slice_get ws k) is.workers ∙ get_map worker_doing weave.workers k w here in
            ap (λ (x : Machine X). x.app) (same at_work) ∙ goes.becomes;
      }
