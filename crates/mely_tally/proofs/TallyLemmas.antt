-- What a step of a weave does to all states and all events under way.
use Rattle.std.proofs.Common.{◌≡◌, ℕ, zero, suc, ◌+◌, ◌<◌, Bool, true, false, List, [], ◌∷◌, ◌++◌, ◌⊎◌, Option, None, Some, Result, Ok, Err, refl, sym, ◌∙◌, ap, subst, arith, inl, inr}
use Rattle.std.proofs.lemmas.List.{map-append}
use Rattle.std.proofs.lemmas.List.Sums.{sum_by-append, sum_by-cons, sum_by_push}
use Rattle.std.proofs.lemmas.Option.{slice_get_within}
use Rattle.std.specs.Prelude.{slice_get, slice_set, flat_map, sum_by}
use Rattle.mely_event.specs.declared.colour.Colour.{Colour}
use Rattle.mely_event.specs.declared.event.Event.{Event}
use Rattle.mely_event.specs.declared.mark.Mark.{Mark}
use Rattle.mely_event.specs.declared.trail.Trail.{Ghosts as TrailWords}
use Rattle.mely_event.specs.declared.unregistered.Unregistered.{Unregistered}
use Rattle.mely_history.specs.declared.entry.Entry.{Entry}
use Rattle.mely_history.specs.declared.registered.Registered.{Registered}
use Rattle.mely_history.specs.declared.no_take.NoTake.{NoTake}
use Rattle.mely_history.specs.declared.no_take.NoTake.TheVariants as no_take
use Rattle.mely_history.specs.declared.no_steal.NoSteal.{NoSteal}
use Rattle.mely_history.specs.declared.no_steal.NoSteal.TheVariants as no_steal
use Rattle.mely_history.specs.declared.stolen.Stolen.{Stolen}
use Rattle.mely_history.specs.declared.after.After.{After}
use Rattle.mely_history.specs.declared.after.After.TheVariants.{More, Idle}
use Rattle.mely_history.specs.Setup.{shape_of, colours_of}
use Rattle.mely_history.specs.History.{IsRunning}
use Rattle.mely_queue.specs.Turn.{TurnState, EachFits}
use Rattle.mely_shard.specs.Shard.{ShardState, HomeStands}
use Rattle.mely_core.specs.CoreQueue.{CoreQueueState}
use Rattle.mely_worker.specs.declared.phase.Phase.{Phase}
use Rattle.mely_worker.specs.declared.phase.Phase.TheVariants.{Free, Popped, Picked, Landing, Pushing, Turning}
use Rattle.mely_worker.specs.declared.delivery.Delivery.{Delivery}
use Rattle.mely_worker.specs.declared.delivery.Delivery.TheVariants.{Nothing, PushMark, Report}
use Rattle.mely_worker.specs.declared.made.Made.{Made}
use Rattle.mely_worker.specs.declared.app.App.{Ghosts as AppWords}
use Rattle.mely_worker.specs.Worker.{WorkerState}
use Rattle.mely_worker.specs.Conditions.{MayTurn, PhaseMayStep}
use Rattle.mely_worker.specs.Step.{Runs, Steps, StepsFrom, StepsTurning, StepsPuts, StepsTurn, StepsFree, StepsHunt, in_phase, after_register, after_finish, after_take, after_steal, after_pop, after_pick}
use Rattle.mely_weave.specs.Side.{SideState, shard_of}
use Rattle.mely_weave.specs.Calls.{AtShard, AtChain, IsOut, RegisterAs, TakeAs, FinishAs, StealAs, side_words}
use Rattle.mely_weave.specs.SideStands.{PartsOf}
use Rattle.mely_weave.specs.StandsWell.{side_of, StandsWell}
use Rattle.mely_weave.specs.Weave.{WeaveState}
use Rattle.mely_weave.specs.Steps.{StepsAt}
use Rattle.mely_weave.proofs.Runs.SidedStepLemmas.{step_on_side}
use Rattle.mely_weave.proofs.Entries.SideLemmas.{shard_owns}
use Rattle.mely_tally.specs.Tallies.{Carried, homes_in, waiting_in, carried_by, turned_in, on_hand, turned_by, hold_of}
use Rattle.mely_tally.specs.Tells.{OnlyMoves, RunsOne, StepTells}
use Rattle.mely_tally.proofs.SumsLemmas.{around, one_behind, sum_around, sum_one, sum_set}
use Rattle.mely_tally.proofs.FlowsLemmas.{homes, waits, register_homes, registered_waits, refused_waits, taken_homes, taken_waits, not_taken_homes, not_taken_waits, finish_homes, finish_waits, steal_homes, steal_waits}

-- what all shards have at home, and what waits in them
abbrev pub all_homes : {S P : Type 0} → (S → ℕ) → List (ShardState S P) → ℕ
all_homes f shards = sum_by f (flat_map homes_in shards)

abbrev pub all_waits : {S P : Type 0} → (Carried P → ℕ) → List (ShardState S P) → ℕ
all_waits g shards = sum_by g (flat_map waiting_in shards)

-- of the shards and one worker the sums are as before
record Flows {S P : Type 0} (a b : List (ShardState S P)) (w v : WorkerState S P) : Type 0 where
  pub states : (f : S → ℕ) → all_homes f b + sum_by f (turned_in v.phase) ≡ all_homes f a + sum_by f (turned_in w.phase)
  pub ways : (g : Carried P → ℕ) → all_waits g b + sum_by g (hold_of v) ≡ all_waits g a + sum_by g (hold_of w)

module _ {S P : Type 0} where
  -- one shard changes, and the worker
  at_shard : (a b : SideState S P) (c : Colour) (Does : ShardState S P → ShardState S P → Type 0) (w v : WorkerState S P) → (at : AtShard a b c Does)
      → ((f : S → ℕ) → homes f at.new + sum_by f (turned_in v.phase) ≡ homes f at.old + sum_by f (turned_in w.phase))
      → ((g : Carried P → ℕ) → waits g at.new + sum_by g (hold_of v) ≡ waits g at.old + sum_by g (hold_of w))
      → Flows a.shards b.shards w v
  at_shard a b c Does w v at states ways =
      let becomes : b.shards ≡ slice_set a.shards (shard_of a.setup c) at.new = ap (λ (s : SideState S P). s.shards) at.becomes in
      record {
        states = λ f.
            let set = sum_set (λ (has : ShardState S P). homes_in has) f a.shards (shard_of a.setup c) at.old at.new at.was in
            let e : all_homes f b.shards ≡ all_homes f (slice_set a.shards (shard_of a.setup c) at.new) = ap (λ (l : List (ShardState S P)). all_homes f l) becomes in
            let h = states f in
            omega (arith, set, e, h);
        ways = λ g.
            let set = sum_set (λ (has : ShardState S P). waiting_in has) g a.shards (shard_of a.setup c) at.old at.new at.was in
            let e : all_waits g b.shards ≡ all_waits g (slice_set a.shards (shard_of a.setup c) at.new) = ap (λ (l : List (ShardState S P)). all_waits g l) becomes in
            let h = ways g in
            omega (arith, set, e, h);
      }

  -- no shard changes, and the worker holds the same
  at_worker : (a b : SideState S P) (w v : WorkerState S P) → b.shards ≡ a.shards → turned_in v.phase ≡ turned_in w.phase → hold_of v ≡ hold_of w → Flows a.shards b.shards w v
  at_worker a b w v same turned held = record {
    states = λ f. ap (λ (l : List (ShardState S P)). all_homes f l + sum_by f (turned_in v.phase)) same ∙ ap (λ (l : List S). all_homes f a.shards + sum_by f l) turned;
    ways = λ g. ap (λ (l : List (ShardState S P)). all_waits g l + sum_by g (hold_of v)) same ∙ ap (λ (l : List (Carried P)). all_waits g a.shards + sum_by g l) held;
  }

module _ {R S P F : Type 0} (t : TrailWords S F) (fits : F → Colour → Event → Option P → Type 0) (y : AppWords R P S F) (app : R) (weave : WeaveState S P) (well : StandsWell t fits weave) (k : ℕ) (w : WorkerState S P) (here : slice_get weave.workers k ≡ Some w) (b : SideState S P) (v : WorkerState S P) (made : Made) where
  abbrev a : SideState S P
  a = side_of weave k

  abbrev Flow : Type 0
  Flow = Flows weave.shards b.shards w v

  low : k < (shape_of weave.setup).cores
  low = let in_list = slice_get_within weave.workers k w here in let many = well.workers in omega (arith, in_list, many)

  stands : PartsOf t fits a
  stands = record { shards = well.shards; shard = well.shard; chains = well.chains; chain = well.chain }

  may_turn : (turn : TurnState S P) (hand : Delivery) (puts : List (Colour × Event × Option P)) → w.phase ≡ Turning turn hand puts → MayTurn t fits weave.setup k (t.frame_of weave.given) (IsOut (side_of weave k)) turn hand puts
  may_turn turn hand puts phase = subst (PhaseMayStep t fits weave.setup k (t.frame_of weave.given) (IsOut (side_of weave k))) phase (well.worker k w here).may.phase

  -- a worker that becomes another, told by its phase and what it lost
  same_hold : (u : WorkerState S P) → on_hand u.phase ≡ on_hand w.phase → u.lost ≡ w.lost → hold_of u ≡ hold_of w
  same_hold u hand lost = ap (λ (l : List (Carried P)). l ++ carried_by u.lost) hand ∙ ap (λ (l : List (Colour × Event × Option P)). on_hand w.phase ++ carried_by l) lost

  -- a line on a chain: the worker holds the same
  chain_flow : (core : ℕ) (Does : CoreQueueState → CoreQueueState → Type 0) (u : WorkerState S P) → v ≡ u → AtChain a b core Does → turned_in u.phase ≡ turned_in w.phase → on_hand u.phase ≡ on_hand w.phase → u.lost ≡ w.lost → Flow
  chain_flow core Does u is at turned hand lost =
      at_worker a b w v (ap (λ (s : SideState S P). s.shards) at.becomes) (ap (λ (x : WorkerState S P). turned_in x.phase) is ∙ turned) (ap (λ (x : WorkerState S P). hold_of x) is ∙ same_hold u hand lost)

  -- the state of a colour that runs isn't at home
  away_at : (history : List Entry) (c : Colour) (given : S) (state : Option S) → HomeStands t history c given state → IsRunning history c → state ≡ None
  away_at history c given None home runs = refl
  away_at history c given (Some s) home runs = let e = home.0 in absurd (omega (arith, e, runs))

  finish_away : (turn : TurnState S P) (answer : After) → turn.colour.0 < colours_of weave.setup → (at : AtShard a b turn.colour (FinishAs turn answer)) → at.does.0.before.state ≡ None
  finish_away turn answer of_setup at =
      let does = at.does in
      let owns = shard_owns t fits a stands turn.colour at.old of_setup at.was in
      let lane = (well.shard (shard_of weave.setup turn.colour) at.old at.was).kept.each turn.colour does.0.before owns does.0.was in
      away_at at.old.history turn.colour does.0.before.given does.0.before.state lane.state does.1.running

  -- what the worker holds that turns with nothing left
  abbrev turning : TurnState S P → Delivery → List (Colour × Event × Option P) → WorkerState S P
  turning turn hand puts = in_phase w (Turning turn hand puts)

  finish_view : (turn : TurnState S P) (answer : After) → (turned_in (after_finish w turn.colour answer).phase ≡ []) × (hold_of (after_finish w turn.colour answer) ≡ carried_by w.lost)
  finish_view turn (More started worth) = (refl, refl)
  finish_view turn Idle = (refl, refl)

  finish_flow : (turn : TurnState S P) (hand : Delivery) (answer : After) → w.phase ≡ Turning turn hand [] → turn.events ≡ [] → v ≡ after_finish w turn.colour answer → AtShard a b turn.colour (FinishAs turn answer) → Flow
  finish_flow turn hand answer phase none is at =
      let view = finish_view turn answer in
      let away = finish_away turn answer (may_turn turn hand [] phase).of_turn.of_setup at in
      let out : turned_in v.phase ≡ [] = ap (λ (x : WorkerState S P). turned_in x.phase) is ∙ view.0 in
      let held : hold_of v ≡ carried_by w.lost = ap (λ (x : WorkerState S P). hold_of x) is ∙ view.1 in
      let was : turned_in w.phase ≡ turn.state ∷ [] = ap turned_in phase in
      let had : hold_of w ≡ carried_by w.lost = ap (λ (p : Phase S P). on_hand p ++ carried_by w.lost) phase ∙ ap (λ (l : List (Carried P)). (l ++ []) ++ carried_by w.lost) none in
      at_shard a b turn.colour (FinishAs turn answer) w v at
      (λ f.
      let h = finish_homes f turn answer at.old at.new at.does away in
      let o : sum_by f (turned_in v.phase) ≡ 0 = ap (sum_by f) out in
      let i = ap (sum_by f) was ∙ sum_one f turn.state in
      omega (arith, h, o, i))
      (λ g.
      let h = finish_waits g turn answer at.old at.new at.does in
      let o : sum_by g (hold_of v) ≡ sum_by g (hold_of w) = ap (sum_by g) (held ∙ sym had) in
      omega (arith, h, o))

  -- a registration
  register_flow : (turn : TurnState S P) (put : Colour × Event × Option P) (rest : List (Colour × Event × Option P)) (answer : Result Registered (Unregistered P)) → w.phase ≡ Turning turn Nothing (put ∷ rest) → v ≡ after_register w turn rest put answer
      → AtShard a b put.0 (RegisterAs put.0 put.1 put.2 k answer) → Flow
  register_flow turn put rest (Ok reply) phase is at =
      at_shard a b put.0 (RegisterAs put.0 put.1 put.2 k (Ok reply)) w v at
      (λ f.
      let h = register_homes f put.0 put.1 put.2 k (Ok reply) at.old at.new at.does in
      let o : sum_by f (turned_in v.phase) ≡ sum_by f (turned_in w.phase) = ap (λ (x : WorkerState S P). sum_by f (turned_in x.phase)) is ∙ sym (ap (λ (p : Phase S P). sum_by f (turned_in p)) phase) in
      omega (arith, h, o))
      (λ g.
      let h = registered_waits g put.0 put.1 put.2 k reply at.old at.new at.does in
      let lost : List (Carried P) = carried_by w.lost in
      let e : sum_by g (hold_of v) ≡ sum_by g ((turn.events ++ carried_by rest) ++ lost) = ap (λ (x : WorkerState S P). sum_by g (hold_of x)) is in
      let s : sum_by g (hold_of w) ≡ sum_by g ((turn.events ++ carried_by (put ∷ rest)) ++ lost) = ap (λ (p : Phase S P). sum_by g (on_hand p ++ lost)) phase in
      let p1 = sum_by-append g (turn.events ++ carried_by rest) lost in
      let p2 = sum_by-append g turn.events (carried_by rest) in
      let q1 = sum_by-append g (turn.events ++ carried_by (put ∷ rest)) lost in
      let q2 = sum_by-append g turn.events (carried_by (put ∷ rest)) in
      let q3 = sum_by-cons g (put.1, put.2) (carried_by rest) in
      omega (arith, h, e, s, p1, p2, q1, q2, q3))
  register_flow turn put rest (Err back) phase is at =
      at_shard a b put.0 (RegisterAs put.0 put.1 put.2 k (Err back)) w v at
      (λ f.
      let h = register_homes f put.0 put.1 put.2 k (Err back) at.old at.new at.does in
      let o : sum_by f (turned_in v.phase) ≡ sum_by f (turned_in w.phase) = ap (λ (x : WorkerState S P). sum_by f (turned_in x.phase)) is ∙ sym (ap (λ (p : Phase S P). sum_by f (turned_in p)) phase) in
      omega (arith, h, o))
      (λ g.
      let h = refused_waits g put.0 put.1 put.2 k back at.old at.new at.does in
      let lost : List (Carried P) = carried_by w.lost in
      let more : List (Carried P) = carried_by (w.lost ++ put ∷ []) in
      let e : sum_by g (hold_of v) ≡ sum_by g ((turn.events ++ carried_by rest) ++ more) = ap (λ (x : WorkerState S P). sum_by g (hold_of x)) is in
      let s : sum_by g (hold_of w) ≡ sum_by g ((turn.events ++ carried_by (put ∷ rest)) ++ lost) = ap (λ (p : Phase S P). sum_by g (on_hand p ++ lost)) phase in
      let p0 : sum_by g more ≡ sum_by g (lost ++ (put.1, put.2) ∷ []) = ap (sum_by g) (map-append (λ (q : Colour × Event × Option P). (q.1, q.2)) w.lost (put ∷ [])) in
      let p9 = sum_by_push g lost (put.1, put.2) in
      let p1 = sum_by-append g (turn.events ++ carried_by rest) more in
      let p2 = sum_by-append g turn.events (carried_by rest) in
      let q1 = sum_by-append g (turn.events ++ carried_by (put ∷ rest)) lost in
      let q2 = sum_by-append g turn.events (carried_by (put ∷ rest)) in
      let q3 = sum_by-cons g (put.1, put.2) (carried_by rest) in
      omega (arith, h, e, s, p0, p9, p1, p2, q1, q2, q3))

  -- a take: of a worker that had nothing but what it lost
  take_view : (mark : Mark) (why : NoTake) → (turned_in (after_take w mark (Err why)).phase ≡ []) × (hold_of (after_take w mark (Err why)) ≡ carried_by w.lost)
  take_view mark (no_take.Elsewhere owner) = (refl, refl)
  take_view mark (no_take.Busy core) = (refl, refl)
  take_view mark (no_take.Empty registered) = (refl, refl)
  take_view mark no_take.Memory = (refl, refl)

  take_flow : (mark : Mark) (answer : Result (TurnState S P) NoTake) → w.phase ≡ Popped mark → v ≡ after_take w mark answer → AtShard a b mark.colour (TakeAs mark.colour k answer) → Flow
  take_flow mark (Ok turn) phase is at =
      at_shard a b mark.colour (TakeAs mark.colour k (Ok turn)) w v at
      (λ f.
      let h = taken_homes f mark.colour k turn at.old at.new at.does in
      let o = ap (λ (x : WorkerState S P). sum_by f (turned_in x.phase)) is ∙ sum_one f turn.state in
      let i : sum_by f (turned_in w.phase) ≡ 0 = ap (λ (p : Phase S P). sum_by f (turned_in p)) phase in
      omega (arith, h, o, i))
      (λ g.
      let h = taken_waits g mark.colour k turn at.old at.new at.does in
      let lost : List (Carried P) = carried_by w.lost in
      let e : sum_by g (hold_of v) ≡ sum_by g ((turn.events ++ []) ++ lost) = ap (λ (x : WorkerState S P). sum_by g (hold_of x)) is in
      let s : sum_by g (hold_of w) ≡ sum_by g ([] ++ lost) = ap (λ (p : Phase S P). sum_by g (on_hand p ++ lost)) phase in
      let p1 = sum_by-append g (turn.events ++ []) lost in
      let p2 = sum_by-append g turn.events [] in
      omega (arith, h, e, s, p1, p2))
  take_flow mark (Err why) phase is at =
      let view = take_view mark why in
      let held : hold_of v ≡ hold_of w = ap (λ (x : WorkerState S P). hold_of x) is ∙ view.1 ∙ sym (ap (λ (p : Phase S P). on_hand p ++ carried_by w.lost) phase) in
      let out : turned_in v.phase ≡ turned_in w.phase = ap (λ (x : WorkerState S P). turned_in x.phase) is ∙ view.0 ∙ sym (ap turned_in phase) in
      at_shard a b mark.colour (TakeAs mark.colour k (Err why)) w v at
      (λ f.
      let h = not_taken_homes f mark.colour k why at.old at.new at.does in
      let o = ap (sum_by f) out in
      omega (arith, h, o))
      (λ g.
      let h = not_taken_waits g mark.colour k why at.old at.new at.does in
      let o = ap (sum_by g) held in
      omega (arith, h, o))

  steal_view : (mark : Mark) (victim : ℕ) (answer : Result Stolen NoSteal) → (turned_in (after_steal w mark victim answer).phase ≡ []) × (hold_of (after_steal w mark victim answer) ≡ carried_by w.lost)
  steal_view mark victim (Ok stolen) = (refl, refl)
  steal_view mark victim (Err no_steal.Memory) = (refl, refl)
  steal_view mark victim (Err (no_steal.Pinned colour)) = (refl, refl)
  steal_view mark victim (Err no_steal.Own) = (refl, refl)
  steal_view mark victim (Err (no_steal.Busy core)) = (refl, refl)
  steal_view mark victim (Err (no_steal.Empty registered)) = (refl, refl)
  steal_view mark victim (Err (no_steal.Cheap worth)) = (refl, refl)

  steal_flow : (mark : Mark) (victim : ℕ) (answer : Result Stolen NoSteal) → w.phase ≡ Picked mark victim → v ≡ after_steal w mark victim answer → AtShard a b mark.colour (StealAs mark.colour k answer) → Flow
  steal_flow mark victim answer phase is at =
      let view = steal_view mark victim answer in
      let held : hold_of v ≡ hold_of w = ap (λ (x : WorkerState S P). hold_of x) is ∙ view.1 ∙ sym (ap (λ (p : Phase S P). on_hand p ++ carried_by w.lost) phase) in
      let out : turned_in v.phase ≡ turned_in w.phase = ap (λ (x : WorkerState S P). turned_in x.phase) is ∙ view.0 ∙ sym (ap turned_in phase) in
      at_shard a b mark.colour (StealAs mark.colour k answer) w v at
      (λ f.
      let h = steal_homes f mark.colour k answer at.old at.new at.does in
      let o = ap (sum_by f) out in
      omega (arith, h, o))
      (λ g.
      let h = steal_waits g mark.colour k answer at.old at.new at.does in
      let o = ap (sum_by g) held in
      omega (arith, h, o))

  -- the line in which a handler runs
  record RanLine : Type 0 where
    pub turn : TurnState S P
    pub event : Carried P
    pub rest : List (Carried P)
    pub phase : w.phase ≡ Turning turn Nothing []
    pub left : turn.events ≡ event ∷ rest
    pub runs : Runs (side_words t (λ _. Unit {0})) y app a w made b v turn event rest

  abbrev Line_or : Type 0
  Line_or = Flow ⊎ RanLine

  turn_moves : (turn : TurnState S P) (left : List (Carried P)) → w.phase ≡ Turning turn Nothing [] → turn.events ≡ left → StepsTurn (side_words t (λ _. Unit {0})) y app a w made b v turn left → Line_or
  turn_moves turn [] phase none line = inl (finish_flow turn Nothing line.answer phase none line.becomes line.called)
  turn_moves turn (event ∷ rest) phase some line = inr (record { turn = turn; event = event; rest = rest; phase = phase; left = some; runs = line })

  puts_move : (turn : TurnState S P) (puts : List (Colour × Event × Option P)) → w.phase ≡ Turning turn Nothing puts → StepsPuts (side_words t (λ _. Unit {0})) y app a w made b v turn puts → Line_or
  puts_move turn [] phase line = turn_moves turn turn.events phase refl line
  puts_move turn (put ∷ rest) phase line = inl (register_flow turn put rest line.answer phase line.becomes line.called)

  turning_moves : (turn : TurnState S P) (hand : Delivery) (puts : List (Colour × Event × Option P)) → w.phase ≡ Turning turn hand puts → StepsTurning (side_words t (λ _. Unit {0})) y app a w made b v turn hand puts → Line_or
  turning_moves turn Nothing puts phase line = puts_move turn puts phase line
  turning_moves turn (PushMark core mark) puts phase line = inl (chain_flow core _ (turning turn Nothing puts) line.becomes line.called (sym (ap turned_in phase)) (sym (ap on_hand phase)) refl)
  turning_moves turn (Report core colour started worth) puts phase line = inl (chain_flow core _ (turning turn Nothing puts) line.becomes line.called (sym (ap turned_in phase)) (sym (ap on_hand phase)) refl)

  pop_view : (answer : Option Mark) → (turned_in (after_pop w answer).phase ≡ []) × (on_hand (after_pop w answer).phase ≡ []) × ((after_pop w answer).lost ≡ w.lost)
  pop_view (Some mark) = (refl, refl, refl)
  pop_view None = (refl, refl, refl)

  pick_view : (place victim : ℕ) (answer : Option Mark) → (turned_in (after_pick w place victim answer).phase ≡ []) × (on_hand (after_pick w place victim answer).phase ≡ []) × ((after_pick w place victim answer).lost ≡ w.lost)
  pick_view place victim (Some mark) = (refl, refl, refl)
  pick_view place victim None = (refl, refl, refl)

  hunt_moves : (place : ℕ) (victim : Option ℕ) → w.phase ≡ Free place → StepsHunt (side_words t (λ _. Unit {0})) y app a w made b v place victim → Line_or
  hunt_moves place (Some victim) phase line =
      let view = pick_view place victim line.answer in
      inl (chain_flow victim _ (after_pick w place victim line.answer) line.becomes line.called (view.0 ∙ sym (ap turned_in phase)) (view.1 ∙ sym (ap on_hand phase)) view.2)
  hunt_moves place None phase line = absurd line

  free_moves : (halted : Bool) (place : ℕ) → w.phase ≡ Free place → StepsFree (side_words t (λ _. Unit {0})) y app a w made b v halted place → Line_or
  free_moves true place phase line = inl (at_worker a b w v (ap (λ (s : SideState S P). s.shards) line.0) (ap (λ (x : WorkerState S P). turned_in x.phase) line.1) (ap (λ (x : WorkerState S P). hold_of x) line.1))
  free_moves false zero phase line =
      let view = pop_view line.answer in
      inl (chain_flow k _ (after_pop w line.answer) line.becomes line.called (view.0 ∙ sym (ap turned_in phase)) (view.1 ∙ sym (ap on_hand phase)) view.2)
  free_moves false (suc n) phase line = hunt_moves (suc n) (slice_get w.victims n) phase line

  phase_moves : (phase : Phase S P) → w.phase ≡ phase → StepsFrom (side_words t (λ _. Unit {0})) y app a w made b v phase → Line_or
  phase_moves (Turning turn hand puts) is line = turning_moves turn hand puts is line
  phase_moves (Pushing core mark) is line = inl (chain_flow core _ (in_phase w (Free 0)) line.becomes line.called (sym (ap turned_in is)) (sym (ap on_hand is)) refl)
  phase_moves (Popped mark) is line = inl (take_flow mark line.answer is line.becomes line.called)
  phase_moves (Picked mark victim) is line = inl (steal_flow mark victim line.answer is line.becomes line.called)
  phase_moves (Landing mark) is line = inl (chain_flow w.core _ (in_phase w (Free 0)) line.becomes line.called (sym (ap turned_in is)) (sym (ap on_hand is)) refl)
  phase_moves (Free place) is line = free_moves w.halted place is line

  step_moves : Steps (side_words t (λ _. Unit {0})) y app a w made b v → Line_or
  step_moves line = phase_moves w.phase refl line

  -- the weave after the step
  abbrev after : WeaveState S P
  after = record { setup = b.setup; given = b.given; shards = b.shards; chains = b.chains; workers = slice_set weave.workers k v }

  only_moves : Flow → OnlyMoves weave after
  only_moves flow = record {
    states = λ f.
        let h = flow.states f in
        let set = sum_set (λ (x : WorkerState S P). turned_by x) f weave.workers k w v here in
        let p = sum_by-append f (flat_map homes_in b.shards) (flat_map turned_by (slice_set weave.workers k v)) in
        let q = sum_by-append f (flat_map homes_in weave.shards) (flat_map turned_by weave.workers) in
        omega (arith, h, set, p, q);
    ways = λ g.
        let h = flow.ways g in
        let set = sum_set (λ (x : WorkerState S P). hold_of x) g weave.workers k w v here in
        let p = sum_by-append g (flat_map waiting_in b.shards) (flat_map hold_of (slice_set weave.workers k v)) in
        let q = sum_by-append g (flat_map waiting_in weave.shards) (flat_map hold_of weave.workers) in
        omega (arith, h, set, p, q);
  }

  runs_one : RanLine → RunsOne t fits y app weave after
  runs_one ran =
      let may = (may_turn ran.turn Nothing [] ran.phase).of_turn in
      let r = ran.runs in
      let same : b.shards ≡ weave.shards = ap (λ (s : SideState S P). s.shards) r.untouched in
      let was : turned_by w ≡ ran.turn.state ∷ [] = ap turned_in ran.phase in
      let is : turned_by v ≡ r.state ∷ [] = ap (λ (x : WorkerState S P). turned_by x) r.becomes in
      let around_it = around (λ (x : WorkerState S P). turned_by x) weave.workers k w here in
      let home : List S = flat_map homes_in weave.shards in
      let lost : List (Carried P) = carried_by w.lost in
      let first = subst (λ (l : List (Carried P)). EachFits (fits (t.frame_of weave.given) ran.turn.colour) l) ran.left may.events_fit in
      record {
        state = ran.turn.state;
        event = ran.event;
        becomes = r.state;
        puts = r.puts;
        ran = r.ran;
        frame = may.of_frame;
        fit = subst (λ (c : Colour). fits (t.frame_of weave.given) c ran.event.0 ran.event.1) (sym may.of_colour) first.0;
        held = λ g.
            let r2 = around (λ (x : WorkerState S P). hold_of x) weave.workers k w here in
            let total = sum_by-append g (flat_map waiting_in weave.shards) (flat_map hold_of weave.workers) in
            let split = ap (sum_by g) r2.was ∙ sum_around g r2.front (hold_of w) r2.back in
            let s : sum_by g (hold_of w) ≡ sum_by g ((ran.turn.events ++ []) ++ lost) = ap (λ (p : Phase S P). sum_by g (on_hand p ++ lost)) ran.phase in
            let s1 = sum_by-append g (ran.turn.events ++ []) lost in
            let s2 = sum_by-append g ran.turn.events [] in
            let s3 = ap (sum_by g) ran.left ∙ sum_by-cons g ran.event ran.rest in
            omega (arith, total, split, s, s1, s2, s3);
        front = home ++ around_it.front;
        back = around_it.back;
        was = ap (λ (l : List S). home ++ l) (around_it.was ∙ ap (λ (l : List S). around_it.front ++ l ++ around_it.back) was) ∙ one_behind home around_it.front (ran.turn.state ∷ []) around_it.back;
        is = ap (λ (l : List (ShardState S P)). flat_map homes_in l ++ flat_map turned_by (slice_set weave.workers k v)) same ∙ ap (λ (l : List S). home ++ l) (around_it.set v ∙ ap (λ (l : List S). around_it.front ++ l ++ around_it.back) is) ∙ one_behind home around_it.front (r.state ∷ []) around_it.back;
        ways = λ g.
            let set = sum_set (λ (x : WorkerState S P). hold_of x) g weave.workers k w v here in
            let shards : sum_by g (flat_map waiting_in b.shards) ≡ sum_by g (flat_map waiting_in weave.shards) = ap (λ (l : List (ShardState S P)). sum_by g (flat_map waiting_in l)) same in
            let p = sum_by-append g (flat_map waiting_in b.shards) (flat_map hold_of (slice_set weave.workers k v)) in
            let q = sum_by-append g (flat_map waiting_in weave.shards) (flat_map hold_of weave.workers) in
            let e : sum_by g (hold_of v) ≡ sum_by g ((ran.rest ++ carried_by r.puts) ++ lost) = ap (λ (x : WorkerState S P). sum_by g (hold_of x)) r.becomes in
            let s : sum_by g (hold_of w) ≡ sum_by g ((ran.turn.events ++ []) ++ lost) = ap (λ (p : Phase S P). sum_by g (on_hand p ++ lost)) ran.phase in
            let e1 = sum_by-append g (ran.rest ++ carried_by r.puts) lost in
            let e2 = sum_by-append g ran.rest (carried_by r.puts) in
            let s1 = sum_by-append g (ran.turn.events ++ []) lost in
            let s2 = sum_by-append g ran.turn.events [] in
            let s3 = ap (sum_by g) ran.left ∙ sum_by-cons g ran.event ran.rest in
            omega (arith, set, shards, p, q, e, s, e1, e2, s1, s2, s3);
      }

-- a step moves states and events, or runs one event
pub step_tells : {R S P F : Type 0} (t : TrailWords S F) (fits : F → Colour → Event → Option P → Type 0) (y : AppWords R P S F) (app : R) (before later : WeaveState S P) (core : ℕ) (made : Made) → StandsWell t fits before → StepsAt t y app before core made later → StepTells t fits y app before later
step_tells {S = S} {P = P} t fits y app before later core made well at =
    let line = step_moves t fits y app before well core at.worker at.was at.side at.becomes made (step_on_side t y app (side_of before core) at.side at.worker at.becomes made at.steps) in
    elim line [
      | inl flow ↦ inl (subst (λ (l : WeaveState S P). OnlyMoves before l) (sym at.leaves) (only_moves t fits y app before well core at.worker at.was at.side at.becomes made flow))
      | inr ran ↦ inr (subst (λ (l : WeaveState S P). RunsOne t fits y app before l) (sym at.leaves) (runs_one t fits y app before well core at.worker at.was at.side at.becomes made ran))
    ]
