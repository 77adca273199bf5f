-- Steps that follow one another.
use Rattle.std.proofs.Common.{get_or, ◌≡◌, ◌≢◌, ℕ, zero, suc, ◌+◌, ◌-◌, ◌≤◌, ◌<◌, Bool, true, false, List, [], ◌∷◌, ◌++◌, Option, Some, None, map, length, take, drop, replicate, refl, sym, ◌∙◌, ap, subst, arith, ⊎_elim}
use Rattle.std.proofs.lemmas.List.{append-nil, append_assoc, take-append-drop, length-replicate, map-append, length-append, length-map, length-take, take-append-le, replicate-append-replicate}
use Rattle.std.proofs.Math.Seq.{take-append-add, take-suc, drop-cons}
use Rattle.std.proofs.lemmas.Grind.{flat_map-append}
use Rattle.std.proofs.lemmas.List.Sums.{sum_by-cons}
use Rattle.std.proofs.lemmas.List.Elements.{All-append}
use Rattle.std.specs.Prelude.{slice_get, slice_set, sum_by}
use Rattle.mely_event.specs.declared.colour.Colour.{Colour}
use Rattle.mely_event.specs.declared.event.Event.{Event}
use Rattle.mely_event.specs.declared.mark.Mark.{Mark}
use Rattle.mely_event.specs.declared.trail.Trail.{Ghosts as TrailWords}
use Rattle.mely_history.specs.declared.setup.Setup.{Setup}
use Rattle.mely_history.specs.declared.after.After.{After}
use Rattle.mely_history.specs.declared.after.After.TheVariants.{More, Idle}
use Rattle.mely_history.specs.declared.no_take.NoTake.{NoTake}
use Rattle.mely_history.specs.declared.no_take.NoTake.TheVariants as no_take
use Rattle.mely_history.specs.declared.no_steal.NoSteal.{NoSteal}
use Rattle.mely_history.specs.declared.no_steal.NoSteal.TheVariants as no_steal
use Rattle.mely_history.specs.declared.registered.Registered.{Registered}
use Rattle.mely_history.specs.declared.stolen.Stolen.{Stolen}
use Rattle.mely_event.specs.declared.unregistered.Unregistered.{Unregistered}
use Rattle.std.specs.Prelude.{Result, Ok, Err}
use Rattle.mely_queue.specs.Turn.{TurnState}
use Rattle.mely_shard.specs.Shard.{ShardState}
use Rattle.mely_core.specs.CoreQueue.{CoreQueueState}
use Rattle.mely_worker.specs.declared.phase.Phase.{Phase}
use Rattle.mely_worker.specs.declared.phase.Phase.TheVariants.{Free, Popped, Picked, Landing, Pushing, Turning}
use Rattle.mely_worker.specs.declared.delivery.Delivery.{Delivery}
use Rattle.mely_worker.specs.declared.delivery.Delivery.TheVariants.{Nothing, PushMark, Report}
use Rattle.mely_worker.specs.declared.made.Made.{Made}
use Rattle.mely_worker.specs.declared.made.Made.TheVariants as made
use Rattle.mely_worker.specs.declared.app.App.{Ghosts as AppWords}
use Rattle.mely_worker.specs.Worker.{WorkerState}
use Rattle.mely_worker.specs.Step.{Line, Steps, StepsFrom, StepsTurning, StepsPuts, StepsTurn, StepsFree, StepsHunt, after_register, after_finish, after_take, after_steal, after_pop, after_pick}
use Rattle.mely_history.specs.Setup.{shape_of}
use Rattle.mely_worker.specs.Conditions.{AppServes}
use Rattle.mely_weave.specs.Side.{SideState, shard_of}
use Rattle.mely_weave.proofs.Entries.SideLemmas.{get_set_same, get_set_other}
use Rattle.mely_history.specs.declared.entry.Entry.{Entry}
use Rattle.std.proofs.lemmas.Bool.{cases_eq}
use Rattle.std.proofs.lemmas.Option.{same_Some}
use Rattle.mely_weave.specs.Calls.{AtShard, AtChain, RegisterAs, TakeAs, StealAs, side_words}
use Rattle.mely_weave.specs.StandsWell.{side_of}
use Rattle.mely_weave.specs.Weave.{WeaveState}
use Rattle.mely_weave.proofs.Runs.SidedStepLemmas.{step_on_side}
use Rattle.mely_weave.specs.declared.running.Went.{Went}
use Rattle.mely_weave.specs.declared.running.Went.TheVariants as went
use Rattle.mely_weave.specs.Runs.{KeepsSetup, CoreStep, NoneMetWant, StopsAfter, StepsWell, Makes, RunsTo}
use Rattle.mely_history.specs.Schedules.{spelled_out}

-- the history is the earlier one, and more
abbrev pub Grows : {S P : Type 0} → ShardState S P → ShardState S P → Type 0
Grows old new = (more : List Entry) × (new.history ≡ old.history ++ more)

abbrev pub ShardsGrow : {S P : Type 0} → List (ShardState S P) → List (ShardState S P) → Type 0
ShardsGrow {S} {P} before after = (number : ℕ) (has : ShardState S P) → slice_get before number ≡ Some has → (is : ShardState S P) × (slice_get after number ≡ Some is) × Grows has is

grows_same : {S P : Type 0} (old new : ShardState S P) → new.history ≡ old.history → Grows old new
grows_same old new same = ([], same ∙ sym (append-nil old.history))

pub shards_itself : {S P : Type 0} (shards after : List (ShardState S P)) → after ≡ shards → ShardsGrow shards after
shards_itself shards after same number has there = (has, ap (λ l. slice_get l number) same ∙ there, ([], sym (append-nil has.history)))

pub shards_onward : {S P : Type 0} (a b c : List (ShardState S P)) → ShardsGrow a b → ShardsGrow b c → ShardsGrow a c
shards_onward a b c one other number has there =
    let first = one number has there in
    let second = other number first.0 first.1 in
    (second.0, second.1, (first.2.0 ++ second.2.0, second.2.1 ∙ ap (λ l. l ++ second.2.0) first.2.1 ∙ append_assoc has.history first.2.0 second.2.0))

shards_set : {S P : Type 0} (shards : List (ShardState S P)) (place : ℕ) (old new : ShardState S P) → slice_get shards place ≡ Some old → Grows old new → ShardsGrow shards (slice_set shards place new)
shards_set shards place old new was grows number has there = ⊎_elim
    (λ (same : number ≡ place).
    let that : old ≡ has = same_Some old has (sym was ∙ ap (slice_get shards) (sym same) ∙ there) in
    (new, ap (slice_get (slice_set shards place new)) same ∙ get_set_same shards place old new was, subst (λ o. Grows o new) that grows))
    (λ (apart : number ≡ place → ⊥). (has, get_set_other shards place number new apart ∙ there, ([], sym (append-nil has.history))))
    (cases_eq number place)

pub register_grows : {S P : Type 0} (c : Colour) (event : Event) (load : Option P) (by : ℕ) (answer : Result Registered (Unregistered P)) (old new : ShardState S P) → RegisterAs c event load by answer old new → Grows old new
register_grows c event load by (Ok reply) old new does = (_, does.0.after.history)
register_grows c event load by (Err back) old new does = grows_same old new does.history

take_grows : {S P : Type 0} (c : Colour) (core : ℕ) (answer : Result (TurnState S P) NoTake) (old new : ShardState S P) → TakeAs c core answer old new → Grows old new
take_grows c core (Ok turn) old new does = (_, does.after.history)
take_grows c core (Err why) old new does = grows_same old new does.0.history

steal_grows : {S P : Type 0} (c : Colour) (to : ℕ) (answer : Result Stolen NoSteal) (old new : ShardState S P) → StealAs c to answer old new → Grows old new
steal_grows c to (Ok stolen) old new does = (_, does.history)
steal_grows c to (Err why) old new does = grows_same old new does.0.history

-- what a call leaves of the side
abbrev pub SideStays : {S P : Type 0} → SideState S P → SideState S P → Type 0
SideStays a b = (b.setup ≡ a.setup) × (b.given ≡ a.given) × ShardsGrow a.shards b.shards

pub shard_stays : {S P : Type 0} (a b : SideState S P) (c : Colour) (Does : ShardState S P → ShardState S P → Type 0) → ((old new : ShardState S P) → Does old new → Grows old new) → AtShard a b c Does → SideStays a b
shard_stays {S} {P} a b c Does grows at = (
  ap (λ (s : SideState S P). s.setup) at.becomes,
  ap (λ (s : SideState S P). s.given) at.becomes,
  subst (λ (s : SideState S P). ShardsGrow a.shards s.shards) (sym at.becomes) (shards_set a.shards (shard_of a.setup c) at.old at.new at.was (grows at.old at.new at.does)),
)

pub chain_stays : {S P : Type 0} (a b : SideState S P) (core : ℕ) (Does : CoreQueueState → CoreQueueState → Type 0) → AtChain a b core Does → SideStays a b
chain_stays {S} {P} a b core Does at = (
  ap (λ (s : SideState S P). s.setup) at.becomes,
  ap (λ (s : SideState S P). s.given) at.becomes,
  shards_itself a.shards b.shards (ap (λ (s : SideState S P). s.shards) at.becomes),
)

pub same_stays : {S P : Type 0} (a b : SideState S P) → b ≡ a → SideStays a b
same_stays {S} {P} a b same = (ap (λ (s : SideState S P). s.setup) same, ap (λ (s : SideState S P). s.given) same, shards_itself a.shards b.shards (ap (λ (s : SideState S P). s.shards) same))

-- what a step leaves of the side and of the worker
pub record StepStays {S P : Type 0} (a b : SideState S P) (w v : WorkerState S P) : Type 0 where
  pub setup : b.setup ≡ a.setup
  pub given : b.given ≡ a.given
  pub grow : ShardsGrow a.shards b.shards
  pub halted : w.halted ≡ true → v.halted ≡ true

module _ {S P F R : Type 0} (t : TrailWords S F) (Keep : SideState S P → Type 0) (y : AppWords R P S F) (app : R) (a b : SideState S P) (w v : WorkerState S P) (step : Made) where
  by_line : {Answer : Type 0} (Called : Answer → Type 0) (next : Answer → WorkerState S P) (name : Answer → Made) → ((answer : Answer) → Called answer → SideStays a b) → ((answer : Answer) → w.halted ≡ true → (next answer).halted ≡ true) → Line Called next name step v → StepStays a b w v
  by_line Called next name same halts line =
      let is = same line.answer line.called in
      record { setup = is.0; given = is.1; grow = is.2; halted = λ h. ap (λ (u : WorkerState S P). u.halted) line.becomes ∙ halts line.answer h }

  register_halts : (turn : TurnState S P) (rest : List (Colour × Event × Option P)) (put : Colour × Event × Option P) (answer : Result Registered (Unregistered P)) → w.halted ≡ true → (after_register w turn rest put answer).halted ≡ true
  register_halts turn rest put (Ok reply) h = h
  register_halts turn rest put (Err back) h = refl

  finish_halts : (c : Colour) (answer : After) → w.halted ≡ true → (after_finish w c answer).halted ≡ true
  finish_halts c (More started worth) h = h
  finish_halts c Idle h = h

  take_halts : (mark : Mark) (answer : Result (TurnState S P) NoTake) → w.halted ≡ true → (after_take w mark answer).halted ≡ true
  take_halts mark (Ok turn) h = h
  take_halts mark (Err no_take.Memory) h = refl
  take_halts mark (Err (no_take.Elsewhere owner)) h = h
  take_halts mark (Err (no_take.Busy core)) h = h
  take_halts mark (Err (no_take.Empty registered)) h = h

  steal_halts : (mark : Mark) (victim : ℕ) (answer : Result Stolen NoSteal) → w.halted ≡ true → (after_steal w mark victim answer).halted ≡ true
  steal_halts mark victim (Ok stolen) h = h
  steal_halts mark victim (Err no_steal.Memory) h = refl
  steal_halts mark victim (Err (no_steal.Pinned colour)) h = h
  steal_halts mark victim (Err no_steal.Own) h = h
  steal_halts mark victim (Err (no_steal.Busy core)) h = h
  steal_halts mark victim (Err (no_steal.Empty registered)) h = h
  steal_halts mark victim (Err (no_steal.Cheap worth)) h = h

  pop_halts : (answer : Option Mark) → w.halted ≡ true → (after_pop w answer).halted ≡ true
  pop_halts (Some mark) h = h
  pop_halts None h = h

  pick_halts : (place victim : ℕ) (answer : Option Mark) → w.halted ≡ true → (after_pick w place victim answer).halted ≡ true
  pick_halts place victim (Some mark) h = h
  pick_halts place victim None h = h

  turn_stays : (turn : TurnState S P) (left : List (Event × Option P)) → StepsTurn (side_words t Keep) y app a w step b v turn left → StepStays a b w v
  turn_stays turn [] line = by_line _ _ _ (λ answer called. shard_stays a b turn.colour _ (λ old new does. (_, does.0.after.history)) called) (finish_halts turn.colour) line
  turn_stays turn (event ∷ rest) r = record {
    setup = ap (λ (s : SideState S P). s.setup) r.untouched;
    given = ap (λ (s : SideState S P). s.given) r.untouched;
    grow = shards_itself a.shards b.shards (ap (λ (s : SideState S P). s.shards) r.untouched);
    halted = λ h. ap (λ (u : WorkerState S P). u.halted) r.becomes ∙ h;
  }

  puts_stay : (turn : TurnState S P) (puts : List (Colour × Event × Option P)) → StepsPuts (side_words t Keep) y app a w step b v turn puts → StepStays a b w v
  puts_stay turn [] line = turn_stays turn turn.events line
  puts_stay turn (put ∷ rest) line = by_line _ _ _ (λ answer called. shard_stays a b put.0 _ (register_grows put.0 put.1 put.2 a.core answer) called) (register_halts turn rest put) line

  turning_stays : (turn : TurnState S P) (hand : Delivery) (puts : List (Colour × Event × Option P)) → StepsTurning (side_words t Keep) y app a w step b v turn hand puts → StepStays a b w v
  turning_stays turn Nothing puts line = puts_stay turn puts line
  turning_stays turn (PushMark core mark) puts line = by_line _ _ _ (λ answer called. chain_stays a b core _ called) (λ answer h. h) line
  turning_stays turn (Report core colour started worth) puts line = by_line _ _ _ (λ answer called. chain_stays a b core _ called) (λ answer h. h) line

  hunt_stays : (place : ℕ) (victim : Option ℕ) → StepsHunt (side_words t Keep) y app a w step b v place victim → StepStays a b w v
  hunt_stays place (Some victim) line = by_line _ _ _ (λ answer called. chain_stays a b victim _ called) (pick_halts place victim) line
  hunt_stays place None line = absurd line

  free_stays : (halted : Bool) (place : ℕ) → StepsFree (side_words t Keep) y app a w step b v halted place → StepStays a b w v
  free_stays true place line = record {
    setup = ap (λ (s : SideState S P). s.setup) line.0;
    given = ap (λ (s : SideState S P). s.given) line.0;
    grow = shards_itself a.shards b.shards (ap (λ (s : SideState S P). s.shards) line.0);
    halted = λ h. ap (λ (u : WorkerState S P). u.halted) line.1 ∙ h;
  }
  free_stays false zero line = by_line _ _ _ (λ answer called. chain_stays a b a.core _ called) pop_halts line
  free_stays false (suc n) line = hunt_stays (suc n) (slice_get w.victims n) line

  phase_stays : (phase : Phase S P) → StepsFrom (side_words t Keep) y app a w step b v phase → StepStays a b w v
  phase_stays (Turning turn hand puts) line = turning_stays turn hand puts line
  phase_stays (Pushing core mark) line = by_line _ _ _ (λ answer called. chain_stays a b core _ called) (λ answer h. h) line
  phase_stays (Popped mark) line = by_line _ _ _ (λ answer called. shard_stays a b mark.colour _ (take_grows mark.colour a.core answer) called) (take_halts mark) line
  phase_stays (Picked mark victim) line = by_line _ _ _ (λ answer called. shard_stays a b mark.colour _ (steal_grows mark.colour a.core answer) called) (steal_halts mark victim) line
  phase_stays (Landing mark) line = by_line _ _ _ (λ answer called. chain_stays a b w.core _ called) (λ answer h. h) line
  phase_stays (Free place) line = free_stays w.halted place line

  pub step_stays : Steps (side_words t Keep) y app a w step b v → StepStays a b w v
  step_stays line = phase_stays w.phase line

pub same_onward : {S P : Type 0} (a b c : WeaveState S P) → KeepsSetup a b → KeepsSetup b c → KeepsSetup a c
same_onward a b c one other = record { setup = other.setup ∙ one.setup; given = other.given ∙ one.given }

-- lists of steps
none_of_none : NoneMetWant []
none_of_none k d low = absurd (omega (arith, low))

one_without : (core : ℕ) (step : Made) → step ≢ made.Memory → NoneMetWant ((core, step) ∷ [])
one_without core step ne zero d low = ne
one_without core step ne (suc k) d low = absurd (omega (arith, low))

module _ {R S P F : Type 0} (t : TrailWords S F) (fits : F → Colour → Event → Option P → Type 0) (y : AppWords R P S F) (app : R) where
  abbrev core_of_step : CoreStep → ℕ
  core_of_step step = step.0

  pub well_same : (a b : WeaveState S P) (core : ℕ) (step : Made) → StepsWell t fits y app a core step b → KeepsSetup a b
  well_same a b core step is =
      let stays = step_stays t (λ _. Unit {0}) y app (side_of a core) is.call.steps.side is.call.steps.worker is.call.steps.becomes step (step_on_side t y app (side_of a core) is.call.steps.side is.call.steps.worker is.call.steps.becomes step is.call.steps.steps) in
      record {
        setup = ap (λ (l : WeaveState S P). l.setup) is.call.steps.leaves ∙ stays.setup;
        given = ap (λ (l : WeaveState S P). l.given) is.call.steps.leaves ∙ stays.given;
      }

  pub makes_none : (a : WeaveState S P) → Makes t fits y app [] a a
  unfolding Makes
  makes_none a = refl

  pub makes_one : (a b : WeaveState S P) (core : ℕ) (step : Made) → StepsWell t fits y app a core step b → Makes t fits y app ((core, step) ∷ []) a b
  unfolding Makes
  makes_one a b core step is = (b, is, refl)

  pub makes_onward : (steps more : List CoreStep) (a b c : WeaveState S P) → Makes t fits y app steps a b → Makes t fits y app more b c → Makes t fits y app (steps ++ more) a c
  unfolding Makes
  makes_onward [] more a b c one other = subst (λ (l : WeaveState S P). Makes t fits y app more l c) one other
  makes_onward (step ∷ steps) more a b c one other = (one.0, one.1, makes_onward steps more one.0 b c one.2 other)

  pub makes_same : (steps : List CoreStep) (a b : WeaveState S P) → Makes t fits y app steps a b → KeepsSetup a b
  unfolding Makes
  makes_same [] a b is = record { setup = ap (λ (l : WeaveState S P). l.setup) is; given = ap (λ (l : WeaveState S P). l.given) is }
  makes_same (step ∷ steps) a b is = same_onward a is.0 b (well_same a is.0 step.0 step.1 is.1) (makes_same steps is.0 b is.2)

  pub run_none : (a : WeaveState S P) → RunsTo t fits y app a [] went.All a
  run_none a = record { steps = []; makes = makes_none a; goes = (refl, none_of_none) }

  run_one : (a b : WeaveState S P) (core : ℕ) (step : Made) → step ≢ made.Memory → StepsWell t fits y app a core step b → RunsTo t fits y app a (core ∷ []) went.All b
  run_one a b core step ne is = record { steps = (core, step) ∷ []; makes = makes_one a b core step is; goes = (refl, one_without core step ne) }

  run_want : (a b : WeaveState S P) (core : ℕ) → StepsWell t fits y app a core made.Memory b → RunsTo t fits y app a (core ∷ []) (went.Memory 1) b
  run_want a b core is = record {
    steps = (core, made.Memory) ∷ [];
    makes = makes_one a b core made.Memory is;
    goes = record { counted = refl; front = refl; earlier = []; core = core; last = refl; none = none_of_none };
  }

  pub run_same : (a b : WeaveState S P) (cores : List ℕ) (went : Went) → RunsTo t fits y app a cores went b → KeepsSetup a b
  run_same a b cores went is = makes_same is.steps a b is.makes

  -- a run and then another
  run_onward : (a b c : WeaveState S P) (cores more : List ℕ) → RunsTo t fits y app a cores went.All b → RunsTo t fits y app b more went.All c → RunsTo t fits y app a (cores ++ more) went.All c
  run_onward a b c cores more one other = record {
    steps = one.steps ++ other.steps;
    makes = makes_onward one.steps other.steps a b c one.makes other.makes;
    goes = (
      map-append core_of_step one.steps other.steps ∙ ap (λ l. l ++ map core_of_step other.steps) one.goes.0 ∙ ap (λ l. cores ++ l) other.goes.0,
      All-append (λ (step : CoreStep). step.1 ≢ made.Memory) one.steps other.steps one.goes.1 other.goes.1,
    );
  }

  -- a run and then one that stops
  run_stops : (a b c : WeaveState S P) (cores more rest : List ℕ) (count : ℕ) → RunsTo t fits y app a cores went.All b → RunsTo t fits y app b more (went.Memory count) c → RunsTo t fits y app a (cores ++ (more ++ rest)) (went.Memory (length cores + count)) c
  run_stops a b c cores more rest count one other =
      let stops : StopsAfter more other.steps count = other.goes in
      let long : length one.steps ≡ length cores = sym (length-map one.steps core_of_step) ∙ ap (λ (l : List ℕ). length l) one.goes.0 in
      let many : length (take count more) ≡ count = ap (λ (l : List ℕ). length l) (sym stops.front) ∙ length-map other.steps core_of_step ∙ stops.counted in
      let few : count ≤ length more = (let short = length-take count more in omega (arith, many, short)) in
      let within : take (length cores + count) (cores ++ (more ++ rest)) ≡ cores ++ take count more =
      take-append-add cores (more ++ rest) count ∙ ap (λ l. cores ++ l) (take-append-le count more rest few) in
      record {
        steps = one.steps ++ other.steps;
        makes = makes_onward one.steps other.steps a b c one.makes other.makes;
        goes = record {
          counted = length-append one.steps other.steps ∙ ap (λ n. n + length other.steps) long ∙ ap (λ n. length cores + n) stops.counted;
          front = map-append core_of_step one.steps other.steps ∙ ap (λ l. l ++ map core_of_step other.steps) one.goes.0 ∙ ap (λ l. cores ++ l) stops.front ∙ sym within;
          earlier = one.steps ++ stops.earlier;
          core = stops.core;
          last = ap (λ l. one.steps ++ l) stops.last ∙ sym (append_assoc one.steps stops.earlier ((stops.core, made.Memory) ∷ []));
          none = All-append (λ (step : CoreStep). step.1 ≢ made.Memory) one.steps stops.earlier one.goes.1 stops.none;
        };
      }

-- one core so many times, and once more
once_more : (n : ℕ) (core : ℕ) → replicate (n + 1) core ≡ replicate n core ++ core ∷ []
once_more n core = sym (replicate-append-replicate n 1 core)

-- of so many times the first ones, the next one, and the others
times_apart : (n count core : ℕ) → n < count → replicate count core ≡ replicate n core ++ (core ∷ [] ++ replicate (count - n - 1) core)
times_apart n count core less =
    let total : n + (1 + (count - n - 1)) ≡ count = omega (arith, less) in
    ap (λ m. replicate m core) (sym total) ∙ sym (replicate-append-replicate n (1 + (count - n - 1)) core) ∙ ap (λ l. replicate n core ++ l) (sym (replicate-append-replicate 1 (count - n - 1) core))

-- a schedule spelled out by its parts
abbrev times_named : ℕ × ℕ → List ℕ
times_named part = replicate part.1 part.0

spelled_more : (schedule : List (ℕ × ℕ)) (i : ℕ) (d : ℕ × ℕ) → i < length schedule → spelled_out (take (suc i) schedule) ≡ spelled_out (take i schedule) ++ replicate (get_or schedule i d).1 (get_or schedule i d).0
spelled_more schedule i d less =
    ap spelled_out (take-suc schedule i d less) ∙ flat_map-append times_named (take i schedule) (get_or schedule i d ∷ []) ∙ ap (λ l. spelled_out (take i schedule) ++ l) (append-nil (times_named (get_or schedule i d)))

spelled_apart : (schedule : List (ℕ × ℕ)) (i : ℕ) (d : ℕ × ℕ) → i < length schedule → spelled_out schedule ≡ spelled_out (take i schedule) ++ (replicate (get_or schedule i d).1 (get_or schedule i d).0 ++ spelled_out (drop (suc i) schedule))
spelled_apart schedule i d less =
    let apart : schedule ≡ take i schedule ++ get_or schedule i d ∷ drop (suc i) schedule = sym (take-append-drop i schedule) ∙ ap (λ l. take i schedule ++ l) (drop-cons schedule i d less) in
    ap spelled_out apart ∙ flat_map-append times_named (take i schedule) (get_or schedule i d ∷ drop (suc i) schedule)

spelled_length : (schedule : List (ℕ × ℕ)) → length (spelled_out schedule) ≡ sum_by (λ part. part.1) schedule
spelled_length [] = refl
spelled_length (part ∷ schedule) =
    length-append (times_named part) (spelled_out schedule) ∙ ap (λ n. n + length (spelled_out schedule)) (length-replicate part.1 part.0) ∙ ap (λ n. part.1 + n) (spelled_length schedule) ∙ sym (sum_by-cons (λ (one : ℕ × ℕ). one.1) part schedule)

-- what a call asks, where setup and frame are as before
pub low_on : {S P : Type 0} (a b : WeaveState S P) (core : ℕ) → KeepsSetup a b → core < (shape_of a.setup).cores → core < (shape_of b.setup).cores
low_on a b core same low = subst (λ (setup : Setup). core < (shape_of setup).cores) (sym same.setup) low

pub serves_on : {R S P F : Type 0} (frame_of : S → F) (y : AppWords R P S F) (app : R) (a b : WeaveState S P) → KeepsSetup a b → AppServes y a.setup (frame_of a.given) app → AppServes y b.setup (frame_of b.given) app
serves_on frame_of y app a b same served = subst (λ given. AppServes y b.setup (frame_of given) app) (sym same.given) (subst (λ (setup : Setup). AppServes y setup (frame_of a.given) app) (sym same.setup) served)

module _ {R S P F : Type 0} (t : TrailWords S F) (fits : F → Colour → Event → Option P → Type 0) (y : AppWords R P S F) (app : R) (a b c : WeaveState S P) where
  -- a core so many times, and once more
  pub repeat_more : (n core : ℕ) (step : Made) → step ≢ made.Memory → RunsTo t fits y app a (replicate n core) went.All b → StepsWell t fits y app b core step c → RunsTo t fits y app a (replicate (n + 1) core) went.All c
  repeat_more n core step ne runs is =
      subst (λ (cores : List ℕ). RunsTo t fits y app a cores went.All c) (sym (once_more n core)) (run_onward t fits y app a b c (replicate n core) (core ∷ []) runs (run_one t fits y app b c core step ne is))

  -- a core so many times, but the next step met want of memory
  pub repeat_stops : (n count core : ℕ) (step : Made) → step ≡ made.Memory → n < count → RunsTo t fits y app a (replicate n core) went.All b → StepsWell t fits y app b core step c → RunsTo t fits y app a (replicate count core) (went.Memory (n + 1)) c
  repeat_stops n count core step want less runs is =
      let one : RunsTo t fits y app b (core ∷ []) (went.Memory 1) c = run_want t fits y app b c core (subst (λ (m : Made). StepsWell t fits y app b core m c) want is) in
      subst (λ (cores : List ℕ). RunsTo t fits y app a cores (went.Memory (n + 1)) c) (sym (times_apart n count core less))
      (subst (λ (m : ℕ). RunsTo t fits y app a (replicate n core ++ (core ∷ [] ++ replicate (count - n - 1) core)) (went.Memory (m + 1)) c) (length-replicate n core)
      (run_stops t fits y app a b c (replicate n core) (core ∷ []) (replicate (count - n - 1) core) 1 runs one))

  -- the parts of a schedule that came before, and the next one
  pub parts_more : (schedule : List (ℕ × ℕ)) (i : ℕ) (d : ℕ × ℕ) → i < length schedule → RunsTo t fits y app a (spelled_out (take i schedule)) went.All b → RunsTo t fits y app b (replicate (get_or schedule i d).1 (get_or schedule i d).0) went.All c → RunsTo t fits y app a (spelled_out (take (suc i) schedule)) went.All c
  parts_more schedule i d less one other = subst (λ (cores : List ℕ). RunsTo t fits y app a cores went.All c) (sym (spelled_more schedule i d less)) (run_onward t fits y app a b c (spelled_out (take i schedule)) (replicate (get_or schedule i d).1 (get_or schedule i d).0) one other)

  pub parts_stop : (schedule : List (ℕ × ℕ)) (i : ℕ) (d : ℕ × ℕ) (count : ℕ) → i < length schedule → RunsTo t fits y app a (spelled_out (take i schedule)) went.All b → RunsTo t fits y app b (replicate (get_or schedule i d).1 (get_or schedule i d).0) (went.Memory count) c → RunsTo t fits y app a (spelled_out schedule) (went.Memory (length (spelled_out (take i schedule)) + count)) c
  parts_stop schedule i d count less one other = subst (λ (cores : List ℕ). RunsTo t fits y app a cores (went.Memory (length (spelled_out (take i schedule)) + count)) c) (sym (spelled_apart schedule i d less)) (run_stops t fits y app a b c (spelled_out (take i schedule)) (replicate (get_or schedule i d).1 (get_or schedule i d).0) (spelled_out (drop (suc i) schedule)) count one other)

-- how many steps the parts name
pub parts_within : (schedule : List (ℕ × ℕ)) (i : ℕ) (d : ℕ × ℕ) → i < length schedule → length (spelled_out (take i schedule)) + (get_or schedule i d).1 ≤ sum_by (λ part. part.1) schedule
parts_within schedule i d less =
    let all = spelled_length schedule in
    let apart = ap (λ (l : List ℕ). length l) (spelled_apart schedule i d less) in
    let first = length-append (spelled_out (take i schedule)) (times_named (get_or schedule i d) ++ spelled_out (drop (suc i) schedule)) in
    let second = length-append (times_named (get_or schedule i d)) (spelled_out (drop (suc i) schedule)) in
    let own = length-replicate (get_or schedule i d).1 (get_or schedule i d).0 in
    omega (arith, all, apart, first, second, own)

pub parts_counted : (schedule : List (ℕ × ℕ)) (i : ℕ) (d : ℕ × ℕ) → i < length schedule → length (spelled_out (take i schedule)) + (get_or schedule i d).1 ≡ length (spelled_out (take (suc i) schedule))
parts_counted schedule i d less =
    let more = ap (λ (l : List ℕ). length l) (spelled_more schedule i d less) in
    let first = length-append (spelled_out (take i schedule)) (times_named (get_or schedule i d)) in
    let own = length-replicate (get_or schedule i d).1 (get_or schedule i d).0 in
    omega (arith, more, first, own)

-- a run stops within its steps
pub stops_within : {R S P F : Type 0} (t : TrailWords S F) (fits : F → Colour → Event → Option P → Type 0) (y : AppWords R P S F) (app : R) (a b : WeaveState S P) (cores : List ℕ) (count : ℕ) → RunsTo t fits y app a cores (went.Memory count) b → count ≤ length cores
stops_within t fits y app a b cores count runs =
    let stops : StopsAfter cores runs.steps count = runs.goes in
    let many : length (take count cores) ≡ count = ap (λ (l : List ℕ). length l) (sym stops.front) ∙ length-map runs.steps (λ (step : CoreStep). step.0) ∙ stops.counted in
    let short = length-take count cores in
    omega (arith, many, short)
