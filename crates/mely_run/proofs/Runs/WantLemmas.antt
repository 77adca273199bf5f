-- Where no worker is halted after steps, none of them met want of memory.
use Rattle.std.proofs.Common.{◌≡◌, ◌≢◌, ℕ, zero, suc, Bool, true, false, List, [], ◌∷◌, Option, None, Some, Result, Ok, Err, refl, sym, ap, subst, ◌∙◌, ⊎_elim}
use Rattle.std.specs.Prelude.{slice_get}
use Rattle.std.proofs.lemmas.Bool.{cases_eq, true≢false}
use Rattle.std.proofs.lemmas.Option.{same_Some}
use Rattle.std.proofs.lemmas.List.Elements.{All-nil, All-cons}
use Rattle.mely_event.specs.declared.colour.Colour.{Colour}
use Rattle.mely_event.specs.declared.event.Event.{Event}
use Rattle.mely_event.specs.declared.mark.Mark.{Mark}
use Rattle.mely_event.specs.declared.unregistered.Unregistered.{Unregistered}
use Rattle.mely_event.specs.declared.trail.Trail.{Ghosts as TrailWords}
use Rattle.mely_history.specs.declared.registered.Registered.{Registered}
use Rattle.mely_history.specs.declared.no_take.NoTake.{NoTake}
use Rattle.mely_history.specs.declared.no_take.NoTake.TheVariants as no_take
use Rattle.mely_history.specs.declared.no_steal.NoSteal.{NoSteal}
use Rattle.mely_history.specs.declared.no_steal.NoSteal.TheVariants as no_steal
use Rattle.mely_history.specs.declared.stolen.Stolen.{Stolen}
use Rattle.mely_history.specs.declared.after.After.{After}
use Rattle.mely_history.specs.declared.after.After.TheVariants.{More, Idle}
use Rattle.mely_queue.specs.Turn.{TurnState}
use Rattle.mely_worker.specs.declared.phase.Phase.{Phase}
use Rattle.mely_worker.specs.declared.phase.Phase.TheVariants as at
use Rattle.mely_worker.specs.declared.delivery.Delivery.{Delivery}
use Rattle.mely_worker.specs.declared.delivery.Delivery.TheVariants.{Nothing, PushMark, Report}
use Rattle.mely_worker.specs.declared.made.Made.{Made}
use Rattle.mely_worker.specs.declared.made.Made.TheVariants as names
use Rattle.mely_worker.specs.declared.app.App.{Ghosts as AppWords}
use Rattle.mely_worker.specs.Worker.{WorkerState}
use Rattle.mely_worker.specs.Step.{Line, Steps, StepsFrom, StepsTurning, StepsPuts, StepsTurn, StepsFree, StepsHunt, after_register, after_finish, after_take, after_steal, after_pop, after_pick, register_name, finish_name, take_name, steal_name, pop_name, pick_name}
use Rattle.mely_weave.specs.Side.{SideState}
use Rattle.mely_weave.specs.Calls.{weave_words}
use Rattle.mely_weave.specs.StandsWell.{side_of}
use Rattle.mely_weave.specs.Weave.{WeaveState}
use Rattle.mely_weave.specs.Steps.{StepsAt}
use Rattle.mely_weave.specs.Runs.{CoreStep, NoneMetWant, Makes}
use Rattle.mely_weave.specs.Drains.{SomeHalted, NoneHalted}
use Rattle.mely_weave.proofs.Entries.SideLemmas.{get_set_same, get_set_other}
use Rattle.mely_weave.proofs.Runs.SidedStepLemmas.{step_on_side}
use Rattle.mely_weave.proofs.Runs.RunLemmas.{step_stays}

module _ {R S P F : Type 0} (t : TrailWords S F) (y : AppWords R P S F) (app : R) (a b : SideState S P) (w v : WorkerState S P) (made : Made) (want : made ≡ names.Memory) where
  by_line : {Answer : Type 0} (Called : Answer → Type 0) (next : Answer → WorkerState S P) (name : Answer → Made) → ((answer : Answer) → name answer ≡ names.Memory → (next answer).halted ≡ true) → Line Called next name made v → v.halted ≡ true
  by_line Called next name halts line = ap (λ (u : WorkerState S P). u.halted) line.becomes ∙ halts line.answer (sym line.named ∙ want)

  register_want : (turn : TurnState S P) (rest : List (Colour × Event × Option P)) (put : Colour × Event × Option P) (answer : Result Registered (Unregistered P)) → register_name put.0 answer ≡ names.Memory → (after_register w turn rest put answer).halted ≡ true
  register_want turn rest put (Ok reply) e = cc
  register_want turn rest put (Err back) e = refl

  finish_want : (c : Colour) (answer : After) → finish_name c answer ≡ names.Memory → (after_finish w c answer).halted ≡ true
  finish_want c (More started worth) e = cc
  finish_want c Idle e = cc

  take_want : (mark : Mark) (answer : Result (TurnState S P) NoTake) → take_name answer ≡ names.Memory → (after_take w mark answer).halted ≡ true
  take_want mark (Ok turn) e = cc
  take_want mark (Err no_take.Memory) e = refl
  take_want mark (Err (no_take.Elsewhere owner)) e = cc
  take_want mark (Err (no_take.Busy core)) e = cc
  take_want mark (Err (no_take.Empty registered)) e = cc

  steal_want : (mark : Mark) (victim : ℕ) (answer : Result Stolen NoSteal) → steal_name mark.colour answer ≡ names.Memory → (after_steal w mark victim answer).halted ≡ true
  steal_want mark victim (Ok stolen) e = cc
  steal_want mark victim (Err no_steal.Memory) e = refl
  steal_want mark victim (Err (no_steal.Pinned colour)) e = cc
  steal_want mark victim (Err no_steal.Own) e = cc
  steal_want mark victim (Err (no_steal.Busy core)) e = cc
  steal_want mark victim (Err (no_steal.Empty registered)) e = cc
  steal_want mark victim (Err (no_steal.Cheap worth)) e = cc

  pop_want : (answer : Option Mark) → pop_name answer ≡ names.Memory → (after_pop w answer).halted ≡ true
  pop_want None e = cc
  pop_want (Some mark) e = cc

  pick_want : (place victim : ℕ) (answer : Option Mark) → pick_name victim answer ≡ names.Memory → (after_pick w place victim answer).halted ≡ true
  pick_want place victim None e = cc
  pick_want place victim (Some mark) e = cc

  turn_want : (turn : TurnState S P) (left : List (Event × Option P)) → StepsTurn (weave_words t) y app a w made b v turn left → v.halted ≡ true
  turn_want turn [] line = by_line _ _ _ (finish_want turn.colour) line
  turn_want turn (event ∷ rest) line = let e = sym line.named ∙ want in cc

  puts_want : (turn : TurnState S P) (puts : List (Colour × Event × Option P)) → StepsPuts (weave_words t) y app a w made b v turn puts → v.halted ≡ true
  puts_want turn [] line = turn_want turn turn.events line
  puts_want turn (put ∷ rest) line = by_line _ _ _ (register_want turn rest put) line

  turning_want : (turn : TurnState S P) (hand : Delivery) (puts : List (Colour × Event × Option P)) → StepsTurning (weave_words t) y app a w made b v turn hand puts → v.halted ≡ true
  turning_want turn Nothing puts line = puts_want turn puts line
  turning_want turn (PushMark to mark) puts line = by_line _ _ _ (λ answer e. cc) line
  turning_want turn (Report to c started worth) puts line = by_line _ _ _ (λ found e. cc) line

  hunt_want : (n : ℕ) (victim : Option ℕ) → StepsHunt (weave_words t) y app a w made b v (suc n) victim → v.halted ≡ true
  hunt_want n None line = absurd line
  hunt_want n (Some victim) line = by_line _ _ _ (pick_want (suc n) victim) line

  free_want : (halted : Bool) (place : ℕ) → StepsFree (weave_words t) y app a w made b v halted place → v.halted ≡ true
  free_want true place line = let e = sym line.2 ∙ want in cc
  free_want false zero line = by_line _ _ _ pop_want line
  free_want false (suc n) line = hunt_want n (slice_get w.victims n) line

  from_want : (phase : Phase S P) → StepsFrom (weave_words t) y app a w made b v phase → v.halted ≡ true
  from_want (at.Turning turn hand puts) line = turning_want turn hand puts line
  from_want (at.Pushing to mark) line = by_line _ _ _ (λ answer e. cc) line
  from_want (at.Popped mark) line = by_line _ _ _ (take_want mark) line
  from_want (at.Picked mark victim) line = by_line _ _ _ (steal_want mark victim) line
  from_want (at.Landing mark) line = by_line _ _ _ (λ answer e. cc) line
  from_want (at.Free place) line = free_want w.halted place line

  want_halts : Steps (weave_words t) y app a w made b v → v.halted ≡ true
  want_halts line = from_want w.phase line

module _ {R S P F : Type 0} (t : TrailWords S F) (fits : F → Colour → Event → Option P → Type 0) (y : AppWords R P S F) (app : R) where
  -- the worker that stepped, after the step
  becomes_there : (core : ℕ) (made : Made) (a b : WeaveState S P) → (is : StepsAt t y app a core made b) → slice_get b.workers core ≡ Some is.becomes
  becomes_there core made a b is = ap (λ (l : WeaveState S P). slice_get l.workers core) is.leaves ∙ get_set_same a.workers core is.worker is.becomes is.was

  halted_after : (core : ℕ) (made : Made) (a b : WeaveState S P) → StepsAt t y app a core made b → made ≡ names.Memory → SomeHalted b
  halted_after core made a b is want = record {
    core = core;
    worker = is.becomes;
    there = becomes_there core made a b is;
    halted = want_halts t y app (side_of a core) is.side is.worker is.becomes made want is.steps;
  }

  halted_still : (core : ℕ) (made : Made) (a b : WeaveState S P) → StepsAt t y app a core made b → SomeHalted a → SomeHalted b
  halted_still core made a b is some = ⊎_elim
      (λ (same : some.core ≡ core).
      let that : some.worker ≡ is.worker = same_Some some.worker is.worker (sym some.there ∙ ap (slice_get a.workers) same ∙ is.was) in
      record {
        core = core;
        worker = is.becomes;
        there = becomes_there core made a b is;
        halted = (step_stays t (λ _. Unit {0}) y app (side_of a core) is.side is.worker is.becomes made (step_on_side t y app (side_of a core) is.side is.worker is.becomes made is.steps)).halted (ap (λ (w : WorkerState S P). w.halted) (sym that) ∙ some.halted);
      })
      (λ (apart : some.core ≡ core → ⊥). record {
        core = some.core;
        worker = some.worker;
        there = ap (λ (l : WeaveState S P). slice_get l.workers some.core) is.leaves ∙ get_set_other a.workers core some.core is.becomes apart ∙ some.there;
        halted = some.halted;
      })
      (cases_eq some.core core)

  makes_halted : (steps : List CoreStep) (a b : WeaveState S P) → Makes t fits y app steps a b → SomeHalted a → SomeHalted b
  unfolding Makes
  makes_halted [] a b is some = subst (λ (l : WeaveState S P). SomeHalted l) (sym is) some
  makes_halted (step ∷ steps) a b is some = makes_halted steps is.0 b is.2 (halted_still step.0 step.1 a is.0 is.1.call.steps some)

  none_and_some : (l : WeaveState S P) → NoneHalted l → SomeHalted l → ⊥
  none_and_some l none some = true≢false (sym some.halted ∙ none some.core some.worker some.there)

  -- no step of these met want of memory
  pub makes_no_want : (steps : List CoreStep) (a b : WeaveState S P) → Makes t fits y app steps a b → NoneHalted b → NoneMetWant steps
  unfolding Makes
  makes_no_want [] a b is none = All-nil (λ step. step.1 ≢ names.Memory)
  makes_no_want (step ∷ steps) a b is none = All-cons (λ s. s.1 ≢ names.Memory) step steps
      (λ want. none_and_some b none (makes_halted steps is.0 b is.2 (halted_after step.0 step.1 a is.0 is.1.call.steps want)))
      (makes_no_want steps is.0 b is.2 none)
