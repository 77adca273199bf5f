-- What a worker has lost stays lost, and a halted one stays halted, over each line of its rule.
use Rattle.std.proofs.Common.{◌≡◌, ℕ, zero, suc, Option, Some, None, Result, Ok, Err, Bool, true, false, List, [], ◌∷◌, ◌++◌, refl, sym, ap, ◌∙◌, subst, append-nil, append_assoc}
use Rattle.std.specs.Prelude.{slice_get}
use Rattle.mely_event.specs.declared.colour.Colour.{Colour}
use Rattle.mely_event.specs.declared.event.Event.{Event}
use Rattle.mely_event.specs.declared.mark.Mark.{Mark}
use Rattle.mely_event.specs.declared.unregistered.Unregistered.{Unregistered}
use Rattle.mely_event.specs.declared.trail.Trail.{Ghosts as TrailWords}
use Rattle.mely_history.specs.declared.registered.Registered.{Registered}
use Rattle.mely_history.specs.declared.no_take.NoTake.{NoTake}
use Rattle.mely_history.specs.declared.no_take.NoTake.TheVariants as no_take
use Rattle.mely_history.specs.declared.no_steal.NoSteal.{NoSteal}
use Rattle.mely_history.specs.declared.no_steal.NoSteal.TheVariants as no_steal
use Rattle.mely_history.specs.declared.stolen.Stolen.{Stolen}
use Rattle.mely_history.specs.declared.after.After.{After}
use Rattle.mely_history.specs.declared.after.After.TheVariants.{More, Idle}
use Rattle.mely_queue.specs.Turn.{TurnState}
use Rattle.mely_worker.specs.declared.phase.Phase.{Phase}
use Rattle.mely_worker.specs.declared.phase.Phase.TheVariants.{Free, Popped, Picked, Landing, Pushing, Turning}
use Rattle.mely_worker.specs.declared.delivery.Delivery.{Delivery}
use Rattle.mely_worker.specs.declared.delivery.Delivery.TheVariants.{Nothing, PushMark, Report}
use Rattle.mely_worker.specs.declared.made.Made.{Made}
use Rattle.mely_worker.specs.declared.access.Access.{Ghosts as AccessWords}
use Rattle.mely_worker.specs.declared.app.App.{Ghosts as AppWords}
use Rattle.mely_worker.specs.Worker.{WorkerState}
use Rattle.mely_worker.specs.Step.{Steps, StepsFrom, StepsTurning, StepsPuts, StepsTurn, StepsHunt, StepsFree, after_register, after_finish, after_take, after_steal, after_pop, after_pick}
use Rattle.mely_fleet.specs.Work.{Standpoint, words, MakesSteps}
use Rattle.mely_fleet.specs.Working.{KeepsLosses}

module _ {S P : Type 0} where
  -- nothing was lost
  keeps_same : (w v : WorkerState S P) → v.lost ≡ w.lost → (w.halted ≡ true → v.halted ≡ true) → KeepsLosses w v
  keeps_same w v same halted = record { lost = ([], same ∙ sym (append-nil w.lost)); halted = halted }

  keeps_itself : (w : WorkerState S P) → KeepsLosses w w
  keeps_itself w = keeps_same w w refl (λ is. is)

  keeps_onward : (u v w : WorkerState S P) → KeepsLosses u v → KeepsLosses v w → KeepsLosses u w
  keeps_onward u v w one other = record {
    lost = (one.lost.0 ++ other.lost.0, other.lost.1 ∙ ap (λ l. l ++ other.lost.0) one.lost.1 ∙ append_assoc u.lost one.lost.0 other.lost.0);
    halted = λ is. other.halted (one.halted is);
  }

  -- what follows each call
  after_register_keeps : (w : WorkerState S P) (turn : TurnState S P) (rest : List (Colour × Event × Option P)) (put : Colour × Event × Option P) (answer : Result Registered (Unregistered P)) → KeepsLosses w (after_register w turn rest put answer)
  after_register_keeps w turn rest put (Ok reply) = keeps_same w _ refl (λ is. is)
  after_register_keeps w turn rest put (Err back) = record { lost = (put ∷ [], refl); halted = λ is. refl }

  after_finish_keeps : (w : WorkerState S P) (c : Colour) (answer : After) → KeepsLosses w (after_finish w c answer)
  after_finish_keeps w c (More started worth) = keeps_same w _ refl (λ is. is)
  after_finish_keeps w c Idle = keeps_same w _ refl (λ is. is)

  after_take_keeps : (w : WorkerState S P) (mark : Mark) (answer : Result (TurnState S P) NoTake) → KeepsLosses w (after_take w mark answer)
  after_take_keeps w mark (Ok turn) = keeps_same w _ refl (λ is. is)
  after_take_keeps w mark (Err no_take.Memory) = keeps_same w _ refl (λ is. refl)
  after_take_keeps w mark (Err (no_take.Elsewhere owner)) = keeps_same w _ refl (λ is. is)
  after_take_keeps w mark (Err (no_take.Busy core)) = keeps_same w _ refl (λ is. is)
  after_take_keeps w mark (Err (no_take.Empty registered)) = keeps_same w _ refl (λ is. is)

  after_steal_keeps : (w : WorkerState S P) (mark : Mark) (victim : ℕ) (answer : Result Stolen NoSteal) → KeepsLosses w (after_steal w mark victim answer)
  after_steal_keeps w mark victim (Ok stolen) = keeps_same w _ refl (λ is. is)
  after_steal_keeps w mark victim (Err no_steal.Memory) = keeps_same w _ refl (λ is. refl)
  after_steal_keeps w mark victim (Err (no_steal.Pinned colour)) = keeps_same w _ refl (λ is. is)
  after_steal_keeps w mark victim (Err no_steal.Own) = keeps_same w _ refl (λ is. is)
  after_steal_keeps w mark victim (Err (no_steal.Busy core)) = keeps_same w _ refl (λ is. is)
  after_steal_keeps w mark victim (Err (no_steal.Empty registered)) = keeps_same w _ refl (λ is. is)
  after_steal_keeps w mark victim (Err (no_steal.Cheap worth)) = keeps_same w _ refl (λ is. is)

  after_pop_keeps : (w : WorkerState S P) (answer : Option Mark) → KeepsLosses w (after_pop w answer)
  after_pop_keeps w None = keeps_same w _ refl (λ is. is)
  after_pop_keeps w (Some mark) = keeps_same w _ refl (λ is. is)

  after_pick_keeps : (w : WorkerState S P) (place victim : ℕ) (answer : Option Mark) → KeepsLosses w (after_pick w place victim answer)
  after_pick_keeps w place victim None = keeps_same w _ refl (λ is. is)
  after_pick_keeps w place victim (Some mark) = keeps_same w _ refl (λ is. is)

module _ {A R S P F : Type 0} (x : AccessWords A S P F) (y : AppWords R P S F) (app : R) (a b : A) (w : WorkerState S P) (step : Made) (v : WorkerState S P) where
  -- by what the worker is then
  by_next : (u : WorkerState S P) → v ≡ u → KeepsLosses w u → KeepsLosses w v
  by_next u is = subst (λ z. KeepsLosses w z) (sym is)

  turn_keeps : (turn : TurnState S P) (left : List (Event × Option P)) → StepsTurn x y app a w step b v turn left → KeepsLosses w v
  turn_keeps turn [] line = by_next _ line.becomes (after_finish_keeps w turn.colour line.answer)
  turn_keeps turn (event ∷ rest) runs = by_next _ runs.becomes (keeps_same w _ refl (λ is. is))

  puts_keeps : (turn : TurnState S P) (puts : List (Colour × Event × Option P)) → StepsPuts x y app a w step b v turn puts → KeepsLosses w v
  puts_keeps turn [] line = turn_keeps turn turn.events line
  puts_keeps turn (put ∷ rest) line = by_next _ line.becomes (after_register_keeps w turn rest put line.answer)

  turning_keeps : (turn : TurnState S P) (hand : Delivery) (puts : List (Colour × Event × Option P)) → StepsTurning x y app a w step b v turn hand puts → KeepsLosses w v
  turning_keeps turn (PushMark core mark) puts line = by_next _ line.becomes (keeps_same w _ refl (λ is. is))
  turning_keeps turn (Report core colour started worth) puts line = by_next _ line.becomes (keeps_same w _ refl (λ is. is))
  turning_keeps turn Nothing puts line = puts_keeps turn puts line

  hunt_keeps : (place : ℕ) (victim : Option ℕ) → StepsHunt x y app a w step b v place victim → KeepsLosses w v
  hunt_keeps place (Some victim) line = by_next _ line.becomes (after_pick_keeps w place victim line.answer)
  hunt_keeps place None line = absurd line

  free_keeps : (halted : Bool) (place : ℕ) → StepsFree x y app a w step b v halted place → KeepsLosses w v
  free_keeps true place line = by_next w line.1 (keeps_itself w)
  free_keeps false zero line = by_next _ line.becomes (after_pop_keeps w line.answer)
  free_keeps false (suc n) line = hunt_keeps (suc n) (slice_get w.victims n) line

  from_keeps : (phase : Phase S P) → StepsFrom x y app a w step b v phase → KeepsLosses w v
  from_keeps (Turning turn hand puts) line = turning_keeps turn hand puts line
  from_keeps (Pushing core mark) line = by_next _ line.becomes (keeps_same w _ refl (λ is. is))
  from_keeps (Popped mark) line = by_next _ line.becomes (after_take_keeps w mark line.answer)
  from_keeps (Picked mark victim) line = by_next _ line.becomes (after_steal_keeps w mark victim line.answer)
  from_keeps (Landing mark) line = by_next _ line.becomes (keeps_same w _ refl (λ is. is))
  from_keeps (Free place) line = free_keeps w.halted place line

  step_keeps : Steps x y app a w step b v → KeepsLosses w v
  step_keeps line = from_keeps w.phase line

module _ {R S P F : Type 0} (t : TrailWords S F) (fits : F → Colour → Event → Option P → Type 0) (y : AppWords R P S F) (app : R) where
  -- and so over all steps that a worker makes
  pub steps_keep : (steps : List Made) (a b : Standpoint S P F) (w v : WorkerState S P) → MakesSteps t fits y app steps a w b v → KeepsLosses w v
  steps_keep [] a b w v made = subst (λ z. KeepsLosses w z) (sym made.1) (keeps_itself w)
  steps_keep (step ∷ later) a b w v (c, d, u, looked, one, rest) = keeps_onward w u v (step_keeps (words t fits) y app c d w step u one.steps) (steps_keep later d b u v rest)
