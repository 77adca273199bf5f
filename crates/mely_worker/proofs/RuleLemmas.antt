-- What every step leaves of a worker.
use Rattle.std.proofs.Common.{◌≡◌, ℕ, zero, suc, Bool, true, false, List, [], ◌∷◌, Option, Some, None, Result, Ok, Err, refl}
use Rattle.std.specs.Prelude.{slice_get}
use Rattle.mely_event.specs.declared.colour.Colour.{Colour}
use Rattle.mely_event.specs.declared.event.Event.{Event}
use Rattle.mely_event.specs.declared.mark.Mark.{Mark}
use Rattle.mely_event.specs.declared.unregistered.Unregistered.{Unregistered}
use Rattle.mely_history.specs.declared.registered.Registered.{Registered}
use Rattle.mely_history.specs.declared.no_take.NoTake.{NoTake}
use Rattle.mely_history.specs.declared.no_take.NoTake.TheVariants as no_take
use Rattle.mely_history.specs.declared.no_steal.NoSteal.{NoSteal}
use Rattle.mely_history.specs.declared.no_steal.NoSteal.TheVariants as no_steal
use Rattle.mely_history.specs.declared.stolen.Stolen.{Stolen}
use Rattle.mely_history.specs.declared.after.After.{After}
use Rattle.mely_history.specs.declared.after.After.TheVariants.{More, Idle}
use Rattle.mely_queue.specs.Turn.{TurnState}
use Rattle.mely_worker.specs.declared.phase.Phase.{Phase}
use Rattle.mely_worker.specs.declared.phase.Phase.TheVariants.{Free, Popped, Picked, Landing, Pushing, Turning}
use Rattle.mely_worker.specs.declared.delivery.Delivery.{Delivery}
use Rattle.mely_worker.specs.declared.delivery.Delivery.TheVariants.{Nothing, PushMark, Report}
use Rattle.mely_worker.specs.declared.made.Made.{Made}
use Rattle.mely_worker.specs.declared.made.Made.TheVariants as made
use Rattle.mely_worker.specs.declared.access.Access.{Ghosts as AccessWords}
use Rattle.mely_worker.specs.declared.app.App.{Ghosts as AppWords}
use Rattle.mely_worker.specs.Worker.{WorkerState, IsSameWorker}
use Rattle.mely_worker.specs.Step.{Line, Steps, StepsFrom, StepsTurning, StepsPuts, StepsTurn, StepsHunt, StepsFree, after_register, after_finish, after_take, after_steal, after_pop, after_pick, register_name, finish_name, take_name, steal_name, pop_name, pick_name}

-- what a step leaves: the same worker, which stays halted, and is halted after want of memory
pub record Leaves {S P : Type 0} (w : WorkerState S P) (step : Made) (v : WorkerState S P) : Type 0 where
  pub worker : IsSameWorker w v
  pub halted : w.halted ≡ true → v.halted ≡ true
  pub memory : step ≡ made.Memory → v.halted ≡ true

-- a line leaves it where each of its answers does
by_answer : {Answer S P : Type 0} {Called : Answer → Type 0} {next : Answer → WorkerState S P} {name : Answer → Made} {w v : WorkerState S P} {step : Made} → ((answer : Answer) → Leaves w (name answer) (next answer)) → Line Called next name step v → Leaves w step v
by_answer {w = w} f line = rw (line.becomes, line.named) (f line.answer)

module _ {S P : Type 0} (w : WorkerState S P) where
  -- another phase alone
  moved : (step : Made) (phase : Phase S P) → ¬ (step ≡ made.Memory) → Leaves w step (record w { phase = phase })
  moved step phase other = record { worker = record { core = refl; batch = refl; victims = refl }; halted = λ h. h; memory = λ m. absurd (other m) }

  -- another phase, halted
  stopped : (step : Made) (phase : Phase S P) (lost : List (Colour × Event × Option P)) → Leaves w step (record w { phase = phase; halted = true; lost = lost })
  stopped step phase lost = record { worker = record { core = refl; batch = refl; victims = refl }; halted = λ _. refl; memory = λ _. refl }

  registered_leaves : (turn : TurnState S P) (rest : List (Colour × Event × Option P)) (put : Colour × Event × Option P) (answer : Result Registered (Unregistered P)) → Leaves w (register_name put.0 answer) (after_register w turn rest put answer)
  registered_leaves turn rest put (Ok answer) = moved _ _ (λ m. cc m)
  registered_leaves turn rest put (Err back) = stopped _ _ _

  finished_leaves : (c : Colour) (answer : After) → Leaves w (finish_name c answer) (after_finish w c answer)
  finished_leaves c (More started worth) = moved _ _ (λ m. cc m)
  finished_leaves c Idle = moved _ _ (λ m. cc m)

  taken_leaves : (mark : Mark) (answer : Result (TurnState S P) NoTake) → Leaves w (take_name answer) (after_take w mark answer)
  taken_leaves mark (Ok turn) = moved _ _ (λ m. cc m)
  taken_leaves mark (Err no_take.Memory) = stopped _ _ w.lost
  taken_leaves mark (Err (no_take.Elsewhere owner)) = moved _ _ (λ m. cc m)
  taken_leaves mark (Err (no_take.Busy core)) = moved _ _ (λ m. cc m)
  taken_leaves mark (Err (no_take.Empty registered)) = moved _ _ (λ m. cc m)

  stolen_leaves : (mark : Mark) (victim : ℕ) (answer : Result Stolen NoSteal) → Leaves w (steal_name mark.colour answer) (after_steal w mark victim answer)
  stolen_leaves mark victim (Ok stolen) = moved _ _ (λ m. cc m)
  stolen_leaves mark victim (Err no_steal.Memory) = stopped _ _ w.lost
  stolen_leaves mark victim (Err (no_steal.Pinned colour)) = moved _ _ (λ m. cc m)
  stolen_leaves mark victim (Err no_steal.Own) = moved _ _ (λ m. cc m)
  stolen_leaves mark victim (Err (no_steal.Busy core)) = moved _ _ (λ m. cc m)
  stolen_leaves mark victim (Err (no_steal.Empty registered)) = moved _ _ (λ m. cc m)
  stolen_leaves mark victim (Err (no_steal.Cheap worth)) = moved _ _ (λ m. cc m)

  popped_leaves : (answer : Option Mark) → Leaves w (pop_name answer) (after_pop w answer)
  popped_leaves (Some mark) = moved _ _ (λ m. cc m)
  popped_leaves None = moved _ _ (λ m. cc m)

  picked_leaves : (place victim : ℕ) (answer : Option Mark) → Leaves w (pick_name victim answer) (after_pick w place victim answer)
  picked_leaves place victim (Some mark) = moved _ _ (λ m. cc m)
  picked_leaves place victim None = moved _ _ (λ m. cc m)

module _ {A R S P F : Type 0} (x : AccessWords A S P F) (y : AppWords R P S F) (app : R) (before : A) (w : WorkerState S P) (step : Made) (after : A) (v : WorkerState S P) where
  turn_leaves : (turn : TurnState S P) (left : List (Event × Option P)) → StepsTurn x y app before w step after v turn left → Leaves w step v
  turn_leaves turn [] line = by_answer (finished_leaves w turn.colour) line
  turn_leaves turn (event ∷ rest) r = rw (r.becomes, r.named) (moved w _ _ (λ m. cc m))

  puts_leave : (turn : TurnState S P) (puts : List (Colour × Event × Option P)) → StepsPuts x y app before w step after v turn puts → Leaves w step v
  puts_leave turn [] line = turn_leaves turn turn.events line
  puts_leave turn (put ∷ rest) line = by_answer (registered_leaves w turn rest put) line

  turning_leaves : (turn : TurnState S P) (hand : Delivery) (puts : List (Colour × Event × Option P)) → StepsTurning x y app before w step after v turn hand puts → Leaves w step v
  turning_leaves turn (PushMark core mark) puts line = by_answer (λ answer. moved w _ _ (λ m. cc m)) line
  turning_leaves turn (Report core colour started worth) puts line = by_answer (λ found. moved w _ _ (λ m. cc m)) line
  turning_leaves turn Nothing puts line = puts_leave turn puts line

  hunt_leaves : (place : ℕ) (victim : Option ℕ) → StepsHunt x y app before w step after v place victim → Leaves w step v
  hunt_leaves place (Some victim) line = by_answer (picked_leaves w place victim) line
  hunt_leaves place None line = absurd line

  free_leaves : (halted : Bool) (place : ℕ) → StepsFree x y app before w step after v halted place → Leaves w step v
  free_leaves true place line = rw (line.1, line.2) (moved w _ _ (λ m. cc m))
  free_leaves false zero line = by_answer (popped_leaves w) line
  free_leaves false (suc n) line = hunt_leaves (suc n) (slice_get w.victims n) line

  from_leaves : (phase : Phase S P) → StepsFrom x y app before w step after v phase → Leaves w step v
  from_leaves (Turning turn hand puts) line = turning_leaves turn hand puts line
  from_leaves (Pushing core mark) line = by_answer (λ answer. moved w _ _ (λ m. cc m)) line
  from_leaves (Popped mark) line = by_answer (taken_leaves w mark) line
  from_leaves (Picked mark victim) line = by_answer (stolen_leaves w mark victim) line
  from_leaves (Landing mark) line = by_answer (λ answer. moved w _ _ (λ m. cc m)) line
  from_leaves (Free place) line = free_leaves w.halted place line

  -- what every step by the table leaves
  pub steps_leave : Steps x y app before w step after v → Leaves w step v
  steps_leave line = from_leaves w.phase line
