-- A step of a worker whose gate was passed is a step of the app behind the gate.
use Rattle.std.proofs.Common.{◌≡◌, refl, sym, subst, ℕ, zero, suc, Bool, true, false, List, [], ◌∷◌, Option, Some, None}
use Rattle.std.specs.Prelude.{slice_get}
use Rattle.mely_event.specs.declared.event.Event.{Event}
use Rattle.mely_event.specs.declared.colour.Colour.{Colour}
use Rattle.mely_event.specs.declared.trail.Trail.{Ghosts as TrailWords}
use Rattle.mely_queue.specs.Turn.{TurnState}
use Rattle.mely_worker.specs.declared.phase.Phase.{Phase}
use Rattle.mely_worker.specs.declared.phase.Phase.TheVariants.{Free, Popped, Picked, Landing, Pushing, Turning}
use Rattle.mely_worker.specs.declared.delivery.Delivery.{Delivery}
use Rattle.mely_worker.specs.declared.delivery.Delivery.TheVariants.{Nothing, PushMark, Report}
use Rattle.mely_worker.specs.declared.made.Made.{Made}
use Rattle.mely_worker.specs.declared.access.Access.{Ghosts as AccessWords}
use Rattle.mely_worker.specs.declared.app.App.{Ghosts as AppWords}
use Rattle.mely_worker.specs.Conditions.{MayStepAt, PhaseMayStep}
use Rattle.mely_worker.specs.Gated.{FirstHasPassed, HasPassed, PhaseHasPassed, behind}
use Rattle.mely_worker.specs.Worker.{WorkerState}
use Rattle.mely_worker.specs.Step.{Steps, StepsFrom, StepsTurning, StepsPuts, StepsTurn, StepsHunt, StepsFree}

-- what the next handler of the worker does under one app's words, it does under another's
abbrev pub NextTells : {R S P F G : Type 0} (y : AppWords R P S F) (y' : AppWords R P S G) (app : R) (w : WorkerState S P) → Type 0
NextTells {S = S} {P = P} y y' app w = (turn : TurnState S P) (event : Event × Option P) (rest : List (Event × Option P)) (state : S) (puts : List (Colour × Event × Option P)) → w.phase ≡ Turning turn Nothing [] → turn.events ≡ event ∷ rest → y.runs app turn.state event.0 event.1 state puts → y'.runs app turn.state event.0 event.1 state puts

module _ {A R S P F : Type 0} (x : AccessWords A S P F) (y y' : AppWords R P S F) (app : R) (a : A) (w : WorkerState S P) (step : Made) (b : A) (v : WorkerState S P) (tells : NextTells y y' app w) where
  turn_tells : (turn : TurnState S P) (left : List (Event × Option P)) → w.phase ≡ Turning turn Nothing [] → turn.events ≡ left → StepsTurn x y app a w step b v turn left → StepsTurn x y' app a w step b v turn left
  turn_tells turn [] at is line = line
  turn_tells turn (event ∷ rest) at is r = record { state = r.state; puts = r.puts; ran = tells turn event rest r.state r.puts at is r.ran; becomes = r.becomes; named = r.named; untouched = r.untouched }

  puts_tell : (turn : TurnState S P) (puts : List (Colour × Event × Option P)) → w.phase ≡ Turning turn Nothing puts → StepsPuts x y app a w step b v turn puts → StepsPuts x y' app a w step b v turn puts
  puts_tell turn [] at line = turn_tells turn turn.events at refl line
  puts_tell turn (put ∷ rest) at line = line

  turning_tells : (turn : TurnState S P) (hand : Delivery) (puts : List (Colour × Event × Option P)) → w.phase ≡ Turning turn hand puts → StepsTurning x y app a w step b v turn hand puts → StepsTurning x y' app a w step b v turn hand puts
  turning_tells turn (PushMark core mark) puts at line = line
  turning_tells turn (Report core colour started worth) puts at line = line
  turning_tells turn Nothing puts at line = puts_tell turn puts at line

  hunt_tells : (place : ℕ) (victim : Option ℕ) → StepsHunt x y app a w step b v place victim → StepsHunt x y' app a w step b v place victim
  hunt_tells place (Some victim) line = line
  hunt_tells place None line = absurd line

  free_tells : (halted : Bool) (place : ℕ) → StepsFree x y app a w step b v halted place → StepsFree x y' app a w step b v halted place
  free_tells true place line = line
  free_tells false zero line = line
  free_tells false (suc n) line = hunt_tells (suc n) (slice_get w.victims n) line

  from_tells : (phase : Phase S P) → w.phase ≡ phase → StepsFrom x y app a w step b v phase → StepsFrom x y' app a w step b v phase
  from_tells (Turning turn hand puts) at line = turning_tells turn hand puts at line
  from_tells (Pushing core mark) at line = line
  from_tells (Popped mark) at line = line
  from_tells (Picked mark victim) at line = line
  from_tells (Landing mark) at line = line
  from_tells (Free place) at line = free_tells w.halted place line

  -- a step of the one is a step of the other
  pub steps_tell : Steps x y app a w step b v → Steps x y' app a w step b v
  steps_tell line = from_tells w.phase refl line

-- where the gate was passed, the next handler did what it does behind the gate
behind_tells : {A R S P F : Type 0} (t : TrailWords S F) (fits : F → Colour → Event → Option P → Type 0) (x : AccessWords A S P F) (y : AppWords R P S F) (app : R) (passed : ℕ → Colour → Event → Type 0) (a : A) (w : WorkerState S P) → MayStepAt t fits x a w → HasPassed passed w → NextTells y (behind t (passed w.core) y) app w
behind_tells {P = P} t fits x y app passed a w may has = λ turn event rest state puts at left ran.
    let stands = subst (PhaseMayStep t fits (x.setup_of a) (x.core_of a) (x.frame_of a) (x.owes a)) at may.phase in
    let first : FirstHasPassed {P = P} (passed w.core) turn.colour turn.events = subst (PhaseHasPassed (passed w.core)) at has in
    let one : FirstHasPassed {P = P} (passed w.core) turn.colour (event ∷ rest) = subst (FirstHasPassed {P = P} (passed w.core) turn.colour) left first in
    (ran, subst (λ c. passed w.core c event.0) (sym stands.of_turn.of_colour) one)

module _ {A R S P F : Type 0} (t : TrailWords S F) (fits : F → Colour → Event → Option P → Type 0) (x : AccessWords A S P F) (y : AppWords R P S F) (app : R) where
  -- a step that passed its gate is one of the app behind the gate
  pub steps_behind : (passed : ℕ → Colour → Event → Type 0) (a : A) (w : WorkerState S P) (step : Made) (b : A) (v : WorkerState S P) → MayStepAt t fits x a w → HasPassed passed w → Steps x y app a w step b v → Steps x (behind t (passed w.core) y) app a w step b v
  steps_behind passed a w step b v may has = steps_tell x y (behind t (passed w.core) y) app a w step b v (behind_tells t fits x y app passed a w may has)

  -- a step of the app behind a gate is one of the app
  pub steps_without : (passed : Colour → Event → Type 0) (a : A) (w : WorkerState S P) (step : Made) (b : A) (v : WorkerState S P) → Steps x (behind t passed y) app a w step b v → Steps x y app a w step b v
  steps_without passed a w step b v = steps_tell x (behind t passed y) y app a w step b v (λ turn event rest state puts at left ran. ran.0)

  -- a step of the app behind a gate is one behind another, of which as much was told
  pub steps_through : (passed told : Colour → Event → Type 0) (a : A) (w : WorkerState S P) (step : Made) (b : A) (v : WorkerState S P) → ((c : Colour) (event : Event) → passed c event → told c event) → Steps x (behind t passed y) app a w step b v → Steps x (behind t told y) app a w step b v
  steps_through passed told a w step b v more = steps_tell x (behind t passed y) (behind t told y) app a w step b v (λ turn event rest state puts at left ran. (ran.0, more (t.colour_of turn.state) event.0 ran.1))
