-- A step over one access is a step over what that access shows of another.
use Rattle.std.proofs.Common.{ℕ, zero, suc, Bool, true, false, List, [], ◌∷◌, Option, Some, None, Result, ap}
use Rattle.std.specs.Prelude.{slice_get}
use Rattle.mely_event.specs.declared.event.Event.{Event}
use Rattle.mely_event.specs.declared.colour.Colour.{Colour}
use Rattle.mely_event.specs.declared.mark.Mark.{Mark}
use Rattle.mely_event.specs.declared.there.There.{There}
use Rattle.mely_event.specs.declared.unregistered.Unregistered.{Unregistered}
use Rattle.mely_history.specs.declared.registered.Registered.{Registered}
use Rattle.mely_history.specs.declared.no_take.NoTake.{NoTake}
use Rattle.mely_history.specs.declared.no_steal.NoSteal.{NoSteal}
use Rattle.mely_history.specs.declared.stolen.Stolen.{Stolen}
use Rattle.mely_history.specs.declared.after.After.{After}
use Rattle.mely_queue.specs.Turn.{TurnState}
use Rattle.mely_worker.specs.declared.phase.Phase.{Phase}
use Rattle.mely_worker.specs.declared.phase.Phase.TheVariants.{Free, Popped, Picked, Landing, Pushing, Turning}
use Rattle.mely_worker.specs.declared.delivery.Delivery.{Delivery}
use Rattle.mely_worker.specs.declared.delivery.Delivery.TheVariants.{Nothing, PushMark, Report}
use Rattle.mely_worker.specs.declared.made.Made.{Made}
use Rattle.mely_worker.specs.declared.access.Access.{Ghosts as AccessWords}
use Rattle.mely_worker.specs.declared.app.App.{Ghosts as AppWords}
use Rattle.mely_worker.specs.Worker.{WorkerState}
use Rattle.mely_worker.specs.Step.{Line, Steps, StepsFrom, StepsTurning, StepsPuts, StepsTurn, StepsHunt, StepsFree}

-- what is called under one relation is called under another
pub line_under : {Answer W : Type 0} {Called Called' : Answer → Type 0} {next : Answer → W} {name : Answer → Made} {step : Made} {after : W} → ((answer : Answer) → Called answer → Called' answer) → Line Called next name step after → Line Called' next name step after
line_under f line = record { answer = line.answer; called = f line.answer line.called; becomes = line.becomes; named = line.named }

-- the calls of one access are calls of what it shows
pub record Shows {B A S P F G : Type 0} (z : AccessWords B S P G) (x : AccessWords A S P F) (view : B → A) (b b' : B) : Type 0 where
  pub registers : (c : Colour) (event : Event) (load : Option P) (answer : Result Registered (Unregistered P)) → z.registers b c event load answer b' → x.registers (view b) c event load answer (view b')
  pub takes : (c : Colour) (answer : Result (TurnState S P) NoTake) → z.takes b c answer b' → x.takes (view b) c answer (view b')
  pub finishes : (turn : TurnState S P) (answer : After) → z.finishes b turn answer b' → x.finishes (view b) turn answer (view b')
  pub steals : (c : Colour) (answer : Result Stolen NoSteal) → z.steals b c answer b' → x.steals (view b) c answer (view b')
  pub pushes : (core : ℕ) (mark : Mark) (answer : Result (Unit {0}) There) → z.pushes b core mark answer b' → x.pushes (view b) core mark answer (view b')
  pub pops : (answer : Option Mark) → z.pops b answer b' → x.pops (view b) answer (view b')
  pub retells : (core : ℕ) (c : Colour) (started worth : ℕ) (found : Bool) → z.retells b core c started worth found b' → x.retells (view b) core c started worth found (view b')
  pub picks : (core : ℕ) (answer : Option Mark) → z.picks b core answer b' → x.picks (view b) core answer (view b')

module _ {B A R S P F : Type 0} (z : AccessWords B S P F) (x : AccessWords A S P F) (y : AppWords R P S F) (view : B → A) (app : R) (b : B) (w : WorkerState S P) (step : Made) (b' : B) (v : WorkerState S P) (shows : Shows z x view b b') where
  turn_under : (turn : TurnState S P) (left : List (Event × Option P)) → StepsTurn z y app b w step b' v turn left → StepsTurn x y app (view b) w step (view b') v turn left
  turn_under turn [] line = line_under (λ answer. shows.finishes turn answer) line
  turn_under turn (event ∷ rest) r = record { state = r.state; puts = r.puts; ran = r.ran; becomes = r.becomes; named = r.named; untouched = ap view r.untouched }

  puts_under : (turn : TurnState S P) (puts : List (Colour × Event × Option P)) → StepsPuts z y app b w step b' v turn puts → StepsPuts x y app (view b) w step (view b') v turn puts
  puts_under turn [] line = turn_under turn turn.events line
  puts_under turn (put ∷ rest) line = line_under (λ answer. shows.registers put.0 put.1 put.2 answer) line

  turning_under : (turn : TurnState S P) (hand : Delivery) (puts : List (Colour × Event × Option P)) → StepsTurning z y app b w step b' v turn hand puts → StepsTurning x y app (view b) w step (view b') v turn hand puts
  turning_under turn (PushMark core mark) puts line = line_under (λ answer. shows.pushes core mark answer) line
  turning_under turn (Report core colour started worth) puts line = line_under (λ found. shows.retells core colour started worth found) line
  turning_under turn Nothing puts line = puts_under turn puts line

  hunt_under : (place : ℕ) (victim : Option ℕ) → StepsHunt z y app b w step b' v place victim → StepsHunt x y app (view b) w step (view b') v place victim
  hunt_under place (Some victim) line = line_under (λ answer. shows.picks victim answer) line
  hunt_under place None line = absurd line

  free_under : (halted : Bool) (place : ℕ) → StepsFree z y app b w step b' v halted place → StepsFree x y app (view b) w step (view b') v halted place
  free_under true place line = (ap view line.0, line.1, line.2)
  free_under false zero line = line_under (λ answer. shows.pops answer) line
  free_under false (suc n) line = hunt_under (suc n) (slice_get w.victims n) line

  from_under : (phase : Phase S P) → StepsFrom z y app b w step b' v phase → StepsFrom x y app (view b) w step (view b') v phase
  from_under (Turning turn hand puts) line = turning_under turn hand puts line
  from_under (Pushing core mark) line = line_under (λ answer. shows.pushes core mark answer) line
  from_under (Popped mark) line = line_under (λ answer. shows.takes mark.colour answer) line
  from_under (Picked mark victim) line = line_under (λ answer. shows.steals mark.colour answer) line
  from_under (Landing mark) line = line_under (λ answer. shows.pushes w.core mark answer) line
  from_under (Free place) line = free_under w.halted place line

  -- a step at an access is a step at what it shows
  pub steps_under : Steps z y app b w step b' v → Steps x y app (view b) w step (view b') v
  steps_under line = from_under w.phase line
