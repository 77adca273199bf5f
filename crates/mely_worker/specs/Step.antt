-- The worker's rule as a table: the line that applies is told by the worker's phase, what it has in
-- hand, the registrations and the events that are left, and its place in the hunt.
use Rattle.std.specs.Prelude.{ℕ, zero, suc, ◌≡◌, ◌+◌, ◌++◌, List, [], ◌∷◌, Option, None, Some, Result, Ok, Err, Bool, true, false, length, slice_get, nat_lt, if◌then◌else◌}
use Rattle.mely_event.specs.declared.colour.Colour.{Colour}
use Rattle.mely_event.specs.declared.event.Event.{Event}
use Rattle.mely_event.specs.declared.mark.Mark.{Mark}
use Rattle.mely_event.specs.declared.unregistered.Unregistered.{Unregistered}
use Rattle.mely_history.specs.declared.registered.Registered.{Registered}
use Rattle.mely_history.specs.declared.no_take.NoTake.{NoTake}
use Rattle.mely_history.specs.declared.no_take.NoTake.TheVariants as no_take
use Rattle.mely_history.specs.declared.no_steal.NoSteal.{NoSteal}
use Rattle.mely_history.specs.declared.no_steal.NoSteal.TheVariants as no_steal
use Rattle.mely_history.specs.declared.stolen.Stolen.{Stolen}
use Rattle.mely_history.specs.declared.after.After.{After}
use Rattle.mely_history.specs.declared.after.After.TheVariants.{More, Idle}
use Rattle.mely_queue.specs.Turn.{TurnState}
use Rattle.mely_worker.specs.declared.phase.Phase.{Phase}
use Rattle.mely_worker.specs.declared.phase.Phase.TheVariants.{Free, Popped, Picked, Landing, Pushing, Turning}
use Rattle.mely_worker.specs.declared.delivery.Delivery.{Delivery}
use Rattle.mely_worker.specs.declared.delivery.Delivery.TheVariants.{Nothing, PushMark, Report}
use Rattle.mely_worker.specs.declared.made.Made.{Made}
use Rattle.mely_worker.specs.declared.made.Made.TheVariants as made
use Rattle.mely_worker.specs.declared.access.Access.{Ghosts as AccessWords}
use Rattle.mely_worker.specs.declared.app.App.{Ghosts as AppWords}
use Rattle.mely_worker.specs.Delivery.{delivery_after}
use Rattle.mely_worker.specs.Worker.{WorkerState}

-- a line with a call: the call was made and gave an answer, which tells what the worker is
-- then and the step's name
pub record Line {Answer W : Type 0} (Called : Answer → Type 0) (next : Answer → W)
    (name : Answer → Made) (step : Made) (after : W) : Type 0 where
  pub answer : Answer
  pub called : Called answer
  pub becomes : after ≡ next answer
  pub named : step ≡ name answer

module _ {S P : Type 0} (worker : WorkerState S P) where
  -- the worker in another phase
  abbrev pub in_phase : Phase S P → WorkerState S P
  in_phase phase = record worker { phase = phase }

  -- the worker in another phase, halted
  abbrev pub halted_in : Phase S P → WorkerState S P
  halted_in phase = record worker { phase = phase; halted = true }

  -- what follows the registration of the first one put; without memory it is
  -- lost and the worker halted
  abbrev pub after_register : TurnState S P → List (Colour × Event × Option P) → Colour × Event
      × Option P → Result Registered (Unregistered P) → WorkerState S P
  after_register turn rest put (Ok answer) =
      in_phase (Turning turn (delivery_after put.0 answer) rest)
  after_register turn rest put (Err back) = record worker {
    phase = Turning turn Nothing rest;
    halted = true;
    lost = worker.lost ++ put ∷ [];
  }

  -- what follows a finish: the colour's mark is to go back on the own chain, where more of it waits
  abbrev pub after_finish : Colour → After → WorkerState S P
  after_finish colour (More started worth) =
      in_phase (Pushing worker.core (record { colour = colour; started = started; worth = worth }))
  after_finish colour Idle = in_phase (Free 0)

  -- what follows a take of the popped mark's colour: without memory the mark is to go back, else
  -- a refused mark is dropped
  abbrev pub after_take : Mark → Result (TurnState S P) NoTake → WorkerState S P
  after_take mark (Ok turn) = in_phase (Turning turn Nothing [])
  after_take mark (Err no_take.Memory) = halted_in (Pushing worker.core mark)
  after_take mark (Err (no_take.Elsewhere owner)) = in_phase (Free 0)
  after_take mark (Err (no_take.Busy core)) = in_phase (Free 0)
  after_take mark (Err (no_take.Empty registered)) = in_phase (Free 0)

  -- what follows a steal of the picked mark's colour: a new mark with what was told, without memory
  -- the mark is to go back to the victim, else it is dropped
  abbrev pub after_steal : Mark → ℕ → Result Stolen NoSteal → WorkerState S P
  after_steal mark victim (Ok stolen) =
      in_phase (Landing (record {
        colour = mark.colour;
        started = stolen.started;
        worth = stolen.worth;
      }))
  after_steal mark victim (Err no_steal.Memory) = halted_in (Pushing victim mark)
  after_steal mark victim (Err (no_steal.Pinned colour)) = in_phase (Free 0)
  after_steal mark victim (Err no_steal.Own) = in_phase (Free 0)
  after_steal mark victim (Err (no_steal.Busy core)) = in_phase (Free 0)
  after_steal mark victim (Err (no_steal.Empty registered)) = in_phase (Free 0)
  after_steal mark victim (Err (no_steal.Cheap worth)) = in_phase (Free 0)

  -- the next place of the hunt: 0 is the own chain, n the n-th victim, and after the last
  -- victim comes the own chain
  abbrev pub next_place : ℕ → ℕ
  next_place place = if nat_lt place (length worker.victims) then place + 1 else 0

  -- what follows a pop of the own chain
  abbrev pub after_pop : Option Mark → WorkerState S P
  after_pop (Some mark) = in_phase (Popped mark)
  after_pop None = in_phase (Free (next_place 0))

  -- what follows a pick at a victim
  abbrev pub after_pick : ℕ → ℕ → Option Mark → WorkerState S P
  after_pick place victim (Some mark) = in_phase (Picked mark victim)
  after_pick place victim None = in_phase (Free (next_place place))

-- the names of the steps
abbrev pub register_name : {P : Type 0} → Colour → Result Registered (Unregistered P) → Made
register_name colour (Ok answer) = made.Registered colour
register_name colour (Err back) = made.Memory

-- what a finish is called: whether the colour is ready again
abbrev pub finish_name : Colour → After → Made
finish_name colour (More started worth) = made.Finished colour true
finish_name colour Idle = made.Finished colour false

-- what a take is called: the colour and how many events, or why nothing was taken
abbrev pub take_name : {S P : Type 0} → Result (TurnState S P) NoTake → Made
take_name (Ok turn) = made.Took turn.colour turn.count
take_name (Err no_take.Memory) = made.Memory
take_name (Err (no_take.Elsewhere owner)) = made.NotTaken (no_take.Elsewhere owner)
take_name (Err (no_take.Busy core)) = made.NotTaken (no_take.Busy core)
take_name (Err (no_take.Empty registered)) = made.NotTaken (no_take.Empty registered)

-- what a steal is called: the colour and its owner before, or why nothing was stolen
abbrev pub steal_name : Colour → Result Stolen NoSteal → Made
steal_name colour (Ok stolen) = made.Stole colour stolen.from
steal_name colour (Err no_steal.Memory) = made.Memory
steal_name colour (Err (no_steal.Pinned pinned)) = made.NotStolen (no_steal.Pinned pinned)
steal_name colour (Err no_steal.Own) = made.NotStolen no_steal.Own
steal_name colour (Err (no_steal.Busy core)) = made.NotStolen (no_steal.Busy core)
steal_name colour (Err (no_steal.Empty registered)) = made.NotStolen (no_steal.Empty registered)
steal_name colour (Err (no_steal.Cheap worth)) = made.NotStolen (no_steal.Cheap worth)

-- what a pop is called: the colour of the mark, or that there is none
abbrev pub pop_name : Option Mark → Made
pop_name (Some mark) = made.Popped mark.colour
pop_name None = made.NoneHere

-- what a pick at a victim is called: the colour of the mark, or that there is none
abbrev pub pick_name : ℕ → Option Mark → Made
pick_name victim (Some mark) = made.Picked mark.colour victim
pick_name victim None = made.NoneThere victim

module _ {A R S P F : Type 0} (x : AccessWords A S P F) (y : AppWords R P S F) (app : R)
    (before : A) (worker : WorkerState S P) (step : Made) (after : A)
    (worker_after : WorkerState S P) where
  -- a line without a call: the handler of the next event ran, what it put is left to register,
  -- and the access is untouched
  pub record Runs (turn : TurnState S P) (event : Event × Option P)
      (rest : List (Event × Option P)) : Type 0 where
    pub state : S
    pub puts : List (Colour × Event × Option P)
    pub ran : y.runs app turn.state event.0 event.1 state puts
    pub becomes : worker_after ≡ in_phase worker
        (Turning (record turn { state = state; events = rest }) Nothing puts)
    pub named : step ≡ made.Ran turn.colour event.0.handler
    pub untouched : after ≡ before

  -- the step of a turn with no registration left, by the events that are left
  abbrev pub StepsTurn : TurnState S P → List (Event × Option P) → Type 0
  StepsTurn turn [] =
      Line (λ answer. x.finishes before turn answer after) (after_finish worker turn.colour)
      (finish_name turn.colour) step worker_after
  StepsTurn turn (event ∷ rest) = Runs turn event rest

  -- the step of a turn with an empty hand, by the registrations that are left
  abbrev pub StepsPuts : TurnState S P → List (Colour × Event × Option P) → Type 0
  StepsPuts turn [] = StepsTurn turn turn.events
  StepsPuts turn (put ∷ rest) = Line (λ answer. x.registers before put.0 put.1 put.2 answer after)
      (after_register worker turn rest put) (register_name put.0) step worker_after

  -- the step of a turn, by what is in hand
  abbrev pub StepsTurning : TurnState S P → Delivery → List (Colour × Event × Option P) → Type 0
  StepsTurning turn (PushMark core mark) puts =
      Line (λ answer. x.pushes before core mark answer after) (λ _.
      in_phase worker (Turning turn Nothing puts)) (λ _. made.Pushed mark.colour core)
      step worker_after
  StepsTurning turn (Report core colour started worth) puts =
      Line (λ found. x.retells before core colour started worth found after) (λ _.
      in_phase worker (Turning turn Nothing puts)) (λ found. made.Told colour core found)
      step worker_after
  StepsTurning turn Nothing puts = StepsPuts turn puts

  -- a hunt at the n-th victim, counted from 1, if there is one
  abbrev pub StepsHunt : ℕ → Option ℕ → Type 0
  StepsHunt place (Some victim) =
      Line (λ answer. x.picks before victim answer after) (after_pick worker place victim)
      (pick_name victim) step worker_after
  StepsHunt place None = ⊥

  -- the step of a free worker, by its place
  abbrev pub StepsFree : Bool → ℕ → Type 0
  StepsFree true place = (after ≡ before) × (worker_after ≡ worker) × (step ≡ made.Halted)
  StepsFree false zero =
      Line (λ answer. x.pops before answer after) (after_pop worker) pop_name step worker_after
  StepsFree false (suc n) = StepsHunt (suc n) (slice_get worker.victims n)

  -- the line that applies, by the phase
  abbrev pub StepsFrom : Phase S P → Type 0
  StepsFrom (Turning turn hand puts) = StepsTurning turn hand puts
  StepsFrom (Pushing core mark) = Line (λ answer. x.pushes before core mark answer after) (λ _.
      in_phase worker (Free 0)) (λ _. made.Pushed mark.colour core) step worker_after
  StepsFrom (Popped mark) =
      Line (λ answer. x.takes before mark.colour answer after) (after_take worker mark)
      take_name step worker_after
  StepsFrom (Picked mark victim) = Line (λ answer. x.steals before mark.colour answer after)
      (after_steal worker mark victim) (steal_name mark.colour) step worker_after
  StepsFrom (Landing mark) = Line (λ answer. x.pushes before worker.core mark answer after) (λ _.
      in_phase worker (Free 0)) (λ _. made.Landed mark.colour) step worker_after
  StepsFrom (Free place) = StepsFree worker.halted place

  -- the worker's rule: one step by the table
  abbrev pub Steps : Type 0
  Steps = StepsFrom worker.phase
