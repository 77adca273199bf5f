-- What is said of a side that is lent, by what it shows.
use Rattle.std.proofs.Common.{ℕ, List, Option, Result, Ok, Err}
use Rattle.std.specs.Prelude.{IfOk}
use Rattle.mely_event.specs.declared.colour.Colour.{Colour}
use Rattle.mely_event.specs.declared.event.Event.{Event}
use Rattle.mely_event.specs.declared.trail.Trail.{Ghosts as TrailWords}
use Rattle.mely_history.specs.declared.setup.Setup.{Setup}
use Rattle.mely_queue.specs.Turn.{TurnState}
use Rattle.mely_worker.specs.declared.access.Access.{Ghosts as AccessWords}
use Rattle.mely_worker.specs.declared.app.App.{Ghosts as AppWords}
use Rattle.mely_worker.specs.declared.made.Made.{Made}
use Rattle.mely_worker.specs.Access.{IsTaken, IsSpent}
use Rattle.mely_worker.specs.Step.{Steps}
use Rattle.mely_worker.specs.Worker.{WorkerState}
use Rattle.mely_worker.proofs.ViewsLemmas.{steps_under}
use Rattle.mely_weave.specs.declared.side.Side.{Side}
use Rattle.mely_weave.specs.Side.{SideState}
use Rattle.mely_weave.specs.Sides.{side_state, IsLentOn}
use Rattle.mely_weave.specs.Calls.{AtShard, AtChain, RegisterAs, TakeAs, FinishAs, StealAs, PushAs, PopAs, RetellAs, PickAs, IsOut, side_words}

module _ {A B S P F : Type 0} (view : B → A) (t : TrailWords S F) (setup_of : A → Setup) (frame_of : A → F) (owes : A → Colour → ℕ → ℕ → List Event → Type 0) where
  -- a turn whose events were run
  pub spent_shown : (b : B) (turn : TurnState S P) → IsSpent t (λ s. setup_of (view s)) (λ s. frame_of (view s)) (λ s. owes (view s)) b turn → IsSpent t setup_of frame_of owes (view b) turn
  spent_shown b turn spent = record { of_setup = spent.of_setup; none_left = spent.none_left; of_colour = spent.of_colour; of_frame = spent.of_frame; owed = spent.owed }

  -- the turn that a take gives
  pub taken_shown : {E : Type 0} (fits : F → Colour → Event → Option P → Type 0) (core_of : A → ℕ) (b b' : B) (c : Colour) (answer : Result (TurnState S P) E) → IfOk answer (λ turn. IsTaken t fits setup_of core_of frame_of owes (view b) (view b') c turn)
      → IfOk answer (λ turn. IsTaken t fits (λ s. setup_of (view s)) (λ s. core_of (view s)) (λ s. frame_of (view s)) (λ s. owes (view s)) b b' c turn)
  taken_shown fits core_of b b' c (Ok turn) is = record { colour = is.colour; core = is.core; count = is.count; few = is.few; of_colour = is.of_colour; of_frame = is.of_frame; events_fit = is.events_fit; owed = is.owed }
  taken_shown fits core_of b b' c (Err why) is = tt

-- what contracts see of a side that is lent
abbrev pub lent_words : {S P F : Type 0} → TrailWords S F → (F → Colour → Event → Option P → Type 0) → AccessWords (Side S P F) S P F
lent_words t fits = record {
  setup_of = λ a. a.shared.now.setup;
  core_of = λ a. a.core;
  frame_of = λ a. t.frame_of a.shared.now.given;
  owes = λ a c core count trail. IsOut (side_state a) c core count trail;
  keeps = λ a b. IsLentOn t fits a b;
  registers = λ a c event load answer b. AtShard (side_state a) (side_state b) c (RegisterAs c event load a.core answer);
  takes = λ a c answer b. AtShard (side_state a) (side_state b) c (TakeAs c a.core answer);
  finishes = λ a turn answer b. AtShard (side_state a) (side_state b) turn.colour (FinishAs turn answer);
  steals = λ a c answer b. AtShard (side_state a) (side_state b) c (StealAs c a.core answer);
  pushes = λ a core mark answer b. AtChain (side_state a) (side_state b) core (PushAs mark answer);
  pops = λ a answer b. AtChain (side_state a) (side_state b) a.core (PopAs answer);
  retells = λ a core c started worth found b. AtChain (side_state a) (side_state b) core (RetellAs c started worth found);
  picks = λ a core answer b. AtChain (side_state a) (side_state b) core (PickAs answer);
}

module _ {S P F : Type 0} (t : TrailWords S F) (fits : F → Colour → Event → Option P → Type 0) (Keep : SideState S P → Type 0) (a b : Side S P F) where
  -- a step at a side that is lent is a step at what it shows
  pub lent_steps : {R : Type 0} (y : AppWords R P S F) (app : R) (w v : WorkerState S P) (made : Made) → Steps (lent_words t fits) y app a w made b v → Steps (side_words t Keep) y app (side_state a) w made (side_state b) v
  lent_steps y app w v made line = steps_under (lent_words t fits) (side_words t Keep) y side_state app a w made b v (record {
    registers = λ c event load answer h. h;
    takes = λ c answer h. h;
    finishes = λ turn answer h. h;
    steals = λ c answer h. h;
    pushes = λ core mark answer h. h;
    pops = λ answer h. h;
    retells = λ core c started worth found h. h;
    picks = λ core answer h. h;
  }) line
