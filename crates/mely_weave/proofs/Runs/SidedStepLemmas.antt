-- A step of a weave, in which a mark that is pushed always enters, is a step on its side.
use Rattle.std.proofs.Common.{◌≡◌, ℕ, Result, Ok, sym, subst}
use Rattle.mely_event.specs.declared.mark.Mark.{Mark}
use Rattle.mely_event.specs.declared.there.There.{There}
use Rattle.mely_event.specs.declared.trail.Trail.{Ghosts as TrailWords}
use Rattle.mely_worker.specs.declared.made.Made.{Made}
use Rattle.mely_worker.specs.declared.app.App.{Ghosts as AppWords}
use Rattle.mely_worker.specs.Worker.{WorkerState}
use Rattle.mely_worker.specs.Step.{Steps}
use Rattle.mely_worker.proofs.ViewsLemmas.{steps_under}
use Rattle.mely_weave.specs.Side.{SideState}
use Rattle.mely_weave.specs.Calls.{AtChain, PushAs, side_words, weave_words}

module _ {R S P F : Type 0} (t : TrailWords S F) (y : AppWords R P S F) (app : R) (a b : SideState S P) (w v : WorkerState S P) (step : Made) where
  push_on_side : (core : ℕ) (mark : Mark) (answer : Result (Unit {0}) There) → (answer ≡ Ok tt) × AtChain a b core (PushAs mark (Ok tt)) → AtChain a b core (PushAs mark answer)
  push_on_side core mark answer called = subst (λ (r : Result (Unit {0}) There). AtChain a b core (PushAs mark r)) (sym called.0) called.1

  pub step_on_side : Steps (weave_words t) y app a w step b v → Steps (side_words t (λ _. Unit {0})) y app a w step b v
  step_on_side line = steps_under (weave_words t) (side_words t (λ _. Unit {0})) y (λ (s : SideState S P). s) app a w step b v (record {
    registers = λ c event load answer called. called;
    takes = λ c answer called. called;
    finishes = λ turn answer called. called;
    steals = λ c answer called. called;
    pushes = push_on_side;
    pops = λ answer called. called;
    retells = λ core c started worth found called. called;
    picks = λ core answer called. called;
  }) line
