-- What a run and a drain do is a list of step calls.
use Rattle.std.proofs.Common.{◌≡◌, ℕ, zero, suc, Option, List, [], ◌∷◌, subst, sym, refl, inl}
use Rattle.mely_event.specs.declared.colour.Colour.{Colour}
use Rattle.mely_event.specs.declared.event.Event.{Event}
use Rattle.mely_event.specs.declared.trail.Trail.{Ghosts as TrailWords}
use Rattle.mely_worker.specs.declared.app.App.{Ghosts as AppWords}
use Rattle.mely_worker.specs.declared.made.Made.{Made}
use Rattle.mely_weave.specs.Weave.{WeaveState}
use Rattle.mely_weave.specs.WeaveRun.{Call, WeaveRun, IsRun}
use Rattle.mely_weave.specs.Runs.{CoreStep, StepsWell, Makes}
use Rattle.mely_weave.specs.Drains.{Rounds, Drives, AreDriven}

module _ {R S P F : Type 0} (t : TrailWords S F) (fits : F → Colour → Event → Option P → Type 0) (y : AppWords R P S F) where
  -- no call, and one call more
  run_none : (a b : WeaveState S P) → b ≡ a → IsRun t fits y a b
  unfolding WeaveRun
  run_none a b same = (zero, same)

  run_more : (a b c : WeaveState S P) → IsRun t fits y a b → Call t fits y b c → IsRun t fits y a c
  unfolding WeaveRun
  run_more a b c run call = (suc run.0, (b, run.1, call))

  -- a run and then another
  run_on : (n : ℕ) (a b c : WeaveState S P) → IsRun t fits y a b → WeaveRun t fits y n b c → IsRun t fits y a c
  unfolding WeaveRun
  run_on zero a b c one same = subst (λ (l : WeaveState S P). IsRun t fits y a l) (sym same) one
  run_on (suc n) a b c one more = run_more a more.0 c (run_on n a b more.0 one more.1) more.2

  pub runs_on : (a b c : WeaveState S P) → IsRun t fits y a b → IsRun t fits y b c → IsRun t fits y a c
  runs_on a b c one other = run_on other.0 a b c one other.1

  module _ (app : R) where
    step_is_call : (core : ℕ) (step : Made) (a b : WeaveState S P) → StepsWell t fits y app a core step b → Call t fits y a b
    step_is_call core step a b is = inl (app, core, step, is.call)

    -- steps that are made one after another
    pub makes_is_run : (steps : List CoreStep) (a b : WeaveState S P) → Makes t fits y app steps a b → IsRun t fits y a b
    unfolding Makes
    makes_is_run [] a b same = run_none a b same
    makes_is_run (step ∷ steps) a b makes = runs_on a makes.0 b (run_more a a makes.0 (run_none a a refl) (step_is_call step.0 step.1 a makes.0 makes.1)) (makes_is_run steps makes.0 b makes.2)

    pub rounds_are_run : (n : ℕ) (a b : WeaveState S P) → Rounds t fits y app n a b → IsRun t fits y a b
    unfolding Rounds
    rounds_are_run zero a b same = run_none a b same
    rounds_are_run (suc n) a b rounds = runs_on a rounds.0 b (rounds_are_run n a rounds.0 rounds.1) (makes_is_run rounds.4.steps rounds.0 b rounds.4.makes)

    drives_are_run : (core n : ℕ) (a b : WeaveState S P) → Drives t fits y app core n a b → IsRun t fits y a b
    unfolding Drives
    drives_are_run core zero a b same = run_none a b same
    drives_are_run core (suc n) a b drives = run_more a drives.0 b (drives_are_run core n a drives.0 drives.1) (step_is_call core drives.3.0 drives.0 b drives.3.1)

    pub driven_are_run : (n : ℕ) (a b : WeaveState S P) → AreDriven t fits y app n a b → IsRun t fits y a b
    unfolding AreDriven
    driven_are_run zero a b same = run_none a b same
    driven_are_run (suc core) a b driven = runs_on a driven.0 b (driven_are_run core a driven.0 driven.1) (drives_are_run core driven.2.count driven.0 b driven.2.drives)
