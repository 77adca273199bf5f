-- Steps that are made one after another.
use Rattle.std.proofs.Common.{◌≤◌, ℕ, List, [], ◌∷◌, ◌++◌, Option, sym, subst, ap, arith}
use Rattle.mely_event.specs.declared.colour.Colour.{Colour}
use Rattle.mely_event.specs.declared.event.Event.{Event}
use Rattle.mely_event.specs.declared.trail.Trail.{Ghosts as TrailWords}
use Rattle.mely_history.specs.Setup.{shape_of}
use Rattle.mely_worker.specs.declared.app.App.{Ghosts as AppWords}
use Rattle.mely_worker.specs.declared.made.Made.{Made}
use Rattle.mely_weave.specs.Runs.{CoreStep, KeepsSetup, Makes, StepsWell}
use Rattle.mely_weave.specs.StandsWell.{StandsWell}
use Rattle.mely_weave.specs.Weave.{WeaveState}
use Rattle.mely_weave.specs.WeaveRun.{IsRun}
use Rattle.mely_weave.proofs.Runs.CallRunsLemmas.{makes_is_run}
use Rattle.mely_weave.proofs.Runs.RunLemmas.{makes_none, makes_one, makes_onward, makes_same}
use Rattle.mely_tally.specs.Account.{IsAccounted}
use Rattle.mely_tally.proofs.AccountLemmas.{account_step}
use Rattle.mely_chain.specs.WeaveTold.{IsTold}
use Rattle.mely_chain.proofs.WeaveToldLemmas.{told_step_of}
use Rattle.mely_crew.specs.Settling.{MakesSome}

module _ {R S P F : Type 0} (t : TrailWords S F) (fits : F → Colour → Event → Option P → Type 0) (y : AppWords R P S F) (app : R) where
  pub some_none : (a : WeaveState S P) → MakesSome t fits y app a a
  some_none a = ([], makes_none t fits y app a)

  pub some_onward : (a b c : WeaveState S P) → MakesSome t fits y app a b → MakesSome t fits y app b c → MakesSome t fits y app a c
  some_onward a b c one other = (one.0 ++ other.0, makes_onward t fits y app one.0 other.0 a b c one.1 other.1)

  pub some_more : (a b c : WeaveState S P) (core : ℕ) (step : Made) → MakesSome t fits y app a b → StepsWell t fits y app b core step c → MakesSome t fits y app a c
  some_more a b c core step one is = some_onward a b c one ((core, step) ∷ [], makes_one t fits y app b c core step is)

  pub some_same : (a b : WeaveState S P) → MakesSome t fits y app a b → KeepsSetup a b
  some_same a b is = makes_same t fits y app is.0 a b is.1

  -- there are as many cores as before
  pub some_cores : (a b : WeaveState S P) (n : ℕ) → MakesSome t fits y app a b → n ≤ (shape_of a.setup).cores → n ≤ (shape_of b.setup).cores
  some_cores a b n is low = let same = ap (λ k. (shape_of k).cores) (some_same a b is).setup in omega (arith, low, same)

  -- a weave stands well after each step
  makes_stand : (steps : List CoreStep) (a b : WeaveState S P) → Makes t fits y app steps a b → StandsWell t fits a → StandsWell t fits b
  unfolding Makes
  makes_stand [] a b same well = subst (λ (l : WeaveState S P). StandsWell t fits l) (sym same) well
  makes_stand (step ∷ steps) a b makes well = makes_stand steps makes.0 b makes.2 makes.1.stands

  pub some_stand : (a b : WeaveState S P) → MakesSome t fits y app a b → StandsWell t fits a → StandsWell t fits b
  some_stand a b some well = makes_stand some.0 a b some.1 well

  pub some_run : (a b : WeaveState S P) → MakesSome t fits y app a b → IsRun t fits y a b
  some_run a b some = makes_is_run t fits y app some.0 a b some.1

  -- what was put and ran is accounted for after each step
  account_makes : (posted : List (Colour × Event × Option P)) (steps : List CoreStep) (a b : WeaveState S P) → Makes t fits y app steps a b → StandsWell t fits a → IsAccounted t fits y app posted a → IsAccounted t fits y app posted b
  unfolding Makes
  account_makes posted [] a b same well is = subst (λ (l : WeaveState S P). IsAccounted t fits y app posted l) (sym same) is
  account_makes posted (step ∷ steps) a b makes well is = account_makes posted steps makes.0 b makes.2 makes.1.stands (account_step t fits y app posted a makes.0 step.0 step.1 well makes.1 is)

  pub some_account : (posted : List (Colour × Event × Option P)) (a b : WeaveState S P) → MakesSome t fits y app a b → StandsWell t fits a → IsAccounted t fits y app posted a → IsAccounted t fits y app posted b
  some_account posted a b some well is = account_makes posted some.0 a b some.1 well is

  -- notes go on telling what ran, after each step
  told_makes : (given : Colour → Option S) (posted : List (Colour × Event × Option P)) (steps : List CoreStep) (a b : WeaveState S P) → Makes t fits y app steps a b → StandsWell t fits a → IsTold t fits y app given posted a → IsTold t fits y app given posted b
  unfolding Makes
  told_makes given posted [] a b same well is = subst (λ (l : WeaveState S P). IsTold t fits y app given posted l) (sym same) is
  told_makes given posted (step ∷ steps) a b makes well is = told_makes given posted steps makes.0 b makes.2 makes.1.stands (told_step_of t fits y app given posted a makes.0 step.0 step.1 well makes.1 is)

  pub some_told : (given : Colour → Option S) (posted : List (Colour × Event × Option P)) (a b : WeaveState S P) → MakesSome t fits y app a b → StandsWell t fits a → IsTold t fits y app given posted a → IsTold t fits y app given posted b
  some_told given posted a b some well is = told_makes given posted some.0 a b some.1 well is
