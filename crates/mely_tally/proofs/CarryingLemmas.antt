-- What each step keeps, each run of steps keeps.
use Rattle.std.proofs.Common.{ℕ, zero, suc, List, [], ◌∷◌, Option, sym, subst}
use Rattle.mely_event.specs.declared.colour.Colour.{Colour}
use Rattle.mely_event.specs.declared.event.Event.{Event}
use Rattle.mely_event.specs.declared.trail.Trail.{Ghosts as TrailWords}
use Rattle.mely_history.specs.Setup.{shape_of}
use Rattle.mely_worker.specs.declared.app.App.{Ghosts as AppWords}
use Rattle.mely_worker.specs.declared.made.Made.{Made}
use Rattle.mely_weave.specs.declared.draining.Drained.{Drained}
use Rattle.mely_weave.specs.declared.draining.Drained.TheVariants as drained
use Rattle.mely_weave.specs.declared.running.Went.{Went}
use Rattle.mely_weave.specs.StandsWell.{StandsWell}
use Rattle.mely_weave.specs.Weave.{WeaveState}
use Rattle.mely_weave.specs.Runs.{CoreStep, StepsWell, Makes, RunsTo}
use Rattle.mely_weave.specs.Drains.{Rounds, Drives, AreDriven, Drains}

module _ {R S P F : Type 0} (t : TrailWords S F) (fits : F → Colour → Event → Option P → Type 0) (y : AppWords R P S F) (app : R) (Fact : WeaveState S P → Type 0)
    (keep : (a b : WeaveState S P) (core : ℕ) (made : Made) → StandsWell t fits a → StepsWell t fits y app a core made b → Fact a → Fact b) where
  -- the weave stands well, and the fact holds of it
  abbrev pub Carries : WeaveState S P → Type 0
  Carries weave = StandsWell t fits weave × Fact weave

  carry_makes : (steps : List CoreStep) (a b : WeaveState S P) → Makes t fits y app steps a b → Carries a → Carries b
  unfolding Makes
  carry_makes [] a b is has = subst (λ (l : WeaveState S P). Carries l) (sym is) has
  carry_makes (step ∷ steps) a b is has = carry_makes steps is.0 b is.2 (is.1.stands, keep a is.0 step.0 step.1 has.0 is.1 has.1)

  pub carry_run : (a b : WeaveState S P) (cores : List ℕ) (went : Went) → RunsTo t fits y app a cores went b → Carries a → Carries b
  carry_run a b cores went is has = carry_makes is.steps a b is.makes has

  carry_rounds : (n : ℕ) (a b : WeaveState S P) → Rounds t fits y app n a b → Carries a → Carries b
  unfolding Rounds
  carry_rounds zero a b is has = subst (λ (l : WeaveState S P). Carries l) (sym is) has
  carry_rounds (suc n) a b is has = carry_makes is.4.steps is.0 b is.4.makes (carry_rounds n a is.0 is.1 has)

  carry_drives : (core n : ℕ) (a b : WeaveState S P) → Drives t fits y app core n a b → Carries a → Carries b
  unfolding Drives
  carry_drives core zero a b is has = subst (λ (l : WeaveState S P). Carries l) (sym is) has
  carry_drives core (suc n) a b is has =
      let h = carry_drives core n a is.0 is.1 has in (is.3.1.stands, keep is.0 b core is.3.0 h.0 is.3.1 h.1)

  carry_driven : (n : ℕ) (a b : WeaveState S P) → AreDriven t fits y app n a b → Carries a → Carries b
  unfolding AreDriven
  carry_driven zero a b is has = subst (λ (l : WeaveState S P). Carries l) (sym is) has
  carry_driven (suc core) a b is has = carry_drives core is.2.count is.0 b is.2.drives (carry_driven core a is.0 is.1 has)

  pub carry_drain : (a b : WeaveState S P) (drained : Drained) → Drains t fits y app a drained b → Carries a → Carries b
  carry_drain a b drained.Empty is has = carry_rounds is.0 a b is.1 has
  carry_drain a b drained.Memory is has = carry_driven (shape_of a.setup).cores is.1 b is.4 (carry_rounds is.0 a is.1 is.2 has)
