-- What each handler keeps, the whole weave keeps.
use Rattle.std.proofs.Common.{◌≡◌, ℕ, List, [], ◌∷◌, Option, refl, sym, ◌∙◌, ap, subst, arith, inl, inr}
use Rattle.std.specs.Prelude.{sum_by}
use Rattle.mely_event.specs.declared.colour.Colour.{Colour}
use Rattle.mely_event.specs.declared.event.Event.{Event}
use Rattle.mely_event.specs.declared.trail.Trail.{Ghosts as TrailWords}
use Rattle.mely_worker.specs.declared.app.App.{Ghosts as AppWords}
use Rattle.mely_worker.specs.declared.made.Made.{Made}
use Rattle.mely_weave.specs.declared.draining.Drained.{Drained}
use Rattle.mely_weave.specs.declared.running.Went.{Went}
use Rattle.mely_weave.specs.StandsWell.{StandsWell}
use Rattle.mely_weave.specs.Weave.{WeaveState}
use Rattle.mely_weave.specs.Runs.{StepsWell, RunsTo}
use Rattle.mely_weave.specs.WeaveRun.{StepCall}
use Rattle.mely_weave.specs.Drains.{Drains}
use Rattle.mely_tally.specs.Tallies.{Carried}
use Rattle.mely_tally.specs.Tells.{OnlyMoves, RunsOne, HandlersKeep, total_of}
use Rattle.mely_tally.proofs.CarryingLemmas.{carry_run, carry_drain}
use Rattle.mely_tally.proofs.SumsLemmas.{sum_around, sum_one}
use Rattle.mely_tally.proofs.TallyLemmas.{step_tells}

module _ {R S P F : Type 0} (t : TrailWords S F) (fits : F → Colour → Event → Option P → Type 0) (y : AppWords R P S F) (app : R) (had : S → ℕ) (brought : Carried P → ℕ) (keep : HandlersKeep t fits y app had brought) where
  moved : (a b : WeaveState S P) → OnlyMoves a b → total_of had brought b ≡ total_of had brought a
  moved a b moves = let s = moves.states had in let w = moves.ways brought in omega (arith, s, w)

  ran : (a b : WeaveState S P) → RunsOne t fits y app a b → total_of had brought b ≡ total_of had brought a
  ran a b one =
      let same = keep one.state one.event.0 one.event.1 one.becomes one.puts (subst (λ (frame : F). fits frame (t.colour_of one.state) one.event.0 one.event.1) (sym one.frame) one.fit) one.ran in
      let was = ap (λ (l : List S). sum_by had l) one.was ∙ sum_around had one.front (one.state ∷ []) one.back in
      let is = ap (λ (l : List S). sum_by had l) one.is ∙ sum_around had one.front (one.becomes ∷ []) one.back in
      let ways = one.ways brought in
      omega (arith, same, was, is, ways, sum_one had one.state, sum_one had one.becomes)

  pub step_keeps : (a b : WeaveState S P) (core : ℕ) (made : Made) → StandsWell t fits a → StepCall t fits y app core made a b → total_of had brought b ≡ total_of had brought a
  step_keeps a b core made well call = elim (step_tells t fits y app a b core made well call.steps) [ inl moves ↦ moved a b moves | inr one ↦ ran a b one ]

  carries : (n : ℕ) (a b : WeaveState S P) (core : ℕ) (made : Made) → StandsWell t fits a → StepsWell t fits y app a core made b → total_of had brought a ≡ n → total_of had brought b ≡ n
  carries n a b core made well step is = step_keeps a b core made well step.call ∙ is

  pub run_keeps : (a b : WeaveState S P) (cores : List ℕ) (went : Went) → StandsWell t fits a → RunsTo t fits y app a cores went b → total_of had brought b ≡ total_of had brought a
  run_keeps a b cores went well runs = (carry_run t fits y app (λ (l : WeaveState S P). total_of had brought l ≡ total_of had brought a) (carries (total_of had brought a)) a b cores went runs (well, refl)).1

  pub drain_keeps : (a b : WeaveState S P) (drained : Drained) → StandsWell t fits a → Drains t fits y app a drained b → total_of had brought b ≡ total_of had brought a
  drain_keeps a b drained well drains = (carry_drain t fits y app (λ (l : WeaveState S P). total_of had brought l ≡ total_of had brought a) (carries (total_of had brought a)) a b drained drains (well, refl)).1
