use Rattle.measure.specs.WeaveLoops.{IsLoop}
use Rattle.measure.proofs.weave.steps.make_steps.Given as goal

abbrev pub invariant-steps : goal.invariant-steps
invariant-steps l = IsLoop l.fn.app.colours l.weave.setup
