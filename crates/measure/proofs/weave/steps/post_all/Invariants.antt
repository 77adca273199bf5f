use Rattle.measure.specs.WeaveLoops.{IsLoop}
use Rattle.measure.proofs.weave.steps.post_all.Given as goal

abbrev pub invariant-colours : goal.invariant-colours
invariant-colours l = IsLoop l.fn.colours l.weave.setup
