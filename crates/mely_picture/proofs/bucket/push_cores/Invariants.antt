use Rattle.std.proofs.Common.{◌≡◌, ◌++◌}
use Rattle.mely_picture.specs.BucketTexts.{cores_text}
use Rattle.mely_picture.specs.Plots.{cells_at}
use Rattle.mely_picture.proofs.bucket.push_cores.Given as goal

abbrev pub invariant-loop-core : goal.invariant-loop-core
invariant-loop-core l = l.text.items ≡ l.fn.text.items ++ cores_text l.top l.scale (cells_at l.cells) l.core
