use Rattle.std.proofs.Common.{◌≡◌, ◌++◌}
use Rattle.mely_picture.specs.BucketTexts.{columns_text}
use Rattle.mely_picture.specs.Plots.{cells_at}
use Rattle.mely_picture.proofs.bucket.push_columns.Given as goal

abbrev pub invariant-loop-bucket : goal.invariant-loop-bucket
invariant-loop-bucket l = l.text.items ≡ l.fn.text.items ++ columns_text l.scale l.core (cells_at l.cells l.core) l.bucket
