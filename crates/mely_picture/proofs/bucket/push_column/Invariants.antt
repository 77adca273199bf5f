use Rattle.std.proofs.Common.{◌≡◌, ◌≤◌, ◌*◌, ◌++◌, drop}
use Rattle.mely_picture.specs.BucketTexts.{column_from}
use Rattle.mely_picture.proofs.bucket.push_column.Given as goal

abbrev pub invariant-loop-class : goal.invariant-loop-class
invariant-loop-class l = record {
  text : l.text.items ++ column_from l.scale l.core l.bucket l.class l.below (drop l.class l.counts) ≡ l.fn.text.items ++ column_from l.scale l.core l.bucket 0 0 l.counts;
  low : l.below ≤ 4294967296 * l.class;
}
