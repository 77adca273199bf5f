use Rattle.std.proofs.Common.{◌+◌, ◌*◌, ap}
use Rattle.std.specs.Prelude.{slice_range}
use Rattle.mely_picture.specs.Plots.{cells_at}
use Rattle.mely_picture.proofs.BucketLemmas.{column_more}
use Rattle.mely_picture.proofs.bucket.push_columns.Goals as goal

pub loop-bucket-preserved : goal.loop-bucket-preserved
loop-bucket-preserved c =
    let cells = c.args.cells.now in
    let core = c.args.core in
    let bucket = c.loop-bucket.bucket in
    column_more c.args.scale.now core (cells_at cells core) bucket c.args.text.now.items c.loop-bucket.text.items c.push_column.new.text.items _ c.loop-bucket.invariant
    (ap (λ k. slice_range cells (17 * (k * core + bucket)) (17 * (k * core + bucket) + 17)) c.from.ensures) c.in_ok-push_column.ensures
