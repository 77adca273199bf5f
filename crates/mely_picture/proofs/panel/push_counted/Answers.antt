use Rattle.std.proofs.Common.{◌++◌, ℕ, ap, ◌∙◌}
use Rattle.mely_history.specs.Setup.{colours_of}
use Rattle.mely_picture.specs.BucketTexts.{bucket_panel}
use Rattle.mely_picture.specs.Plots.{cells_at}
use Rattle.mely_picture.proofs.panel.push_counted.Goals as goal

pub returns : goal.returns
returns c =
    let counts = c.args.counts.now in
    let old = c.args.text.now.items in
    let top = c.args.top in
    let number = c.args.number in
    let cells = cells_at counts.cells.items in
    c.in_ok-push_bucket_panel.ensures
    ∙ ap (λ (k : ℕ). old ++ bucket_panel counts.cores k top (record { number = number; shards = c.shards-shards.result; entries = counts.entries; width = counts.width }) cells) c.colours-colours.ensures.value
    ∙ ap (λ (k : ℕ). old ++ bucket_panel counts.cores (colours_of c.args.setup.now) top (record { number = number; shards = k; entries = counts.entries; width = counts.width }) cells) c.shards-shards.ensures.value
