use Rattle.std.proofs.Common.{ap, ◌∙◌}
use Rattle.mely_picture.specs.Shown.{shown_picture}
use Rattle.mely_picture.proofs.PlotLemmas.{picture_same}
use Rattle.mely_picture.proofs.drawing.picture_of.Goals as goal

pub returns : goal.returns
returns c = λ histories keeps drawable.
    let setup = c.args.drawer.setup in
    c.in_ok-picture.ensures ∙ ap (shown_picture setup) c.deref.ensures.value
    ∙ picture_same setup histories c.in_ok-plots.plots.items (c.in_ok-plots.ensures.are histories keeps drawable.few) drawable.short
