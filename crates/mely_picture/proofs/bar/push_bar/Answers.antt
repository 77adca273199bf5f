use Rattle.mely_picture.specs.Texts.{bar_title, bar_shape, bar_label}
use Rattle.mely_picture.proofs.ListLemmas.{join}
use Rattle.mely_picture.proofs.bar.push_bar.Goals as goal

pub returns : goal.returns
returns c =
    let b = c.args.bar.now in
    let top = c.args.top in
    join _ _ _ _ (bar_label top b) (join _ _ _ (bar_title b) (bar_shape top b) c.in_ok-push_bar_title.ensures c.in_ok-push_bar_shape.ensures) c.in_ok-push_bar_label.ensures
