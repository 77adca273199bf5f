use Rattle.mely_picture.specs.Texts.{arrow_title, arrow_shape}
use Rattle.mely_picture.proofs.ListLemmas.{join}
use Rattle.mely_picture.proofs.arrow.push_arrow.Goals as goal

pub returns : goal.returns
returns c = join _ _ _ (arrow_title c.args.arrow.now) (arrow_shape c.args.top c.args.arrow.now) c.in_ok-push_arrow_title.ensures c.in_ok-push_arrow_shape.ensures
