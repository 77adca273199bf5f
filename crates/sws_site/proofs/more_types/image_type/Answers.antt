use Rattle.sws_site.specs.ContentTypes.{image_types}
use Rattle.sws_site.proofs.more_types.image_type.Goals as goal

pub returns : goal.returns
unfolding image_types
returns c = c.type_or.ensures
