use Rattle.sws_site.specs.ContentTypes.{text_types}
use Rattle.sws_site.proofs.more_types.text_type.Goals as goal

pub returns : goal.returns
unfolding text_types
returns c = c.type_or.ensures
