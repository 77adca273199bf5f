use Rattle.sws_site.specs.ContentTypes.{data_types}
use Rattle.sws_site.proofs.more_types.data_type.Goals as goal

pub returns : goal.returns
unfolding data_types
returns c = c.type_or.ensures
