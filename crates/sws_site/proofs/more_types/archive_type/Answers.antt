use Rattle.sws_site.specs.ContentTypes.{archive_types}
use Rattle.sws_site.proofs.more_types.archive_type.Goals as goal

pub returns : goal.returns
unfolding archive_types
returns c = c.type_or.ensures
