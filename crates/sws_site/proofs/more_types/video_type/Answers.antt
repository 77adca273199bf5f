use Rattle.sws_site.specs.ContentTypes.{video_types}
use Rattle.sws_site.proofs.more_types.video_type.Goals as goal

pub returns : goal.returns
unfolding video_types
returns c = c.type_or.ensures
