use Rattle.sws_site.specs.ContentTypes.{audio_types}
use Rattle.sws_site.proofs.more_types.audio_type.Goals as goal

pub returns : goal.returns
unfolding audio_types
returns c = c.type_or.ensures
