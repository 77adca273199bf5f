use Rattle.sws_site.specs.ContentTypes.{program_types}
use Rattle.sws_site.proofs.more_types.program_type.Goals as goal

pub returns : goal.returns
unfolding program_types
returns c = c.type_or.ensures
