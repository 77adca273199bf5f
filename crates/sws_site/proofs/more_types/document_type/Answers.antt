use Rattle.sws_site.specs.ContentTypes.{document_types}
use Rattle.sws_site.proofs.more_types.document_type.Goals as goal

pub returns : goal.returns
unfolding document_types
returns c = c.type_or.ensures
