use Rattle.sws_access.proofs.EscapeLemmas.{escaped-harmless}
use Rattle.sws_access.proofs.laws.no_client_forges_a_line.Goals as goal

pub returns : goal.returns
returns c = escaped-harmless
