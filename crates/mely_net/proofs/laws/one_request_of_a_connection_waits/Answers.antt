use Rattle.mely_net.proofs.BoundLemmas.{one_waits}
use Rattle.mely_net.proofs.laws.one_request_of_a_connection_waits.Goals as goal

pub returns : goal.returns
returns g c = λ service client cell of_client of_cell value kept at. one_waits (g.S.Service.rules_of service) g.W.Link.Link client cell of_client of_cell value kept at
