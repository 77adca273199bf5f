use Rattle.mely_net.proofs.RunsLemmas.{one_history}
use Rattle.mely_net.proofs.laws.a_cell_has_one_history_along_all_runs.Goals as goal

pub returns : goal.returns
returns g c = λ service cells last runs cell many low followed. one_history (g.S.Service.rules_of service) g.W.Link.Link cell cells runs last many low followed
