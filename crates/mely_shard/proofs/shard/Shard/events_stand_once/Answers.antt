use Rattle.mely_shard.proofs.OnceLemmas.{stands_once}
use Rattle.mely_shard.proofs.shard.Shard.events_stand_once.Goals as goal

pub returns : goal.returns
returns g c = λ k lane own is. stands_once k lane c.history-history.ensures.kept own is
