use Rattle.mely_shard.proofs.ExposeLemmas.{kept_contents}
use Rattle.mely_shard.proofs.shard.Shard.history.Goals as goal

pub returns-clause-kept : goal.returns-clause-kept
returns-clause-kept g c = rw (← c.self.view_is) (kept_contents c.self.invariant.0)
