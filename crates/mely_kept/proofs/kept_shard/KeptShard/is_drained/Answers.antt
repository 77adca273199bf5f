use Rattle.std.proofs.Common.{IsTrue, ◌↔◌, subst}
use Rattle.mely_history.specs.Legal.{IsDrained, IsLegal}
use Rattle.mely_shard.specs.Shard.{ShardState, IsConsistent}
use Rattle.mely_kept.proofs.kept_shard.KeptShard.is_drained.Goals as goal

pub returns-clause-drained : goal.returns-clause-drained
returns-clause-drained g c =
    let drained = subst (λ (has : ShardState g.row.S.Denot g.row.P.Denot). IsTrue c.is_drained.result ↔ IsDrained has.history) c.deref-2.ensures c.is_drained.ensures in
    record { drained = rw (← c.self.view_is) (subst (λ h. IsTrue c.is_drained.result ↔ IsDrained h) c.self.invariant.1.entries drained) }

pub returns-clause-legal : goal.returns-clause-legal
returns-clause-legal g c =
    let kept = subst (λ (has : ShardState g.row.S.Denot g.row.P.Denot). IsConsistent g.S.Trail g.S.Fits.fits_under has) c.deref.ensures c.history-entries.ensures.kept in
    rw (← c.self.view_is) (subst (IsLegal c.self.inside.shard.value.setup) c.self.invariant.1.entries kept.legal)
