use Rattle.mely_shard.proofs.DrainedLemmas.{drained_everywhere}
use Rattle.mely_shard.proofs.EndLemmas.{drained_exactly}
use Rattle.mely_shard.proofs.shard.Shard.is_drained.Goals as goal

pub returns : goal.returns
returns g c =
    let kept = c.self.invariant.0 in
    let both = drained_exactly kept in
    rw (← c.self.view_is, c.all_drained.ensures, c.deref.ensures.value) ((λ all. drained_everywhere _ _ _ kept.legal kept.own (both.0 all)), (λ drained. both.1 (λ k there here. drained k)))
