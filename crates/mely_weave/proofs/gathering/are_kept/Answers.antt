use Rattle.std.proofs.Common.{◌≡◌, ◌<◌, subst, ⊎_elim, arith}
use Rattle.std.proofs.lemmas.Option.{slice_get_within}
use Rattle.mely_shard.specs.Shard.{IsConsistent}
use Rattle.mely_history.proofs.LegalLemmas.{split_below}
use Rattle.mely_weave.proofs.Wholes.GatherLemmas.{element_is}
use Rattle.mely_weave.proofs.gathering.are_kept.Goals as goal

pub loop-shard-preserved : goal.loop-shard-preserved
loop-shard-preserved g c = λ number has low there. ⊎_elim
    (λ (before : number < c.loop-shard.shard-index). c.loop-shard.invariant number has before there)
    (λ (here : number ≡ c.loop-shard.shard-index). subst (IsConsistent g.S.Trail g.S.Fits.fits_under) (element_is c.args.shards.now number c.loop-shard.shard-index c.shard-item.result has here c.shard-item.is there) c.history-history.ensures.kept)
    (split_below number c.loop-shard.shard-index low)

pub returns : goal.returns
returns g c = λ number has there. c.loop-shard.invariant number has (let within = slice_get_within c.args.shards.now number has there in omega (arith, within)) there
