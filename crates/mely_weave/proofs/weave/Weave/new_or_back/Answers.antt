use Rattle.std.proofs.Common.{◌∙◌, ap, sym, subst}
use Rattle.std.specs.Prelude.{slice_get}
use Rattle.mely_history.specs.declared.setup.Setup.{Setup}
use Rattle.mely_history.specs.Setup.{shape_of}
use Rattle.mely_shard.specs.Shard.{IsInitialShard, givens}
use Rattle.mely_weave.specs.Dealing.{AreDealt, AtEach}
use Rattle.mely_weave.specs.Gathering.{MayGather}
use Rattle.mely_weave.specs.Making.{AreInitial}
use Rattle.mely_weave.proofs.Wholes.MakeLemmas.{first_may, first_weave, of_givens}
use Rattle.mely_weave.proofs.weave.Weave.new_or_back.Goals as goal
use Rattle.mely_weave.proofs.weave.Weave.new_or_back.Goals.{After-fill-shards}

pub fill-shards-requires : goal.fill-shards-requires
fill-shards-requires g c = subst (λ s. AreInitial g.S.Trail s c.args.states.items) (sym c.in-Ok-new.ensures) c.requires

-- the states lie in the shards as they were dealt
dealt : (g : _) (c : After-fill-shards g) → AreDealt givens (shape_of c.args.setup.now).shards c.args.states.items c.fill-shards.result.items
dealt g c = subst (λ (s : Setup). AreDealt givens (shape_of s).shards c.args.states.items c.fill-shards.result.items) c.in-Ok-new.ensures c.fill-shards.ensures.dealt

-- and each shard is initial
first : (g : _) (c : After-fill-shards g) → AtEach (λ shard has. IsInitialShard c.args.setup.now shard (givens has) has) c.fill-shards.result.items
first g c = subst (λ (s : Setup). AtEach (λ shard has. IsInitialShard s shard (givens has) has) c.fill-shards.result.items) c.in-Ok-new.ensures c.fill-shards.ensures.first

pub gather-requires : goal.gather-requires
gather-requires g c =
    let at = (goal.at.gather-requires g c).After-fill-shards in
    let shards = c.fill-shards.result.items in
    let may = first_may g.S.Trail g.S.Fits.fits_under c.args.setup.now c.args.states.items c.requires givens shards (dealt g at) shards (dealt g at).many (of_givens c.args.setup.now shards (first g at))
    c.in-Ok-chains_of.chains.items c.in-Ok-workers_of.workers.items c.in-Ok-chains_of.ensures.many c.in-Ok-chains_of.ensures.empty c.in-Ok-workers_of.ensures.many c.in-Ok-workers_of.ensures.first in
    subst (λ (s : Setup). MayGather g.S.Trail g.S.Fits.fits_under s shards c.in-Ok-chains_of.chains.items c.in-Ok-workers_of.workers.items) (sym c.in-Ok.ensures) may

pub returns-clause-first : goal.returns-clause-first
returns-clause-first g c =
    let at = (goal.at.returns-clause-first g c).After-fill-shards in
    let shards = c.fill-shards.result.items in
    first_weave g.S.Trail g.S.Fits.fits_under c.args.setup.now c.args.states.items c.requires givens shards (dealt g at) shards (dealt g at).many (of_givens c.args.setup.now shards (first g at))
    c.gather.result (c.gather.ensures.setup ∙ c.in-Ok.ensures) c.gather.ensures.shards c.gather.ensures.chains (λ core w at. c.in-Ok-workers_of.ensures.first core w (ap (λ ws. slice_get ws core) (sym c.gather.ensures.workers) ∙ at))
