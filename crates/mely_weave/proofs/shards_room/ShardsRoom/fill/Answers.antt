use Rattle.mely_weave.proofs.Wholes.DealLemmas.{dealt_few}
use Rattle.mely_weave.proofs.Wholes.MakeLemmas.{first_piles, dealt_givens, first_givens}
use Rattle.mely_weave.proofs.shards_room.ShardsRoom.fill.Goals as goal

pub fill_each-requires-clause-first : goal.fill_each-requires-clause-first
fill_each-requires-clause-first g c =
    first_piles g.S.Trail g.S.Fits.fits_under c.args.self.setup c.args.states.items c.requires (λ pile. pile.items) c.deal_into-by_shard.result.items c.deal_into-by_shard.ensures

pub fill_each-requires-clause-few : goal.fill_each-requires-clause-few
fill_each-requires-clause-few g c =
    dealt_few (λ pile. pile.items) _ c.args.self.setup.shards_in.0 c.args.states.items c.deal_into-by_shard.result.items c.deal_into-by_shard.ensures _ c.requires.all

pub returns-clause-dealt : goal.returns-clause-dealt
returns-clause-dealt g c =
    dealt_givens g.S.Trail g.S.Fits.fits_under c.args.self.setup c.args.states.items c.requires (λ pile. pile.items) c.deal_into-by_shard.result.items c.deal_into-by_shard.ensures c.fill_each.result.items c.fill_each.ensures.many c.fill_each.ensures.first

pub returns-clause-first : goal.returns-clause-first
returns-clause-first g c =
    first_givens g.S.Trail g.S.Fits.fits_under c.args.self.setup c.args.states.items c.requires (λ pile. pile.items) c.deal_into-by_shard.result.items c.deal_into-by_shard.ensures c.fill_each.result.items c.fill_each.ensures.many c.fill_each.ensures.first
