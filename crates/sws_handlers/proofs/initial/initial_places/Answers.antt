use Rattle.std.proofs.Common.{arith}
use Rattle.sws_handlers.proofs.Events.PlacesLemmas.{places_more}
use Rattle.sws_handlers.proofs.initial.initial_places.Goals as goal

pub loop-number-preserved : goal.loop-number-preserved
loop-number-preserved g c =
    let room = c.loop-number.invariant.1 in
    let same = c.push_reserved.ensures.capacity in
    (places_more g.T.Talk c.args.world.now _ c.args.total c.loop-number.number _ _ _ c.loop-number.invariant.0 c.in_ok-initial_place.ensures c.push_reserved.ensures.items, omega (arith, room, same))
