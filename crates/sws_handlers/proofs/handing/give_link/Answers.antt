use Rattle.std.proofs.Common.{arith, sym}
use Rattle.sws_handlers.proofs.Ends.HandingLemmas.{place_past, place_new, place_old}
use Rattle.sws_handlers.proofs.handing.give_link.Goals as goal

pub returns-then-is_none : goal.returns-then-is_none
returns-then-is_none g c =
    let low = c.if-place-len.true in
    let len = c.len.ensures in
    let long = c.args.served.now.ok in
    place_new c.args.link c.args.conn c.from-place.result c.args.served.now.items c.index_mut-one.result.now c.from-place.ensures (omega (arith, low, len, long)) c.index_mut-one.ensures.value c.if-is_none.ensures

pub returns-else-is_none : goal.returns-else-is_none
returns-else-is_none g c =
    let low = c.if-place-len.true in
    let len = c.len.ensures in
    let long = c.args.served.now.ok in
    place_old c.args.link c.args.conn c.from-place.result c.args.served.now.items c.index_mut-one.result.now c.from-place.ensures (omega (arith, low, len, long)) c.index_mut-one.ensures.value c.if-is_none.ensures

pub returns-else-place-len : goal.returns-else-place-len
returns-else-place-len g c =
    let past = c.if-place-len.false in
    let len = c.len.ensures in
    let long = c.args.served.now.ok in
    let same = c.from-place.ensures in
    sym (place_past c.args.link c.args.conn c.args.served.now.items (omega (arith, past, len, long, same)))
