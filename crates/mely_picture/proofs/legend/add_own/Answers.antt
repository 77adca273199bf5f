use Rattle.std.proofs.Common.{◌≤◌, ◌+◌, ◌*◌, length, ap, ◌∙◌, arith}
use Rattle.mely_picture.proofs.LegendLemmas.{own_more}
use Rattle.mely_picture.proofs.legend.add_own.Goals as goal

pub loop-place-preserved : goal.loop-place-preserved
loop-place-preserved c =
    let before = c.loop-place.invariant in
    let place = c.loop-place.place in
    let old = c.args.colours.now.items in
    let few : length c.loop-place.colours.items ≤ length old + place = before.few in
    let more : length c.add_within.new.colours.items ≤ length c.loop-place.colours.items + 1 = c.in_ok-add_within.ensures.few in
    record {
      are = own_more c.args.shards c.args.count c.args.number place _ old c.loop-place.colours.items c.add_within.new.colours.items
          (ap (λ k. k + c.from-in-loop-place.result * c.from-in-loop-place-2.result) c.from.ensures ∙ ap (λ k. c.args.number + k * c.from-in-loop-place-2.result) c.from-in-loop-place.ensures
          ∙ ap (λ k. c.args.number + c.args.shards * k) c.from-in-loop-place-2.ensures) before.are c.in_ok-add_within.ensures.are;
      few = (let all : length c.add_within.new.colours.items ≤ length old + (place + 1) = omega (arith, few, more) in all);
    }
