use Rattle.std.proofs.Common.{◌≡◌, ◌∷◌, [], length, ap, ◌∙◌, arith, length-append}
use Rattle.mely_weave.specs.Making.{empty_chain}
use Rattle.mely_weave.proofs.Wholes.DealLemmas.{each_push}
use Rattle.mely_weave.proofs.making.chains_of.Goals as goal

pub loop-core-preserved : goal.loop-core-preserved
loop-core-preserved c =
    let at = c.loop-core.invariant in
    let pushed = c.push_reserved.ensures.items in
    let queue : c.in_ok-new.field-0 ≡ empty_chain c.args.setup.now = c.in_ok-new.ensures.empty ∙ (λ i. record { chain = []; worthy = []; colours = c.colours.ensures.value i; cost = c.steal_cost.ensures i; pinned = c.pinned.ensures.value i }) in
    record {
      room = let room = at.room in let kept = c.push_reserved.ensures.capacity in omega (arith, room, kept);
      len = let len = at.len in let more = c.push_reserved.ensures.len in omega (arith, len, more);
      many = ap length pushed ∙ length-append c.loop-core.chains.items (c.in_ok-new.field-0 ∷ []) ∙ let many = at.many in omega (arith, many);
      empty = rw pushed (each_push (λ core q. q ≡ empty_chain c.args.setup.now) c.loop-core.chains.items c.in_ok-new.field-0 c.loop-core.core at.many at.empty queue);
    }
