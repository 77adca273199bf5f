use Rattle.std.proofs.Common.{◌≡◌, ℕ, ◌+◌, ◌∷◌, [], length, refl, ap, ◌∙◌, arith, length-append}
use Rattle.mely_weave.proofs.Wholes.DealLemmas.{each_push}
use Rattle.mely_weave.proofs.shards_room.rooms_of.Goals as goal

pub loop-number-preserved : goal.loop-number-preserved
loop-number-preserved g c =
    let at = c.loop-number.invariant in
    let pushed = c.push_reserved.ensures.items in
    let one = c.in_ok-new.field-0 in
    record {
      room = let room = at.room in let kept = c.push_reserved.ensures.capacity in omega (arith, room, kept);
      len = let len = at.len in let more = c.push_reserved.ensures.len in omega (arith, len, more);
      many = ap length pushed ∙ length-append c.loop-number.rooms.items (one ∷ []) ∙ ap (λ (n : ℕ). n + 1) at.many;
      roomy = rw pushed (each_push (λ _ r. r.colours ≡ c.args.most) c.loop-number.rooms.items one (length c.loop-number.rooms.items) refl at.roomy c.in_ok-new.ensures);
    }
