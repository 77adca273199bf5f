use Rattle.std.proofs.Common.{ap, arith, ◌∙◌, sym, length, ℕ, ◌+◌, length-append}
use Rattle.mely_lock.specs.Views.{head_number, head_front, head_frame}
use Rattle.mely_lock.proofs.CallsLemmas.{splits_at, dealt}
use Rattle.mely_lock.proofs.ListsLemmas.{each_pushed}
use Rattle.mely_lock.proofs.dealing.deal.Goals as goal

pub split_seat-place-requires : goal.split_seat-place-requires
split_seat-place-requires g c = let l = c.loop-number.invariant in
    (l.table, c.requires.table.1, splits_at g.V.Kept.history_of g.V.Kept.pass_of g.V.Kept.frame_of _ _ _ _ _ _ _ c.loop-number-test.true l.me)

pub invariant_of-push_reserved : goal.invariant_of-push_reserved
invariant_of-push_reserved g c = let l = c.loop-number.invariant in let e = c.split_seat-place.ensures in
    let t = dealt g.V.Kept.history_of g.V.Kept.pass_of g.V.Kept.frame_of _ _ _ _ _ _ c.loop-number-test.true l.me e.2 e.4 in
    record { single = ap (λ u. length u.0.claims) t.1; numbered = ap (λ u. head_number u.0.claims) t.1; counted = ap (λ u. length (head_front u.0.claims)) t.1 }

pub loop-number-preserved : goal.loop-number-preserved
loop-number-preserved g c = let l = c.loop-number.invariant in let e = c.split_seat-place.ensures in let more = c.push_reserved.ensures.items in
    let t = dealt g.V.Kept.history_of g.V.Kept.pass_of g.V.Kept.frame_of _ _ _ _ _ _ c.loop-number-test.true l.me e.2 e.4 in
    record {
      table = e.0 ∙ l.table;
      me = t.0;
      room = let kept = c.push_reserved.ensures.capacity in let room = l.room in omega (arith, kept, room);
      count = ap length more ∙ (length-append _ _ ∙ ap (λ (n : ℕ). n + 1) l.count);
      each = each_pushed _ _ _ _ more l.each (sym l.count, ap (λ u. head_front u.0.claims) t.1, (ap (λ u. u.0.inside) t.1, ap (λ u. u.1) t.1), e.3 ∙ l.table, ap (λ u. head_frame u.0.claims) t.1);
    }
