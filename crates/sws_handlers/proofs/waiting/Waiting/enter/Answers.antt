use Rattle.std.proofs.Common.{◌≡◌, ◌<◌, ◌+◌, ◌%◌, ◌∙◌, Some, set, sym, ap, subst, arith, length, false}
use Rattle.std.proofs.lemmas.List.{length-set}
use Rattle.std.specs.Prelude.{◌==◌}
use Rattle.std.specs.List.{list_any}
use Rattle.sws_handlers.specs.Counting.{bit, times}
use Rattle.sws_handlers.specs.Waiting.{WaitingState}
use Rattle.sws_handlers.specs.WaitingKept.{is_marked}
use Rattle.sws_handlers.proofs.Events.TableLemmas.{room_for, enters}
use Rattle.sws_handlers.proofs.waiting.Waiting.enter.Goals as goal

pub push_reserved-requires : goal.push_reserved-requires
push_reserved-requires c =
    let none : list_any (λ k. k == c.args.conn) c.self.inside.conns.items ≡ false = ap (λ (w : WaitingState). list_any (λ k. k == c.args.conn) w.items) c.self.view_is ∙ sym c.if-not-contains.ensures in
    let low : c.args.conn < length c.self.inside.since.items = subst (λ (w : WaitingState). c.args.conn < w.total) (sym c.self.view_is) c.requires in
    let more = room_for c.self.inside.conns.items c.self.inside.since.items c.self.invariant.counted c.args.conn low none in
    let room = c.self.invariant.room in
    let len = c.self.inside.conns.ok.0 in
    omega (arith, more, room, len)

pub invariant_of-self : goal.invariant_of-self
invariant_of-self c =
    let none : list_any (λ k. k == c.args.conn) c.self.inside.conns.items ≡ false = ap (λ (w : WaitingState). list_any (λ k. k == c.args.conn) w.items) c.self.view_is ∙ sym c.if-not-contains.ensures in
    let low : c.args.conn < length c.self.inside.since.items = subst (λ (w : WaitingState). c.args.conn < w.total) (sym c.self.view_is) c.requires in
    let at = (c.self.inside.begun + 1) % 18446744073709551616 in
    record {
      counted = λ i. ap (times i) c.push_reserved.ensures.items ∙ enters c.self.inside.conns.items c.self.inside.since.items c.self.invariant.counted c.args.conn at low none i ∙ ap (λ k. bit (is_marked (set c.self.inside.since.items k (Some at)) i)) (sym c.from.ensures);
      room = let room = c.self.invariant.room in let cap = c.push_reserved.ensures.capacity in let len = length-set c.self.inside.since.items c.from.result (Some at) in omega (arith, room, cap, len);
    }
