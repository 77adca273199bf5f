use Rattle.std.proofs.Common.{◌≡◌, ◌+◌, ◌++◌, ◌∷◌, [], length, ap, ◌∙◌, sym, arith, append_assoc, length-append}
use Rattle.std.specs.Vec.Iter.{into_iter_items}
use Rattle.example_chat.specs.Chats.{said}
use Rattle.example_chat.specs.declared.message.Message.TheVariants.{Say}
use Rattle.mely_actor.proofs.ListLemmas.{one_longer}
use Rattle.example_chat.proofs.SeatLemmas.{said_push}
use Rattle.example_chat.proofs.talking.post_lines.Goals as goal

pub lines-preserved : goal.lines-preserved
lines-preserved c =
    let at = c.lines.invariant in
    let item = c.in-Some.line in
    let steps : into_iter_items c.lines.line-iterator ≡ item ∷ into_iter_items c.next.new.self = c.in-Some.ensures.steps.0 in
    let short = ap length steps in
    let left = at.left in
    let gone = c.in-Some.ensures.steps.1 in
    let many = at.many in
    let more = one_longer c.lines.yielded item in
    let split = ap length at.split in
    let both = length-append c.lines.yielded (into_iter_items c.lines.line-iterator) in
    let few = c.requires in
    let next = c.saturating_add-number.ensures in
    record {
      split = append_assoc c.lines.yielded (item ∷ []) _ ∙ rw (← steps) at.split;
      left = omega (arith, left, short, gone);
      many = omega (arith, many, more, split, both, few, next, short);
      posts = c.in_ok-push.ensures.items ∙ ap (λ l. l ++ (record { 0 = item.client }, Say c.lines.number item.text) ∷ []) at.posts ∙ ap (λ (n : _). said 0 c.lines.yielded ++ (record { 0 = item.client }, Say n item.text) ∷ []) (let here : c.lines.number ≡ 0 + length c.lines.yielded = omega (arith, many) in here) ∙ sym (said_push 0 c.lines.yielded item);
    }
