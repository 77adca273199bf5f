use Rattle.std.proofs.Common.{◌≡◌, ◌+◌, ◌++◌, ◌∷◌, [], length, ap, ◌∙◌, sym, arith, append_assoc, length-append, append-nil}
use Rattle.std.proofs.lemmas.List.{nil_from_length}
use Rattle.std.specs.Vec.Iter.{into_iter_items}
use Rattle.example_map.specs.Mapped.{numbered}
use Rattle.mely_actor.proofs.ListLemmas.{one_longer}
use Rattle.example_map.proofs.MapLemmas.{numbered_push}
use Rattle.example_map.proofs.mapping.post_each.Goals as goal

pub items-preserved : goal.items-preserved
items-preserved g c =
    let at = c.items.invariant in
    let item = c.in-Some.item in
    let steps : into_iter_items c.items.item-iterator ≡ item ∷ into_iter_items c.next.new.self = c.in-Some.ensures.steps.0 in
    let short = ap length steps in
    let left = at.left in
    let gone = c.in-Some.ensures.steps.1 in
    let many = at.many in
    let more = one_longer c.items.yielded item in
    let split = ap length at.split in
    let both = length-append c.items.yielded (into_iter_items c.items.item-iterator) in
    let few = c.requires in
    let next = c.saturating_add-number.ensures in
    record {
      split = append_assoc c.items.yielded (item ∷ []) _ ∙ rw (← steps) at.split;
      left = omega (arith, left, short, gone);
      many = omega (arith, many, more, split, both, few, next, short);
      posts = c.in_ok-push.ensures.items ∙ ap (λ l. l ++ (record { 0 = c.items.number }, item) ∷ []) at.posts ∙ ap (λ n. numbered 0 c.items.yielded ++ (record { 0 = n }, item) ∷ []) (let here : c.items.number ≡ 0 + length c.items.yielded = omega (arith, many) in here) ∙ sym (numbered_push 0 c.items.yielded item);
    }

pub returns : goal.returns
returns g c =
    let at = c.items.invariant in
    let none : into_iter_items c.items.item-iterator ≡ [] = nil_from_length (into_iter_items c.items.item-iterator) (sym at.left ∙ c.in-None.ensures.steps.0) in
    at.posts ∙ ap (numbered 0) (sym (append-nil c.items.yielded) ∙ ap (λ l. c.items.yielded ++ l) (sym none) ∙ at.split)
