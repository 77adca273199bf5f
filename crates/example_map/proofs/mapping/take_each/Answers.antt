use Rattle.std.proofs.Common.{◌≡◌, ◌++◌, ◌∷◌, [], Some, length, map, ap, ◌∙◌, sym, arith, append_assoc}
use Rattle.std.proofs.lemmas.List.{map-append}
use Rattle.std.specs.Vec.Iter.{into_iter_items}
use Rattle.example_map.proofs.mapping.take_each.Goals as goal

pub values-preserved : goal.values-preserved
values-preserved g c =
    let at = c.values.invariant in
    let value = c.in-Some.value in
    let steps : into_iter_items c.values.value-iterator ≡ value ∷ into_iter_items c.next.new.self = c.in-Some.ensures.steps.0 in
    let short = ap length steps in
    let left = at.left in
    let gone = c.in-Some.ensures.steps.1 in
    record {
      split = append_assoc c.values.yielded (value ∷ []) _ ∙ rw (← steps) at.split;
      left = omega (arith, left, short, gone);
      outs = ap (map (λ out. Some out)) c.in_ok-push.ensures.items ∙ map-append (λ out. Some out) c.values.outs.items (c.in-Some-value.out ∷ []) ∙ ap (λ l. l ++ Some c.in-Some-value.out ∷ []) at.outs ∙ ap (λ v. c.values.yielded ++ v ∷ []) (sym c.in-Some-value.is);
    }
