use Rattle.std.proofs.Common.{◌≡◌, ◌++◌, ◌∷◌, [], length, ap, ◌∙◌, sym, arith, append_assoc}
use Rattle.std.proofs.lemmas.List.Elements.{filter_map-append}
use Rattle.std.specs.Vec.Iter.{into_iter_items}
use Rattle.mely_net.specs.Runs.{cell_in, cells_in}
use Rattle.mely_net.proofs.FreshLemmas.{all_yielded}
use Rattle.mely_net.proofs.closing.take_cells.Goals as goal

pub parts-preserved : goal.parts-preserved
parts-preserved g c =
    let at = c.parts.invariant in
    let one = c.in-Some.part in
    let steps : into_iter_items c.parts.part-iterator ≡ one ∷ into_iter_items c.next.new.self = c.in-Some.ensures.steps.0 in
    let short = ap length steps in
    let left = at.left in
    let gone = c.in-Some.ensures.steps.1 in
    record {
      split = append_assoc c.parts.yielded (one ∷ []) _ ∙ rw (← steps) at.split;
      left = omega (arith, left, short, gone);
      room = let room = at.room in let kept = c.add_cell.ensures.capacity in let len = c.add_cell.ensures.len in omega (arith, room, kept, len, short);
      taken = c.add_cell.ensures.items ∙ ap (λ cells. cells ++ cells_in (one ∷ [])) at.taken ∙ sym (filter_map-append cell_in c.parts.yielded (one ∷ []));
    }

pub returns-clause-cells : goal.returns-clause-cells
returns-clause-cells g c =
    let at = c.parts.invariant in
    at.taken ∙ ap cells_in (all_yielded c.parts.yielded (into_iter_items c.parts.part-iterator) c.args.parts.items _ at.split at.left c.in-None.ensures.steps.0)
