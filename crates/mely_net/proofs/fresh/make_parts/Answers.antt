use Rattle.std.proofs.Common.{◌≡◌, ◌+◌, ◌-◌, ◌++◌, ◌∷◌, [], length, length-append, refl, ap, sym, ◌∙◌, arith, append_assoc}
use Rattle.std.specs.Prelude.{slice_get}
use Rattle.std.specs.Vec.Iter.{into_iter_items}
use Rattle.mely_net.specs.declared.part.Part.TheVariants as part
use Rattle.mely_net.specs.Parts.{IsFresh}
use Rattle.mely_net.proofs.FreshLemmas.{all_yielded, each_push, middle_of}
use Rattle.mely_net.proofs.fresh.make_parts.Goals as goal

pub cells-init : goal.cells-init
cells-init g c =
    let pushed = c.in_ok-push.ensures.items ∙ ap (λ parts. parts ++ part.Desk c.in_ok-new.field-0 ∷ []) c.new-parts.ensures.items in
    record {
      split = c.into_iter-cell-iterator.ensures.into_iter_gives.0;
      left = let gives = c.into_iter-cell-iterator.ensures.into_iter_gives.1 in let ok = c.args.cells.ok.0 in let same = ap length c.into_iter-cell-iterator.ensures.into_iter_gives.0 in omega (arith, gives, ok, same);
      many = ap length pushed;
      fresh = λ number one at. each_push (IsFresh c.args.cells.items) [] (part.Desk c.in_ok-new.field-0) 0 refl (λ k x none. cc) refl number one (sym (ap (λ l. slice_get l number) pushed) ∙ at);
    }

pub cells-preserved : goal.cells-preserved
cells-preserved g c =
    let at = c.cells.invariant in
    let cell = c.in-Some.cell in
    let steps : into_iter_items c.cells.cell-iterator ≡ cell ∷ into_iter_items c.next.new.self = c.in-Some.ensures.steps.0 in
    let short = ap length steps in
    let left = at.left in
    let gone = c.in-Some.ensures.steps.1 in
    let many = at.many in
    let pushed = c.in_ok-push-2.ensures.items in
    let longer = ap length pushed ∙ length-append c.cells.parts.items (part.Cell cell ∷ []) in
    let yielded : length (c.cells.yielded ++ cell ∷ []) ≡ length c.cells.yielded + 1 = length-append c.cells.yielded (cell ∷ []) in
    record {
      split = append_assoc c.cells.yielded (cell ∷ []) _ ∙ rw (← steps) at.split;
      left = omega (arith, left, short, gone);
      many = omega (arith, many, longer, yielded);
      fresh = λ number one there.
          each_push (IsFresh c.args.cells.items) c.cells.parts.items (part.Cell cell) (length c.cells.yielded + 1) many at.fresh (omega arith, middle_of c.cells.yielded (into_iter_items c.next.new.self) c.args.cells.items cell (length c.cells.yielded + 1 - 1) (rw (← steps) at.split) (omega arith)) number one (rw (← pushed) there);
    }

pub returns-clause-many : goal.returns-clause-many
returns-clause-many g c =
    let at = c.cells.invariant in
    let all = ap length (all_yielded c.cells.yielded (into_iter_items c.cells.cell-iterator) c.args.cells.items _ at.split at.left c.in-None.ensures.steps.0) in
    let many = at.many in
    let clients = c.in_ok-add_clients.ensures.many in
    let cells = c.requires in
    omega (arith, all, many, clients, cells)

pub returns-clause-fresh : goal.returns-clause-fresh
returns-clause-fresh g c =
    let at = c.cells.invariant in
    let all = ap length (all_yielded c.cells.yielded (into_iter_items c.cells.cell-iterator) c.args.cells.items _ at.split at.left c.in-None.ensures.steps.0) in
    let many = at.many in
    c.in_ok-add_clients.ensures.fresh c.args.cells.items (omega (arith, many, all)) at.fresh
