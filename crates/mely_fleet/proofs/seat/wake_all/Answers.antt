use Rattle.std.proofs.Common.{◌≡◌, ◌++◌, ◌∷◌, [], length, map, ap, ◌∙◌, sym, arith, append_assoc, append-nil}
use Rattle.std.proofs.lemmas.List.{map-append, nil_from_length}
use Rattle.std.specs.Vec.Iter.{into_iter_items}
use Rattle.mely_worker.specs.IdleWorker.{resumed_worker}
use Rattle.mely_fleet.proofs.seat.wake_all.Goals as goal

pub rested-preserved : goal.rested-preserved
rested-preserved g c =
    let at = c.rested.invariant in
    let rest = c.in-Some.rest in
    let steps : into_iter_items c.rested.rest-iterator ≡ rest ∷ into_iter_items c.next.new.self = c.in-Some.ensures.steps.0 in
    let short = ap length steps in
    let left = at.left in
    let gone = c.in-Some.ensures.steps.1 in
    record {
      split = append_assoc c.rested.yielded (rest ∷ []) _ ∙ rw (← steps) at.split;
      left = omega (arith, left, short, gone);
      room = let room = at.room in let kept = c.push_reserved.ensures.capacity in let len = c.push_reserved.ensures.len in omega (arith, room, kept, len, short);
      woken = c.push_reserved.ensures.items ∙ ap (λ l. l ++ c.wake.result ∷ []) at.woken ∙ ap (λ w. map (λ r. resumed_worker r) c.rested.yielded ++ w ∷ []) c.wake.ensures ∙ sym (map-append (λ r. resumed_worker r) c.rested.yielded (rest ∷ []));
    }

pub returns : goal.returns
returns g c =
    let at = c.rested.invariant in
    let none : into_iter_items c.rested.rest-iterator ≡ [] = nil_from_length (into_iter_items c.rested.rest-iterator) (sym at.left ∙ c.in-None.ensures.steps.0) in
    let whole : c.rested.yielded ≡ c.args.rested.items = sym (append-nil c.rested.yielded) ∙ ap (λ xs. c.rested.yielded ++ xs) (sym none) ∙ at.split in
    at.woken ∙ ap (map (λ r. resumed_worker r)) whole
