use Rattle.std.proofs.Common.{◌≡◌, ◌++◌, ◌∷◌, [], Some, length, map, ap, ◌∙◌, sym, subst, arith, append_assoc}
use Rattle.std.proofs.lemmas.List.{map-append}
use Rattle.std.specs.Prelude.{IsSome, slice_get}
use Rattle.std.specs.Vec.Iter.{into_iter_items}
use Rattle.mely_fleet.proofs.ClosingRows.{all_yielded}
use Rattle.mely_fleet.proofs.OpeningLemmas.{at_seam}
use Rattle.mely_fleet.proofs.seat.leave_all.Goals as goal

pub unreachable-requires : goal.unreachable-requires
unreachable-requires g c =
    let steps : into_iter_items c.seats.seat-iterator ≡ c.in-Some.seat ∷ into_iter_items c.next.new.self = c.in-Some.ensures.steps.0 in
    let there : IsSome c.in-Some.seat.worker = c.seats.invariant.rest (length c.seats.yielded) c.in-Some.seat (ap (λ rest. slice_get (c.seats.yielded ++ rest) (length c.seats.yielded)) steps ∙ at_seam c.seats.yielded c.in-Some.seat (into_iter_items c.next.new.self)) in
    let wrong = subst IsSome c.in_default.is there in
    cc

pub seats-preserved : goal.seats-preserved
seats-preserved g c =
    let at = c.seats.invariant in
    let seat = c.in-Some.seat in
    let worker = c.in-Some-worker.worker in
    let steps : into_iter_items c.seats.seat-iterator ≡ seat ∷ into_iter_items c.next.new.self = c.in-Some.ensures.steps.0 in
    let short = ap length steps in
    let left = at.left in
    let gone = c.in-Some.ensures.steps.1 in
    let one = c.push_reserved in
    let other = c.push_reserved-in-seats in
    record {
      split = append_assoc c.seats.yielded (seat ∷ []) _ ∙ rw (← steps) at.split;
      left = omega (arith, left, short, gone);
      room = let room = at.room in let kept = one.ensures.capacity in let len = one.ensures.len in omega (arith, room, kept, len, short);
      rested_room = let room = at.rested_room in let kept = other.ensures.capacity in let len = other.ensures.len in omega (arith, room, kept, len, short);
      rest = λ n has is. at.rest n has (ap (λ rest. slice_get (c.seats.yielded ++ rest) n) steps ∙ ap (λ l. slice_get l n) (sym (append_assoc c.seats.yielded (seat ∷ []) (into_iter_items c.next.new.self))) ∙ is);
      behind = one.ensures.items ∙ ap (λ l. l ++ seat.passes ∷ []) at.behind ∙ append_assoc c.args.passes.items (map (λ seat. seat.passes) c.seats.yielded) (seat.passes ∷ []) ∙ ap (λ l. c.args.passes.items ++ l) (sym (map-append (λ seat. seat.passes) c.seats.yielded (seat ∷ [])));
      workers = ap (map (λ rest. Some rest)) other.ensures.items ∙ map-append (λ rest. Some rest) c.seats.rested.items (worker ∷ []) ∙ ap (λ l. l ++ Some worker ∷ []) at.workers ∙ ap (λ w. map (λ seat. seat.worker) c.seats.yielded ++ w ∷ []) (sym c.in-Some-worker.is) ∙ sym (map-append (λ seat. seat.worker) c.seats.yielded (seat ∷ []));
    }

pub returns-clause-passes : goal.returns-clause-passes
returns-clause-passes g c =
    let at = c.seats.invariant in
    at.behind ∙ ap (λ l. c.args.passes.items ++ map (λ seat. seat.passes) l) (all_yielded c.seats.yielded (into_iter_items c.seats.seat-iterator) c.args.seats.items _ at.split at.left c.in-None.ensures.steps.0)

pub returns-clause-rested : goal.returns-clause-rested
returns-clause-rested g c =
    let at = c.seats.invariant in
    at.workers ∙ ap (map (λ seat. seat.worker)) (all_yielded c.seats.yielded (into_iter_items c.seats.seat-iterator) c.args.seats.items _ at.split at.left c.in-None.ensures.steps.0)
