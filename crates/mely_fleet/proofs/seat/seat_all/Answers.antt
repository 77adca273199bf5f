use Rattle.std.proofs.Common.{◌≡◌, ◌+◌, ◌++◌, ◌∷◌, [], Some, length, map, ap, ◌∙◌, sym, arith, length-append, append-nil, append_assoc}
use Rattle.std.proofs.lemmas.List.{map-append, reverse-append, reverse-reverse}
use Rattle.std.specs.Prelude.{reverse, slice_get}
use Rattle.std.specs.Vec.Iter.{into_iter_items}
use Rattle.mely_fleet.proofs.ClosingRows.{all_yielded, map_front}
use Rattle.mely_fleet.proofs.SeatLemmas.{joined_at}
use Rattle.mely_fleet.proofs.seat.seat_all.Goals as goal

pub passes-init : goal.passes-init
passes-init g c =
    let gives = c.into_iter-own-iterator.ensures.into_iter_gives in
    let counted = gives.1 in
    let lengths = ap length gives.0 in
    let kept = c.args.passes.ok.0 in
    let asked = c.len.ensures in
    let none = c.in-Ok.ensures.len in
    let room = c.in-Ok.ensures.capacity in
    record {
      split = gives.0;
      left = omega (arith, counted, lengths, kept);
      room = omega (arith, lengths, kept, asked, none, room);
      many = ap length c.in-Ok.ensures.items;
      passes = ap (map (λ seat. seat.passes)) c.in-Ok.ensures.items;
      workers = ap (λ l. map (λ seat. seat.worker) l ++ map (λ rest. Some rest) (reverse c.reverse.new.self.items)) c.in-Ok.ensures.items ∙ ap (map (λ rest. Some rest)) (ap reverse c.reverse.ensures.items ∙ reverse-reverse c.args.rested.items);
    }

pub push_reserved-requires : goal.push_reserved-requires
push_reserved-requires g c =
    let room = c.passes.invariant.room in
    let steps : into_iter_items c.passes.own-iterator ≡ c.in-Some.own ∷ into_iter_items c.next.new.self = c.in-Some.ensures.steps.0 in
    let short = ap length steps in
    omega (arith, room, short)

pub passes-preserved : goal.passes-preserved
passes-preserved g c =
    let at = c.passes.invariant in
    let own = c.in-Some.own in
    let worker = c.in-Some-pop.worker in
    let steps : into_iter_items c.passes.own-iterator ≡ own ∷ into_iter_items c.next.new.self = c.in-Some.ensures.steps.0 in
    let short = ap length steps in
    let left = at.left in
    let gone = c.in-Some.ensures.steps.1 in
    let longer : length (c.passes.yielded ++ own ∷ []) ≡ length c.passes.yielded + 1 = length-append c.passes.yielded (own ∷ []) in
    let many = at.many in
    let pushed = c.push_reserved.ensures.items in
    let last : reverse c.passes.left.items ≡ worker ∷ reverse c.pop.new.self.items = ap reverse c.in-Some-pop.ensures.items ∙ reverse-append c.pop.new.self.items (worker ∷ []) in
    record {
      split = append_assoc c.passes.yielded (own ∷ []) _ ∙ rw (← steps) at.split;
      left = omega (arith, left, short, gone);
      room = let room = at.room in let kept = c.push_reserved.ensures.capacity in let len = c.push_reserved.ensures.len in omega (arith, room, kept, len, short);
      many = ap length pushed ∙ length-append c.passes.seats.items _ ∙ omega (arith, many, longer);
      passes = ap (map (λ seat. seat.passes)) pushed ∙ map-append (λ seat. seat.passes) c.passes.seats.items _ ∙ ap (λ l. l ++ own ∷ []) at.passes;
      workers = ap (λ l. map (λ seat. seat.worker) l ++ map (λ rest. Some rest) (reverse c.pop.new.self.items)) pushed ∙ ap (λ l. l ++ map (λ rest. Some rest) (reverse c.pop.new.self.items)) (map-append (λ seat. seat.worker) c.passes.seats.items _)
          ∙ append_assoc (map (λ seat. seat.worker) c.passes.seats.items) (Some worker ∷ []) (map (λ rest. Some rest) (reverse c.pop.new.self.items)) ∙ ap (λ l. map (λ seat. seat.worker) c.passes.seats.items ++ map (λ rest. Some rest) l) (sym last) ∙ at.workers;
    }

pub returns-clause-workers : goal.returns-clause-workers
returns-clause-workers g c = λ n rest seat at_rest at_seat. joined_at (λ seat. seat.worker) (λ rest. Some rest) c.passes.seats.items _ c.args.rested.items c.passes.invariant.workers n seat rest at_seat at_rest

pub returns-clause-many : goal.returns-clause-many
returns-clause-many g c =
    let at = c.passes.invariant in
    at.many ∙ ap length (all_yielded c.passes.yielded (into_iter_items c.passes.own-iterator) c.args.passes.items _ at.split at.left c.in-None.ensures.steps.0)

pub returns-clause-passes : goal.returns-clause-passes
returns-clause-passes g c =
    let at = c.passes.invariant in
    let whole = append-nil (map (λ seat. seat.passes) c.passes.seats.items) ∙ at.passes ∙ all_yielded c.passes.yielded (into_iter_items c.passes.own-iterator) c.args.passes.items _ at.split at.left c.in-None.ensures.steps.0 in
    λ n own seat is there. map_front (λ seat. seat.passes) c.passes.seats.items [] n seat own there (ap (λ l. slice_get l n) whole ∙ is)
