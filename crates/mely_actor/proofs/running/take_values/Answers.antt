use Rattle.std.proofs.Common.{◌≡◌, ◌++◌, ◌∷◌, [], length, ap, ◌∙◌, sym, subst, arith, append_assoc}
use Rattle.std.specs.Vec.Iter.{into_iter_items}
use Rattle.mely_actor.specs.Received.{AreValues}
use Rattle.mely_actor.proofs.StatesLemmas.{middle_at, more_taken}
use Rattle.mely_actor.proofs.running.take_values.Goals as goal

pub unreachable-requires : goal.unreachable-requires
unreachable-requires g c =
    let state = c.in-Some.state in
    let steps : into_iter_items c.states.state-iterator ≡ state ∷ into_iter_items c.next.new.self = c.in-Some.ensures.steps.0 in
    let well = c.requires.well (length c.states.yielded) state (middle_at c.states.yielded (into_iter_items c.next.new.self) c.args.states.items state (rw (← steps) c.states.invariant.split)) in
    let there = c.in_default.ensures.there well in
    cc there

pub states-preserved : goal.states-preserved
states-preserved g c =
    let at = c.states.invariant in
    let state = c.in-Some.state in
    let steps : into_iter_items c.states.state-iterator ≡ state ∷ into_iter_items c.next.new.self = c.in-Some.ensures.steps.0 in
    let short = ap length steps in
    let left = at.left in
    let gone = c.in-Some.ensures.steps.1 in
    record {
      split = append_assoc c.states.yielded (state ∷ []) _ ∙ rw (← steps) at.split;
      left = omega (arith, left, short, gone);
      room = let room = at.room in let kept = c.push_reserved.ensures.capacity in let len = c.push_reserved.ensures.len in omega (arith, room, kept, len, short);
      values = subst (AreValues (c.states.yielded ++ state ∷ [])) (sym c.push_reserved.ensures.items) (more_taken c.states.yielded c.states.values.items state c.in-Some-into_value.value at.values c.in-Some-into_value.ensures.value c.in-Some-into_value.ensures.well);
    }
