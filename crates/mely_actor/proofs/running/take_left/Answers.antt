use Rattle.std.proofs.Common.{◌≡◌, ◌++◌, ◌∷◌, [], length, ap, ◌∙◌, sym, subst, arith, append_assoc}
use Rattle.std.specs.Vec.Iter.{into_iter_items}
use Rattle.mely_actor.specs.Received.{AreTaken}
use Rattle.mely_actor.proofs.StatesLemmas.{handed_out, more_left}
use Rattle.mely_actor.proofs.running.take_left.Goals as goal

pub states-preserved : goal.states-preserved
states-preserved g c =
    let at = c.states.invariant in
    let state = c.in-Some.state in
    let steps : into_iter_items c.states.state-iterator ≡ state ∷ into_iter_items c.next.new.self = c.in-Some.ensures.steps.0 in
    let short = ap length steps in
    let left = at.left in
    let gone = c.in-Some.ensures.steps.1 in
    record {
      split = append_assoc c.states.yielded (state ∷ []) _ ∙ rw (← steps) at.split;
      left = omega (arith, left, short, gone);
      room = let room = at.room in let kept = c.push_reserved.ensures.capacity in let len = c.push_reserved.ensures.len in omega (arith, room, kept, len, short);
      taken = subst (AreTaken g.A.Actor (c.states.yielded ++ state ∷ [])) (sym c.push_reserved.ensures.items) (more_left g.A.Actor c.states.yielded c.states.values.items state c.into_value.result at.taken (handed_out g.A.Actor state c.into_value.result c.into_value.ensures.value c.into_value.ensures.well c.into_value.ensures.keeps));
    }
