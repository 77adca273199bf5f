use Rattle.std.proofs.Common.{◌≡◌, ◌+◌, ◌++◌, ◌∷◌, [], length, length-append, map, ap, ◌∙◌, sym, subst, arith, append_assoc}
use Rattle.std.proofs.lemmas.List.{map-append}
use Rattle.std.specs.Prelude.{slice_get}
use Rattle.std.specs.Vec.Iter.{into_iter_items}
use Rattle.mely_actor.specs.Received.{AreMade}
use Rattle.mely_actor.proofs.StatesLemmas.{all_yielded, middle_at, more_made}
use Rattle.mely_actor.proofs.running.make_states.Goals as goal

pub values-preserved : goal.values-preserved
values-preserved g c =
    let at = c.values.invariant in
    let value = c.in-Some.value in
    let steps : into_iter_items c.values.value-iterator ≡ value ∷ into_iter_items c.next.new.self = c.in-Some.ensures.steps.0 in
    let here = ap (slice_get c.args.values.items) at.number ∙ middle_at c.values.yielded (into_iter_items c.next.new.self) c.args.values.items value (rw (← steps) at.split) in
    let short = ap length steps in
    let left = at.left in
    let gone = c.in-Some.ensures.steps.1 in
    let number = at.number in
    let longer : length (c.values.yielded ++ value ∷ []) ≡ length c.values.yielded + 1 = length-append c.values.yielded (value ∷ []) in
    record {
      split = append_assoc c.values.yielded (value ∷ []) _ ∙ rw (← steps) at.split;
      left = omega (arith, left, short, gone);
      number = omega (arith, number, longer);
      made = subst (AreMade g.A.Actor c.args.plan.now (c.values.number + 1)) (sym c.in_ok-push.ensures.items) (more_made g.A.Actor c.args.plan.now c.values.number c.values.states.items c.new.result at.made (record {
        log = ap (λ state. state.log) c.new.ensures;
        of_plan = ap (λ state. state.plan) c.new.ensures;
        none = ap (λ state. state.count) c.new.ensures;
        nothing = ap (λ state. state.waiting) c.new.ensures;
        begins = subst (λ v. g.A.Actor.kept c.args.plan.now.actor (record { 0 = c.values.number }) [] [] v) (sym (ap (λ state. state.value) c.new.ensures)) (c.requires.begun.each c.values.number value here);
      }));
      values = ap (map (λ state. state.value)) c.in_ok-push.ensures.items ∙ map-append (λ state. state.value) c.values.states.items (c.new.result ∷ []) ∙ ap (λ l. l ++ c.new.result.value ∷ []) at.values ∙ ap (λ v. c.values.yielded ++ v ∷ []) (ap (λ state. state.value) c.new.ensures);
    }

pub returns-clause-values : goal.returns-clause-values
returns-clause-values g c =
    let at = c.values.invariant in
    at.values ∙ all_yielded c.values.yielded (into_iter_items c.values.value-iterator) c.args.values.items _ at.split at.left c.in-None.ensures.steps.0
