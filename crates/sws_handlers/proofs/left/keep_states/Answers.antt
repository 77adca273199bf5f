use Rattle.std.proofs.Common.{◌≡◌, ◌∷◌, [], length, ap, ◌∙◌, sym, subst, arith, append_assoc, append-nil}
use Rattle.std.proofs.lemmas.List.{nil_from_length}
use Rattle.std.specs.Vec.Iter.{into_iter_items}
use Rattle.sws_handlers.specs.LeftKept.{KeepsStates}
use Rattle.sws_handlers.specs.RunLeaves.{StateTells, talkers}
use Rattle.std.specs.List.{AllByRecursion}
use Rattle.sws_handlers.proofs.Events.WaitingListsLemmas.{each_append}
use Rattle.sws_handlers.proofs.Ends.LeftLemmas.{keep_none, keep_more, talkers_head}
use Rattle.sws_handlers.proofs.left.keep_states.Goals as goal

pub loop-place-init : goal.loop-place-init
loop-place-init g c =
    let gives = c.into_iter-place-iterator.ensures.into_iter_gives in
    let count = ap length gives.0 in
    let seats = ap (λ l. length (talkers l)) gives.0 in
    record {
      split = gives.0;
      left = (let many = gives.1 in let long = c.args.states.ok in omega (arith, many, long, count));
      served = (let room = c.requires.served in omega (arith, room, seats));
      trails = (let room = c.requires.trails in omega (arith, room, count));
      kept = keep_none g.T.Talk c.args.left.now;
      tell = tt;
    }

pub keep_state-requires-clause-served : goal.keep_state-requires-clause-served
keep_state-requires-clause-served g c =
    let room = c.loop-place.invariant.served in
    let split = talkers_head g.T.Talk c.in-Some.place _ _ c.in-Some.ensures.steps.0 in
    omega (arith, room, split)

pub keep_state-requires-clause-trails : goal.keep_state-requires-clause-trails
keep_state-requires-clause-trails g c =
    let room = c.loop-place.invariant.trails in
    let split = ap length c.in-Some.ensures.steps.0 in
    omega (arith, room, split)

pub loop-place-preserved : goal.loop-place-preserved
loop-place-preserved g c =
    let at = c.loop-place.invariant in
    let place = c.in-Some.place in
    let kept = c.keep_state.ensures.keeps in
    let steps : into_iter_items c.loop-place.place-iterator ≡ place ∷ into_iter_items c.next.new.self = c.in-Some.ensures.steps.0 in
    let short = ap length steps in
    let seats = talkers_head g.T.Talk place _ _ steps in
    let left = at.left in
    let gone = c.in-Some.ensures.steps.1 in
    record {
      split = append_assoc c.loop-place.yielded (place ∷ []) _ ∙ rw (← steps) at.split;
      left = omega (arith, left, short, gone);
      served = (let room = at.served in let len = kept.served_len in let same = kept.served_room in omega (arith, room, len, same, seats));
      trails = (let room = at.trails in let len = kept.trails_len in let same = kept.trails_room in omega (arith, room, len, same, short));
      kept = keep_more g.T.Talk c.loop-place.yielded (place ∷ []) _ c.loop-place.left _ at.kept kept;
      tell = each_append (StateTells g.W.World g.W.Link.Link g.T.Talk) c.loop-place.yielded (place ∷ []) at.tell (c.keep_state.ensures.tells, tt);
    }

pub returns-clause-keeps : goal.returns-clause-keeps
returns-clause-keeps g c =
    let at = c.loop-place.invariant in
    let none = c.in-None.ensures.steps in
    let empty : into_iter_items c.loop-place.place-iterator ≡ [] = nil_from_length _ (sym at.left ∙ none.0) in
    let all : c.loop-place.yielded ≡ c.args.states.items = sym (append-nil c.loop-place.yielded) ∙ rw empty at at.split in
    subst (λ l. KeepsStates g.T.Talk l c.args.left.now c.loop-place.left) all at.kept

pub returns-clause-tell : goal.returns-clause-tell
returns-clause-tell g c =
    let at = c.loop-place.invariant in
    let none = c.in-None.ensures.steps in
    let empty : into_iter_items c.loop-place.place-iterator ≡ [] = nil_from_length _ (sym at.left ∙ none.0) in
    let all : c.loop-place.yielded ≡ c.args.states.items = sym (append-nil c.loop-place.yielded) ∙ rw empty at at.split in
    subst (λ l. AllByRecursion (StateTells g.W.World g.W.Link.Link g.T.Talk) l) all at.tell
