use Rattle.std.proofs.Common.{◌≡◌, ◌+◌, ◌∷◌, ◌++◌, [], length, sym, ap, subst, ◌∙◌, append_assoc, append-nil, length-append, arith}
use Rattle.std.specs.Vec.Iter.{into_iter_items}
use Rattle.std.proofs.lemmas.List.{nil_from_length}
use Rattle.mely_history.specs.Setup.{shape_of}
use Rattle.mely_shard.specs.Invariant.{IsInitialSlot, AreInitialSlots}
use Rattle.mely_shard.proofs.InitialSlotLemmas.{initial_more}
use Rattle.mely_shard.proofs.colour_slot.slots_of.Goals as goal

pub loop-state-preserved : goal.loop-state-preserved
loop-state-preserved g c =
    let at = c.loop-state in
    let state = c.in-Some.state in
    let steps : into_iter_items at.state-iterator ≡ state ∷ into_iter_items c.next.new.self = c.in-Some.ensures.steps.0 in
    let short = ap length steps in
    let left = at.invariant.left in
    let gone = c.in-Some.ensures.steps.1 in
    let longer : length (at.yielded ++ state ∷ []) ≡ length at.yielded + 1 = length-append at.yielded (state ∷ []) in
    let colour = at.invariant.colour in
    let step : c.from-colour-in-loop-state.result ≡ (shape_of c.args.setup.now).shards = c.from-colour-in-loop-state.ensures ∙ c.shards.ensures.value in
    let many = at.invariant.many in
    let room = at.invariant.room in
    let pushed = c.push_reserved.ensures.items in
    let pushed_many : length c.push_reserved.new.self.items ≡ length at.slots.items + 1 = ap length pushed ∙ length-append at.slots.items (c.initial_slot.result ∷ []) in
    record {
      split = append_assoc at.yielded (state ∷ []) _ ∙ rw (← steps) at.invariant.split;
      left = omega arith;
      many = omega arith;
      room = let kept = c.push_reserved.ensures.capacity in let len = c.push_reserved.ensures.len in omega (arith, kept, len, room, short);
      colour = rw longer (omega (arith, colour, step));
      first = rw pushed (initial_more c.args.setup.now c.args.shard at.yielded at.slots.items state c.initial_slot.result many at.invariant.first (subst (λ k. IsInitialSlot c.args.setup.now k state c.initial_slot.result) colour c.initial_slot.ensures));
    }

pub returns-clause-first : goal.returns-clause-first
returns-clause-first g c =
    let at = c.loop-state in
    let none = c.in-None.ensures.steps in
    let empty : into_iter_items at.state-iterator ≡ [] = nil_from_length _ (sym at.invariant.left ∙ none.0) in
    let all : at.yielded ≡ c.args.states.items = sym (append-nil at.yielded) ∙ rw empty at at.invariant.split in
    subst (λ states. AreInitialSlots c.args.setup.now c.args.shard states at.slots.items) all at.invariant.first
