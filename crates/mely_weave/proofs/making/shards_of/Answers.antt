use Rattle.std.proofs.Common.{◌≡◌, ◌+◌, ◌++◌, ◌∷◌, [], length, ap, ◌∙◌, sym, arith, length-append, append_assoc, append-nil}
use Rattle.std.proofs.lemmas.List.{nil_from_length}
use Rattle.std.specs.Prelude.{slice_get}
use Rattle.std.specs.Vec.Iter.{into_iter_items}
use Rattle.mely_shard.specs.Shard.{IsInitialShard}
use Rattle.mely_weave.proofs.Wholes.DealLemmas.{both_push}
use Rattle.mely_weave.proofs.making.shards_of.Goals as goal

pub loop-states-preserved : goal.loop-states-preserved
loop-states-preserved g c =
    let at = c.loop-states.invariant in
    let states = c.in-Some.states in
    let steps : into_iter_items c.loop-states.states-iterator ≡ states ∷ into_iter_items c.next.new.self = c.in-Some.ensures.steps.0 in
    let short = ap length steps in
    let left = at.left in
    let gone = c.in-Some.ensures.steps.1 in
    let longer : length (c.loop-states.yielded ++ states ∷ []) ≡ length c.loop-states.yielded + 1 = length-append c.loop-states.yielded (states ∷ []) in
    let number = at.number in
    let many = at.many in
    let pushed = c.push_reserved.ensures.items in
    record {
      split = append_assoc c.loop-states.yielded (states ∷ []) _ ∙ rw (← steps) at.split;
      left = omega (arith, left, short, gone);
      number = omega (arith, number, longer);
      room = let room = at.room in let kept = c.push_reserved.ensures.capacity in let len = c.push_reserved.ensures.len in omega (arith, room, kept, len, short);
      many = ap length pushed ∙ length-append c.loop-states.shards.items (c.in_ok-new.field-0 ∷ []) ∙ omega (arith, many, longer);
      first = rw pushed (both_push (λ shard pile has. IsInitialShard c.args.setup.now shard pile.items has) c.loop-states.yielded c.loop-states.shards.items states c.in_ok-new.field-0 c.loop-states.number (sym number) (many ∙ sym number) at.first c.in_ok-new.ensures.made);
    }

pub returns-clause-first : goal.returns-clause-first
returns-clause-first g c =
    let at = c.loop-states.invariant in
    let none = c.in-None.ensures.steps in
    let empty : into_iter_items c.loop-states.states-iterator ≡ [] = nil_from_length _ (sym at.left ∙ none.0) in
    let all : c.loop-states.yielded ≡ c.args.by_shard.items = sym (append-nil c.loop-states.yielded) ∙ rw empty at at.split in
    λ shard pile has pile_at has_at. at.first shard pile has (ap (λ piles. slice_get piles shard) all ∙ pile_at) has_at
