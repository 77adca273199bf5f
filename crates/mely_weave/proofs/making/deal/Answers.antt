use Rattle.std.proofs.Common.{◌≡◌, ◌+◌, ◌<◌, ◌%◌, ◌++◌, ◌∷◌, Some, [], length, ap, ◌∙◌, sym, arith, length-append, append_assoc}
use Rattle.std.proofs.lemmas.Option.{slice_get-get_or}
use Rattle.std.specs.Prelude.{slice_get}
use Rattle.std.specs.Vec.Iter.{into_iter_items}
use Rattle.mely_weave.proofs.Wholes.DealLemmas.{dealt_more}
use Rattle.mely_weave.proofs.making.deal.Goals as goal

pub loop-state-preserved : goal.loop-state-preserved
loop-state-preserved g c =
    let at = c.loop-state.invariant in
    let state = c.in-Some.state in
    let steps : into_iter_items c.loop-state.state-iterator ≡ state ∷ into_iter_items c.next.new.self = c.in-Some.ensures.steps.0 in
    let short = ap length steps in
    let left = at.left in
    let gone = c.in-Some.ensures.steps.1 in
    let longer : length (c.loop-state.yielded ++ state ∷ []) ≡ length c.loop-state.yielded + 1 = length-append c.loop-state.yielded (state ∷ []) in
    let number = at.number in
    let shards = c.shards-in-loop-state.ensures.value in
    let some = c.shards-in-loop-state.ensures.range.0 in
    let many = at.dealt.many in
    let low : c.loop-state.number % c.shards-in-loop-state.result < length c.loop-state.by_shard.items = omega (arith, shards, some, many) in
    let there : slice_get c.loop-state.by_shard.items (c.loop-state.number % c.shards-in-loop-state.result) ≡ Some c.index_mut.result.now =
    slice_get-get_or c.loop-state.by_shard.items (c.loop-state.number % c.shards-in-loop-state.result) c.index_mut.result.now low ∙ ap (λ pile. Some pile) (sym c.index_mut.ensures.value) in
    let dealt = rw (← shards) at at.dealt in
    record {
      split = append_assoc c.loop-state.yielded (state ∷ []) _ ∙ rw (← steps) at.split;
      left = omega (arith, left, short, gone);
      number = omega (arith, number, longer);
      dealt = rw (← shards) (dealt_more (λ pile. pile.items) c.shards-in-loop-state.result some c.loop-state.yielded c.loop-state.by_shard.items c.index_mut.result.now c.push.new.self state c.loop-state.number (sym number) dealt there c.in_ok-push.ensures.items);
    }
