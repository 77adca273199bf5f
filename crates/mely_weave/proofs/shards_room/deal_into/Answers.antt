use Rattle.std.proofs.Common.{◌≡◌, ◌+◌, ◌<◌, ◌%◌, ◌++◌, ◌∷◌, Some, [], length, ap, ◌∙◌, sym, arith, length-append, append_assoc, vec_capacity}
use Rattle.std.proofs.lemmas.Option.{slice_get-get_or}
use Rattle.std.specs.Prelude.{slice_get}
use Rattle.std.specs.Vec.Iter.{into_iter_items}
use Rattle.mely_history.specs.Setup.{shape_of, colours_of}
use Rattle.mely_weave.proofs.Wholes.DealLemmas.{dealt_more, less_than_room, room_kept}
use Rattle.mely_weave.proofs.shards_room.deal_into.Goals as goal

pub loop-state-preserved : goal.loop-state-preserved
loop-state-preserved g c =
    let at = c.loop-state.invariant in
    let state = c.in-Some.state in
    let steps : into_iter_items c.loop-state.state-iterator ≡ state ∷ into_iter_items c.next.new.self = c.in-Some.ensures.steps.0 in
    let short = ap length steps in
    let left = at.left in
    let gone = c.in-Some.ensures.steps.1 in
    let longer : length (c.loop-state.yielded ++ state ∷ []) ≡ length c.loop-state.yielded + 1 = length-append c.loop-state.yielded (state ∷ []) in
    let number = at.number in
    let shards = c.shards.ensures.value in
    let some = c.shards.ensures.range.0 in
    let many = at.dealt.many in
    let low : c.loop-state.number % c.shards.result < length c.loop-state.by_shard.items = omega (arith, shards, some, many) in
    let there : slice_get c.loop-state.by_shard.items (c.loop-state.number % c.shards.result) ≡ Some c.index_mut.result.now =
    slice_get-get_or c.loop-state.by_shard.items (c.loop-state.number % c.shards.result) c.index_mut.result.now low ∙ ap (λ pile. Some pile) (sym c.index_mut.ensures.value) in
    let dealt = rw (← shards) at at.dealt in
    record {
      split = append_assoc c.loop-state.yielded (state ∷ []) _ ∙ rw (← steps) at.split;
      left = omega (arith, left, short, gone);
      number = omega (arith, number, longer);
      room = room_kept vec_capacity (colours_of c.args.setup.now) (shape_of c.args.setup.now).shards c.loop-state.by_shard.items c.index_mut.result.now c.push_reserved.new.self (c.loop-state.number % c.shards.result) there c.push_reserved.ensures.capacity at.room;
      dealt = rw (← shards) (dealt_more (λ pile. pile.items) c.shards.result some c.loop-state.yielded c.loop-state.by_shard.items c.index_mut.result.now c.push_reserved.new.self state c.loop-state.number (sym number) dealt there c.push_reserved.ensures.items);
    }

pub push_reserved-requires : goal.push_reserved-requires
push_reserved-requires g c =
    let at = c.loop-state.invariant in
    let state = c.in-Some.state in
    let steps : into_iter_items c.loop-state.state-iterator ≡ state ∷ into_iter_items c.next.new.self = c.in-Some.ensures.steps.0 in
    let short = ap length steps in
    let whole = ap length at.split in
    let both = length-append c.loop-state.yielded (into_iter_items c.loop-state.state-iterator) in
    let number = at.number in
    let shards = c.shards.ensures.value in
    let some = c.shards.ensures.range.0 in
    let many = at.dealt.many in
    let low : c.loop-state.number % c.shards.result < length c.loop-state.by_shard.items = omega (arith, shards, some, many) in
    let there : slice_get c.loop-state.by_shard.items (c.loop-state.number % c.shards.result) ≡ Some c.index_mut.result.now =
    slice_get-get_or c.loop-state.by_shard.items (c.loop-state.number % c.shards.result) c.index_mut.result.now low ∙ ap (λ pile. Some pile) (sym c.index_mut.ensures.value) in
    let all = c.requires.few in
    let room = rw (← shards) at at.room in
    let dealt = rw (← shards) at at.dealt in
    let less = less_than_room (λ pile. pile.items) c.shards.result some c.loop-state.yielded c.loop-state.by_shard.items c.index_mut.result.now c.loop-state.number (colours_of c.args.setup.now) (vec_capacity c.index_mut.result.now) (sym number) (omega (arith, short, whole, both, number, all)) (room.each _ _ there) dealt there in
    let len = c.index_mut.result.now.ok.0 in
    omega (arith, less, len)
