use Rattle.std.proofs.Common.{◌≡◌, ◌∷◌, Some, [], suc, length, map, ap, ◌∙◌, arith, append_assoc}
use Rattle.std.specs.Prelude.{slice_get}
use Rattle.std.specs.Vec.Iter.{into_iter_items}
use Rattle.mely_history.specs.Setup.{is_listed}
use Rattle.mely_weave.proofs.Wholes.SpreadLemmas.{map_push}
use Rattle.mely_weave.proofs.parts.take_apart.Goals as goal

pub into_parts-history-requires : goal.into_parts-history-requires
into_parts-history-requires g c = c.loop-shard.invariant.at_rest 0 c.in-Some.shard (ap (λ xs. slice_get xs 0) c.in-Some.ensures.steps.0)

pub loop-shard-preserved : goal.loop-shard-preserved
loop-shard-preserved g c =
    let at = c.loop-shard.invariant in
    let shard = c.in-Some.shard in
    let parts = c.into_parts-history.ensures in
    let steps : into_iter_items c.loop-shard.shard-iterator ≡ shard ∷ into_iter_items c.next.new.self = c.in-Some.ensures.steps.0 in
    let short = ap length steps in
    let left = at.left in
    let gone = c.in-Some.ensures.steps.1 in
    record {
      split = append_assoc c.loop-shard.yielded (shard ∷ []) _ ∙ rw (← steps) at.split;
      left = omega (arith, left, short, gone);
      at_rest = λ number has there. at.at_rest (suc number) has (ap (λ xs. slice_get xs (suc number)) steps ∙ there);
      room_histories = let room = at.room_histories in let kept = c.push_reserved.ensures.capacity in let len = c.push_reserved.ensures.len in omega (arith, room, kept, len, short);
      room_states = let room = at.room_states in let kept = c.push_reserved-in-loop-shard.ensures.capacity in let len = c.push_reserved-in-loop-shard.ensures.len in omega (arith, room, kept, len, short);
      room_queued = let room = at.room_queued in let kept = c.push_reserved-in-loop-shard-2.ensures.capacity in let len = c.push_reserved-in-loop-shard-2.ensures.len in omega (arith, room, kept, len, short);
      histories = rw c.push_reserved.ensures.items (map_push (λ history. history.items) (λ has. has.history) c.loop-shard.histories.items c.loop-shard.yielded c.into_parts-history.result.0 shard at.histories parts.history);
      listed = rw c.push_reserved.ensures.items (map_push (λ history. history.listed) (λ has. is_listed has.setup) c.loop-shard.histories.items c.loop-shard.yielded c.into_parts-history.result.0 shard at.listed parts.listed);
      states = rw c.push_reserved-in-loop-shard.ensures.items (map_push (λ pile. map (λ state. Some state) pile.items) (λ has. map (λ lane. lane.state) has.lanes) c.loop-shard.states.items c.loop-shard.yielded c.into_parts-history.result.1 shard at.states parts.states);
      queued = rw c.push_reserved-in-loop-shard-2.ensures.items (map_push (λ pile. map (λ queue. queue.items) pile.items) (λ has. map (λ lane. lane.events) has.lanes) c.loop-shard.queued.items c.loop-shard.yielded c.into_parts-history.result.2 shard at.queued parts.queues);
    }
