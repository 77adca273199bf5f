use Rattle.std.proofs.Common.{◌≡◌, ◌≤◌, ◌+◌, ◌++◌, ℕ, Some, length, map, vec_len, vec_capacity}
use Rattle.std.specs.Prelude.{slice_get}
use Rattle.std.specs.Vec.Iter.{into_iter_items, into_iter_len}
use Rattle.mely_history.specs.Setup.{is_listed}
use Rattle.mely_shard.specs.Shard.{ShardState}
use Rattle.mely_weave.specs.Spreading.{IsAtRest}
use Rattle.mely_weave.proofs.parts.take_apart.Given as goal

abbrev pub invariant-loop-shard : goal.invariant-loop-shard
invariant-loop-shard g l = record {
  split : l.yielded ++ into_iter_items l.shard-iterator ≡ l.fn.shards.items;
  left : into_iter_len l.shard-iterator ≡ length (into_iter_items l.shard-iterator);
  at_rest : (number : ℕ) (has : ShardState g.row.S.Denot g.row.P.Denot) → slice_get (into_iter_items l.shard-iterator) number ≡ Some has → IsAtRest has;
  room_histories : vec_len l.histories + length (into_iter_items l.shard-iterator) ≤ vec_capacity l.histories;
  room_states : vec_len l.states + length (into_iter_items l.shard-iterator) ≤ vec_capacity l.states;
  room_queued : vec_len l.queued + length (into_iter_items l.shard-iterator) ≤ vec_capacity l.queued;
  histories : map (λ history. history.items) l.histories.items ≡ map (λ has. has.history) l.yielded;
  listed : map (λ history. history.listed) l.histories.items ≡ map (λ has. is_listed has.setup) l.yielded;
  states : map (λ pile. map (λ state. Some state) pile.items) l.states.items ≡ map (λ has. map (λ lane. lane.state) has.lanes) l.yielded;
  queued : map (λ pile. map (λ queue. queue.items) pile.items) l.queued.items ≡ map (λ has. map (λ lane. lane.events) has.lanes) l.yielded;
}
