use Rattle.std.proofs.Common.{◌≡◌, ◌≤◌, ◌+◌, ◌-◌, ◌++◌, length, take, drop, vec_len, vec_capacity}
use Rattle.mely_queue.proofs.colour_queue.move_front.Given as goal

abbrev pub invariant-loop : goal.invariant-loop
invariant-loop g l = record {
  there : l.count - l.counter ≤ length l.from.items;
  room : vec_len l.to + (l.count - l.counter) ≤ vec_capacity l.to;
  moved : l.to.items ++ take (l.count - l.counter) l.from.items ≡ l.fn.to.items ++ take l.count l.fn.from.items;
  left : drop (l.count - l.counter) l.from.items ≡ drop l.count l.fn.from.items;
}
