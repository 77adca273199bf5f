use Rattle.std.proofs.Common.{◌≡◌, ◌≤◌, ◌+◌, ◌-◌, ◌*◌, length, take, drop, sum}
use Rattle.mely_queue.proofs.colour_queue.drop_front.Given as goal

abbrev pub invariant-loop : goal.invariant-loop
invariant-loop l = record {
  there : l.count - l.counter ≤ length l.from.items;
  taken : l.taken + sum (take (l.count - l.counter) l.from.items) ≡ sum (take l.count l.fn.from.items);
  left : drop (l.count - l.counter) l.from.items ≡ drop l.count l.fn.from.items;
  small : l.taken ≤ 4294967295 * l.counter;
}
