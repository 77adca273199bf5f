use Rattle.std.proofs.Common.{◌≡◌, ◌++◌, length}
use Rattle.std.specs.Vec.Iter.{into_iter_items, into_iter_len}
use Rattle.sws_handlers.specs.Handing.{HandsOut}
use Rattle.sws_handlers.proofs.handing.keep_loads.Given as goal

abbrev pub invariant-loop-event : goal.invariant-loop-event
invariant-loop-event g l = record {
  split : l.yielded ++ into_iter_items l.event-iterator ≡ l.fn.events.items;
  left : into_iter_len l.event-iterator ≡ length (into_iter_items l.event-iterator);
  hands : HandsOut l.yielded l.initial.left l.left;
}
