use Rattle.std.proofs.Common.{◌≡◌, ◌++◌, length, map}
use Rattle.std.specs.Prelude.{flat_map}
use Rattle.std.specs.Vec.Iter.{into_iter_items, into_iter_len}
use Rattle.sws_handlers.specs.Handing.{HandsOut}
use Rattle.sws_handlers.proofs.handing.keep_queued.Given as goal

abbrev pub invariant-loop-events : goal.invariant-loop-events
invariant-loop-events g l = record {
  split : l.yielded ++ into_iter_items l.events-iterator ≡ l.fn.queued.items;
  left : into_iter_len l.events-iterator ≡ length (into_iter_items l.events-iterator);
  hands : HandsOut (flat_map (λ events. events) (map (λ events. events.items) l.yielded)) l.initial.left l.left;
}
