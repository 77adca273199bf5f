use Rattle.std.proofs.Common.{◌≡◌, ◌+◌, ◌≤◌, length, vec_capacity, vec_len}
use Rattle.mely_history.specs.Setup.{shape_of}
use Rattle.mely_weave.specs.Dealing.{AtEach}
use Rattle.mely_kept.specs.Frames.{shard_frame}
use Rattle.mely_fleet.specs.Seats.{IsOutsider}
use Rattle.test_fleet.specs.Callers.{IsCaller}
use Rattle.test_fleet.proofs.tests.crowd.part.Given as goal

abbrev pub invariant-part : goal.invariant-part
invariant-part l = record {
  least : (shape_of l.setup).cores ≤ length l.callers.items;
  all : length l.outside.items + length l.callers.items ≡ length l.fn.callers.items;
  room : vec_len l.outside + length l.callers.items ≤ vec_capacity l.outside;
  callers : AtEach (λ n caller. IsCaller (λ s. tt) (λ f c e l. Unit {0}) l.fleet n caller.passes caller.worker) l.callers.items;
  outside : AtEach (λ n own. IsOutsider (shard_frame (λ s. tt)) l.fleet own) l.outside.items;
}

abbrev pub decreases-part : goal.decreases-part
decreases-part l = length l.callers.items
