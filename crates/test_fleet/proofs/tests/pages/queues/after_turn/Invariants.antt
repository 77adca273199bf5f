use Rattle.std.proofs.Common.{◌+◌, ◌≤◌, length}
use Rattle.test_fleet.proofs.tests.pages.queues.after_turn.Given as goal

abbrev pub invariant-loop-event : goal.invariant-loop-event
invariant-loop-event l = l.queue.finished + l.turn.count ≤ l.queue.started

abbrev pub decreases-loop-event : goal.decreases-loop-event
decreases-loop-event l = length l.turn.events
