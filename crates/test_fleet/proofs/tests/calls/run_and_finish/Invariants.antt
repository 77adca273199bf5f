use Rattle.std.proofs.Common.{length}
use Rattle.test_fleet.specs.Callers.{MayFinish}
use Rattle.test_fleet.proofs.RowLemmas.{tally_words}
use Rattle.test_fleet.proofs.tests.calls.run_and_finish.Given as goal

abbrev pub invariant-loop-event : goal.invariant-loop-event
invariant-loop-event g l = MayFinish tally_words l.fleet l.own l.turn

abbrev pub decreases-loop-event : goal.decreases-loop-event
decreases-loop-event g l = length l.turn.events
