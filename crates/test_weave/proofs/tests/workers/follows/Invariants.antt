use Rattle.std.proofs.Common.{◌≤◌, length}
use Rattle.mely_event.specs.HandlerTable.{rows_of}
use Rattle.mely_event.specs.declared.logged.Logged.{Logged}
use Rattle.mely_event.specs.declared.trail.Trail.{Ghosts as TrailWords}
use Rattle.mely_history.specs.Setup.{colours_of, handlers_of}
use Rattle.mely_worker.specs.Conditions.{MayStep}
use Rattle.test_weave.specs.declared.tests.workers.ledger.Sums.{Sums}
use Rattle.test_weave.proofs.tests.workers.follows.Given as goal

-- what contracts see of the state
abbrev pub ledger_words : TrailWords (Logged Sums) (Unit {0})
ledger_words = record { trail_of = λ s. s.log.events; colour_of = λ s. s.log.colour; frame_of = λ s. tt }

abbrev pub invariant-loop-made : goal.invariant-loop-made
invariant-loop-made l = record {
  may : MayStep ledger_words (λ f c e p. Unit {0}) l.script.setup 0 tt (λ c core count trail. Unit {0}) l.worker;
  colours : 2 ≤ colours_of l.script.setup;
  handlers : 2 ≤ length (rows_of (handlers_of l.script.setup));
}
