use Rattle.std.proofs.Common.{length}
use Rattle.mely_event.specs.declared.trail.Trail.{Ghosts as TrailWords}
use Rattle.test_runtime.specs.declared.tests.shards.Counter.{Counter}
use Rattle.mely_shard.specs.Shard.{TurnStands, IsOwn}
use Rattle.test_runtime.proofs.tests.shards.run_and_finish.Given as goal

-- what contracts see of the state
abbrev pub counter_words : TrailWords Counter (Unit {0})
counter_words = record { trail_of = λ s. s.log.events; colour_of = λ s. s.log.colour; frame_of = λ s. tt }

abbrev pub invariant-loop-event : goal.invariant-loop-event
invariant-loop-event l = record {
  stands : TurnStands counter_words (λ f c e p. Unit {0}) l.shard l.turn;
  own : IsOwn l.shard l.turn.colour;
}

abbrev pub decreases-loop-event : goal.decreases-loop-event
decreases-loop-event l = length l.turn.events
