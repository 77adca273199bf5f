use Rattle.std.proofs.Common.{length}
use Rattle.mely_event.specs.TrailLog.{TrailLogState}
use Rattle.mely_event.specs.declared.trail.Trail.{Ghosts as TrailWords}
use Rattle.mely_shard.specs.Shard.{TurnStands, IsOwn}
use Rattle.measure.proofs.shard.event_loop.run_and_finish.Given as goal

-- what contracts see of the state
abbrev pub log_words : TrailWords TrailLogState (Unit {0})
log_words = record { trail_of = λ s. s.events; colour_of = λ s. s.colour; frame_of = λ s. tt }

abbrev pub invariant-loop-event : goal.invariant-loop-event
invariant-loop-event l = record {
  stands : TurnStands log_words (λ f c e p. Unit {0}) l.shard l.turn;
  own : IsOwn l.shard l.turn.colour;
}

abbrev pub decreases-loop-event : goal.decreases-loop-event
decreases-loop-event l = length l.turn.events
