use Rattle.measure.specs.ShardLoops.{AreInitialBelow}
use Rattle.measure.proofs.shard.event_loop.initial_states.Given as goal

abbrev pub invariant-loop-colour : goal.invariant-loop-colour
invariant-loop-colour l = AreInitialBelow l.colour l.states.items
