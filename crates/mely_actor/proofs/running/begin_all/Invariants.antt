use Rattle.mely_actor.specs.Received.{AreBegun}
use Rattle.mely_actor.proofs.running.begin_all.Given as goal

abbrev pub invariant-colours : goal.invariant-colours
invariant-colours g l = AreBegun g.A.Actor l.actor l.number l.values.items
