use Rattle.std.proofs.Common.{inl}
use Rattle.mely_net.proofs.client.Client.begin.Goals as goal

pub returns-in-Ok-clause-begins : goal.returns-in-Ok-clause-begins
returns-in-Ok-clause-begins g c = inl (c.in-Ok.next, c.in-Ok.ensures, c.turn_to.ensures.turns)
