use Rattle.std.proofs.Common.{[]}
use Rattle.mely_net.specs.Clients.{shown_client}
use Rattle.mely_net.specs.Talks.{Keeps}
use Rattle.mely_net.proofs.client.Client.go_on.Given as goal

abbrev pub invariant-steps : goal.invariant-steps
invariant-steps g l = Keeps (g.S.Service.rules_of l.service) [] (shown_client l.fn.self) (shown_client l.self)
