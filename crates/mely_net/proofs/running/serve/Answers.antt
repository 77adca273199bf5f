use Rattle.mely_net.specs.Exchanges.{IsAt}
use Rattle.mely_net.proofs.ServedLemmas.{served_from}
use Rattle.mely_net.proofs.running.serve.Goals as goal

pub returns-in-Ok : goal.returns-in-Ok
returns-in-Ok g c =
    let rules = g.S.Service.rules_of c.args.service in
    served_from rules g.W.Link.Link (IsAt c.in_ok-cells.cells.items) rules.Begins c.in_ok-cells.ensures.begin (g.W.World.tells c.args.world).total c.in-Ok.ended.values.items c.in-Ok.ensures.served
