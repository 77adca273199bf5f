use Rattle.std.proofs.Common.{sym, ◌∙◌}
use Rattle.mely_net.specs.Clients.{asks_of}
use Rattle.mely_net.proofs.PartLemmas.{connection_goes, connection_stays, not_own, own_client}
use Rattle.mely_net.proofs.serving.at_client.Goals as goal

pub returns-then-is_for_client-clause-kept : goal.returns-then-is_for_client-clause-kept
returns-then-is_for_client-clause-kept g c = λ received sent kept.
    connection_goes (g.S.Service.rules_of c.args.service.now) g.W.Link.Link c.args.colour received sent c.send_turn.new.sends c.args.message c.args.client.now c.act-turn.new.client (asks_of c.act-turn.result) c.act-turn.ensures.gets c.send_turn.ensures.sent c.act-turn.ensures.there kept

pub returns-else-is_for_client-clause-kept : goal.returns-else-is_for_client-clause-kept
returns-else-is_for_client-clause-kept g c = λ received sent kept.
    connection_stays (g.S.Service.rules_of c.args.service.now) g.W.Link.Link c.args.colour received sent c.args.sends.now c.args.message c.args.client.now (not_own c.args.message (sym c.is_for_client.ensures ∙ c.if-is_for_client.false)) c.requires.empty kept

pub send_turn-requires-clause-own : goal.send_turn-requires-clause-own
send_turn-requires-clause-own g c = own_client g.W.World.tells g.W.Link.Link.tells g.W.Link.Link.is_shut c.args.layout.now.cells c.args.layout.now.clients c.args.colour c.args.message (sym c.is_for_client.ensures ∙ c.if-is_for_client.true) c.requires.may_get
