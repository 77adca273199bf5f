use Rattle.std.proofs.Common.{[], sym, ◌∙◌, subst}
use Rattle.mely_net.specs.Clients.{asks_of_step, shown_client}
use Rattle.mely_net.specs.Talks.{Hears}
use Rattle.mely_net.proofs.HearLemmas.{apart_so, hears_astray, hears_reply, there_so}
use Rattle.mely_net.proofs.client.Client.hear.Goals as goal

pub returns-then-eq-clause-hears : goal.returns-then-eq-clause-hears
returns-then-eq-clause-hears g c = hears_reply (g.S.Service.rules_of c.args.service.now) (shown_client {l = g.L.Link} c.args.self.now) (shown_client {l = g.L.Link} c.hear_asked.new.self) c.args.cell c.args.reply (asks_of_step c.hear_asked.result) (there_so c.args.self.now.asked c.args.cell (sym c.eq.ensures ∙ c.if-eq.true)) c.hear_asked.ensures.answers

pub returns-else-eq-clause-hears : goal.returns-else-eq-clause-hears
returns-else-eq-clause-hears g c = subst (Hears (g.S.Service.rules_of c.args.service.now) (c.args.cell, c.args.reply) [] (shown_client {l = g.L.Link} c.args.self.now)) (sym c.leave.ensures) (hears_astray (g.S.Service.rules_of c.args.service.now) (shown_client {l = g.L.Link} c.args.self.now) c.args.cell c.args.reply (apart_so c.args.self.now.asked c.args.cell (sym c.eq.ensures ∙ c.if-eq.false)))
