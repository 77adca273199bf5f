use Rattle.std.proofs.Common.{◌∙◌, sym, subst}
use Rattle.mely_net.specs.Clients.{asks_of_step, shown_client}
use Rattle.mely_net.specs.Turning.{AnswersBy, TurnsTo}
use Rattle.mely_net.proofs.client.Client.hear_asked.Goals as goal

pub returns-in-Some-clause-answers : goal.returns-in-Some-clause-answers
returns-in-Some-clause-answers g c =
    let rules = g.S.Service.rules_of c.args.service.now in
    let view = shown_client {l = g.L.Link} c.args.self.now in
    let after = shown_client {l = g.L.Link} c.turn_to.new.self in
    let new = asks_of_step c.turn_to.result in
    subst (λ s. AnswersBy rules s c.args.reply new view after) (sym c.in-Some.is ∙ c.take.ensures.value)
    (c.hear.result, c.hear.ensures, subst (λ s. TurnsTo rules c.hear.result new (record view { several = s }) after) c.take.ensures.after c.turn_to.ensures.turns)
