use Rattle.mely_net.specs.Clients.{shown_client}
use Rattle.mely_net.proofs.AnswerLemmas.{refuses, idle_of}
use Rattle.mely_net.proofs.TalkLemmas.{keeps_same}
use Rattle.mely_net.proofs.client.Client.refuse.Goals as goal

pub returns-in-Ok : goal.returns-in-Ok
returns-in-Ok g c =
    let rules = g.S.Service.rules_of c.args.service.now in
    let view = shown_client {l = g.L.Link} c.args.self.now in
    let after = shown_client {l = g.L.Link} c.say.new.self in
    keeps_same rules view after (λ asks replies talk. refuses rules asks replies view after c.in-Ok.reply c.requires.come c.requires.goes_on c.requires.idle c.requires.cut c.in-Ok.ensures c.say.ensures (idle_of rules asks replies view c.requires.goes_on c.requires.idle c.requires.not_last talk))
