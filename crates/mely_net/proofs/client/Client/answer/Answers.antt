use Rattle.std.proofs.Common.{[], ◌++◌, true, take, refl, sym, ap, ◌∙◌, subst}
use Rattle.std.proofs.lemmas.List.{take-append-drop, length-take-le}
use Rattle.mely_net.specs.declared.asked.Asked.TheVariants.{At, Here, Last}
use Rattle.mely_net.specs.declared.cut.Cut.TheVariants as cut
use Rattle.mely_net.specs.Clients.{asks_of_step, shown_client}
use Rattle.mely_net.specs.Lines.{IsWhose}
use Rattle.mely_net.proofs.AnswerLemmas.{answers_here, asks_cell, asks_each, idle_of}
use Rattle.mely_net.proofs.TalkLemmas.{keeps_same, not_both}
use Rattle.mely_net.proofs.client.Client.answer.Goals as goal

pub returns-in-At-clause-keeps : goal.returns-in-At-clause-keeps
returns-in-At-clause-keeps g c = λ asks replies talk.
    let rules = g.S.Service.rules_of c.args.service.now in
    let view = shown_client {l = g.L.Link} c.args.self.now in
    let parts = sym (take-append-drop c.args.size view.inbox) ∙ ap (λ l. take c.args.size view.inbox ++ l) (sym c.take_off.ensures) in
    let is = c.requires.cut ∙ ap cut.Frame (sym (length-take-le c.args.size view.inbox c.requires.fits)) in
    let asks_it = subst (rules.Asks (take c.args.size view.inbox)) c.in-At.is (subst (λ b. rules.Asks (take c.args.size b) c.in-Ok.asked) c.bytes.ensures c.in-Ok.ensures.asks) in
    let idle = idle_of rules asks replies view c.requires.goes_on c.requires.idle c.requires.not_last talk in
    asks_cell rules asks replies view (take c.args.size view.inbox) c.take_off.new.self (At c.in-At.cell c.in-At.request) c.in-At.cell c.in-At.request [] view.several c.requires.come c.requires.goes_on c.requires.not_last parts is
    (record { asks = asks_it; whose = subst (IsWhose rules.cells) c.in-At.is c.in-Ok.ensures.there; is_of = (refl, refl, refl, refl) }) idle.alone idle

pub returns-in-Here-clause-keeps : goal.returns-in-Here-clause-keeps
returns-in-Here-clause-keeps g c =
    let rules = g.S.Service.rules_of c.args.service.now in
    let view = shown_client {l = g.L.Link} c.args.self.now in
    let after = shown_client {l = g.L.Link} c.say.new.self in
    let parts = sym (take-append-drop c.args.size view.inbox) ∙ ap (λ l. take c.args.size view.inbox ++ l) (sym c.take_off.ensures) in
    let is = c.requires.cut ∙ ap cut.Frame (sym (length-take-le c.args.size view.inbox c.requires.fits)) in
    let asks_it = subst (rules.Asks (take c.args.size view.inbox)) c.in-Here.is (subst (λ b. rules.Asks (take c.args.size b) c.in-Ok.asked) c.bytes.ensures c.in-Ok.ensures.asks) in
    keeps_same rules view after (λ asks replies talk. answers_here rules asks replies view after (take c.args.size view.inbox) c.take_off.new.self (Here c.in-Here.reply) [] c.in-Here.reply view.is_last c.requires.come c.requires.goes_on c.requires.idle parts is asks_it (refl, refl) refl (λ _ never. never) (λ last. not_both view.is_last last c.requires.not_last) c.say.ensures
    (idle_of rules asks replies view c.requires.goes_on c.requires.idle c.requires.not_last talk))

pub returns-in-Last-clause-keeps : goal.returns-in-Last-clause-keeps
returns-in-Last-clause-keeps g c =
    let rules = g.S.Service.rules_of c.args.service.now in
    let view = shown_client {l = g.L.Link} c.args.self.now in
    let after = shown_client {l = g.L.Link} c.say-in-Last.new.self in
    let parts = sym (take-append-drop c.args.size view.inbox) ∙ ap (λ l. take c.args.size view.inbox ++ l) (sym c.take_off.ensures) in
    let is = c.requires.cut ∙ ap cut.Frame (sym (length-take-le c.args.size view.inbox c.requires.fits)) in
    let asks_it = subst (rules.Asks (take c.args.size view.inbox)) c.in-Last.is (subst (λ b. rules.Asks (take c.args.size b) c.in-Ok.asked) c.bytes.ensures c.in-Ok.ensures.asks) in
    keeps_same rules view after (λ asks replies talk. answers_here rules asks replies view after (take c.args.size view.inbox) c.take_off.new.self (Last c.in-Last.reply) [] c.in-Last.reply true c.requires.come c.requires.goes_on c.requires.idle parts is asks_it (refl, refl) refl (λ e _. let never : ⊥ = cc e in never) (λ _. tt) c.say-in-Last.ensures
    (idle_of rules asks replies view c.requires.goes_on c.requires.idle c.requires.not_last talk))

pub returns-in-Each-clause-keeps : goal.returns-in-Each-clause-keeps
returns-in-Each-clause-keeps g c = λ asks replies talk.
    let rules = g.S.Service.rules_of c.args.service.now in
    let view = shown_client {l = g.L.Link} c.args.self.now in
    let after = shown_client {l = g.L.Link} c.begin.new.self in
    let parts = sym (take-append-drop c.args.size view.inbox) ∙ ap (λ l. take c.args.size view.inbox ++ l) (sym c.take_off.ensures) in
    let is = c.requires.cut ∙ ap cut.Frame (sym (length-take-le c.args.size view.inbox c.requires.fits)) in
    let asks_it = subst (rules.Asks (take c.args.size view.inbox)) c.in-Each.is (subst (λ b. rules.Asks (take c.args.size b) c.in-Ok.asked) c.bytes.ensures c.in-Ok.ensures.asks) in
    asks_each rules asks replies view after (take c.args.size view.inbox) c.take_off.new.self c.in-Each.asks c.in-Each.reply (asks_of_step c.begin.result) c.requires.come c.requires.goes_on c.requires.idle c.requires.not_last parts is asks_it
    (subst (IsWhose rules.cells) c.in-Each.is c.in-Ok.ensures.there) c.begin.ensures.begins talk
