use Rattle.std.proofs.Common.{refl, ap}
use Rattle.mely_event.specs.TrailLog.{TrailLogState}
use Rattle.example_order.proofs.TellingLemmas.{serves_quietly}
use Rattle.example_order.proofs.telling.TellingApp.run.Goals as goal

pub returns-else-event-eq-TELL-clause-ran : goal.returns-else-event-eq-TELL-clause-ran
returns-else-event-eq-TELL-clause-ran c = serves_quietly c.args.state.now (record { log = c.push.new.self; value = c.args.state.now.value }) c.args.event c.args._load c.args.outs.now (ap (λ (l : TrailLogState). l.events) c.push.ensures) refl c.requires.empty
