use Rattle.std.proofs.Common.{[], not, sym, ap, ◌∙◌}
use Rattle.mely_net.specs.Cutting.{cut_within}
use Rattle.mely_net.specs.Clients.{asks_of, asks_of_step, shown_client}
use Rattle.mely_net.proofs.MoveLemmas.{none_so}
use Rattle.mely_net.proofs.TalkLemmas.{finishes_keep, keeps_both, keeps_nothing, reads_keep, writes_keep}
use Rattle.mely_net.proofs.client.Client.step.Goals as goal

pub returns-then-self-clause-keeps : goal.returns-then-self-clause-keeps
returns-then-self-clause-keeps g c =
    let rules = g.S.Service.rules_of c.args.service.now in
    let view = shown_client {l = g.L.Link} c.args.self.now in
    let after = shown_client {l = g.L.Link} c.finish.new.self in
    let goes = none_so c.args.self.now.end (sym c.is_some-else-is_some.ensures ∙ c.if-is_some-2.false) in
    let come = c.is_none.ensures ∙ ap not c.if-is_none.false in
    keeps_nothing rules (asks_of_step c.finish.result) view after c.finish.ensures.none (finishes_keep rules view after come goes c.finish.ensures.finishes)

pub returns-then-flush-clause-keeps : goal.returns-then-flush-clause-keeps
returns-then-flush-clause-keeps g c =
    let rules = g.S.Service.rules_of c.args.service.now in
    let view = shown_client {l = g.L.Link} c.args.self.now in
    let between = shown_client {l = g.L.Link} c.flush.new.self in
    let after = shown_client {l = g.L.Link} c.read.new.self in
    let goes = none_so c.args.self.now.end (sym c.is_some-else-is_some.ensures ∙ c.if-is_some-2.false) in
    let idle = none_so c.args.self.now.asked (sym c.is_some.ensures ∙ c.if-is_some.false) in
    let come = c.is_none.ensures ∙ ap not c.if-is_none.false in
    let same = c.flush.ensures.writes.same in
    let first = writes_keep rules view between come goes c.flush.ensures.writes in
    let then_ = reads_keep rules (g.met.S.Service.steady c.args.service.now) between after (same.has_come ∙ come) (c.flush.ensures.goes_on c.if-flush.true) (same.asked ∙ idle) (same.is_last ∙ c.if-self.false) (c.flush.ensures.all c.if-flush.true) (ap (cut_within rules.cut rules.longest) c.flush.ensures.writes.inbox ∙ sym c.cut.ensures.cut ∙ c.in-More.is) c.read.ensures.reads in
    keeps_nothing rules (asks_of_step c.read.result) view after c.read.ensures.none (keeps_both rules [] view between after first then_)

pub returns-else-flush-clause-keeps : goal.returns-else-flush-clause-keeps
returns-else-flush-clause-keeps g c =
    let rules = g.S.Service.rules_of c.args.service.now in
    let view = shown_client {l = g.L.Link} c.args.self.now in
    let after = shown_client {l = g.L.Link} c.flush.new.self in
    let goes = none_so c.args.self.now.end (sym c.is_some-else-is_some.ensures ∙ c.if-is_some-2.false) in
    let come = c.is_none.ensures ∙ ap not c.if-is_none.false in
    keeps_nothing rules (asks_of c.pause.result) view after c.pause.ensures (writes_keep rules view after come goes c.flush.ensures.writes)
