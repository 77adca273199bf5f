use Rattle.std.proofs.Common.{refl, ap, ◌∙◌}
use Rattle.sws_weave.specs.LogStream.{log_stream}
use Rattle.sws_weave.proofs.Runs.LogOrderLemmas.{serves_lines}
use Rattle.sws_weave.proofs.Runs.ThroughLemmas.{through}
use Rattle.sws_weave.proofs.Model.EngineLemmas.{run_out_at}
use Rattle.sws_weave.proofs.running.run_through.Goals as goal

pub returns-in-All-clause-stands : goal.returns-in-All-clause-stands
returns-in-All-clause-stands g c =
    through g.W.World g.W.Link.Link g.T.Talk _ _ _ c.args.app.now c.args.weave.now.given.first c.args.app.now.app.total c.args.app.now.app.log _ _ _ _ _ _ c.stands_well.ensures.keeps c.in-All.ensures.runs c.drain.ensures.drains c.requires.stands c.requires.total
    (λ s. refl) (λ s. refl) (λ frame k event carried fit. fit.0) (λ s event carried becomes puts ran. ran.0)

pub returns-in-Memory-clause-stands : goal.returns-in-Memory-clause-stands
returns-in-Memory-clause-stands g c =
    through g.W.World g.W.Link.Link g.T.Talk _ _ _ c.args.app.now c.args.weave.now.given.first c.args.app.now.app.total c.args.app.now.app.log _ _ _ _ _ _ c.stands_well.ensures.keeps c.in-Memory.ensures.runs c.drain-in-Memory.ensures.drains c.requires.stands c.requires.total
    (λ s. refl) (λ s. refl) (λ frame k event carried fit. fit.0) (λ s event carried becomes puts ran. ran.0)

pub returns-in-All-clause-out : goal.returns-in-All-clause-out
returns-in-All-clause-out g c = λ empty. run_out_at _ _ _ _ _ _ _ _ _ c.in-All.ensures.runs c.drain.ensures.drains c.drain.ensures.stands empty

pub returns-in-All-clause-ordered : goal.returns-in-All-clause-ordered
returns-in-All-clause-ordered g c = λ on i low.
    let law = c.what_is_sent_in_order_is_received_in_order.ensures in
    let total = c.requires.total in
    let kept = ap (λ s. (g.W.World.tells s.first).total) c.run.ensures.same.given ∙ total in
    law.drain c.args.app.now (log_stream g.T.Talk c.args.app.now.app.total i) _ _ _ (serves_lines g.W.World g.W.Link.Link g.T.Talk _ _ _ c.args.app.now c.args.app.now.app.total c.args.app.now.app.log i c.run.new.self.given on low kept (λ s. refl) (λ s. refl) (λ frame k event carried fit. fit.0) (λ s event carried becomes puts ran. ran.0)) c.run.ensures.stands c.drain.ensures.drains
    (law.run c.args.app.now (log_stream g.T.Talk c.args.app.now.app.total i) _ _ _ _ (serves_lines g.W.World g.W.Link.Link g.T.Talk _ _ _ c.args.app.now c.args.app.now.app.total c.args.app.now.app.log i c.args.weave.now.given on low total (λ s. refl) (λ s. refl) (λ frame k event carried fit. fit.0) (λ s event carried becomes puts ran. ran.0)) c.stands_well.ensures.keeps c.run.ensures.runs (c.requires.ordered on i low))

pub returns-in-Memory-clause-ordered : goal.returns-in-Memory-clause-ordered
returns-in-Memory-clause-ordered g c = λ on i low.
    let law = c.what_is_sent_in_order_is_received_in_order.ensures in
    let total = c.requires.total in
    let kept = ap (λ s. (g.W.World.tells s.first).total) c.run.ensures.same.given ∙ total in
    law.drain c.args.app.now (log_stream g.T.Talk c.args.app.now.app.total i) _ _ _ (serves_lines g.W.World g.W.Link.Link g.T.Talk _ _ _ c.args.app.now c.args.app.now.app.total c.args.app.now.app.log i c.run.new.self.given on low kept (λ s. refl) (λ s. refl) (λ frame k event carried fit. fit.0) (λ s event carried becomes puts ran. ran.0)) c.run.ensures.stands c.drain-in-Memory.ensures.drains
    (law.run c.args.app.now (log_stream g.T.Talk c.args.app.now.app.total i) _ _ _ _ (serves_lines g.W.World g.W.Link.Link g.T.Talk _ _ _ c.args.app.now c.args.app.now.app.total c.args.app.now.app.log i c.args.weave.now.given on low total (λ s. refl) (λ s. refl) (λ frame k event carried fit. fit.0) (λ s event carried becomes puts ran. ran.0)) c.stands_well.ensures.keeps c.run.ensures.runs (c.requires.ordered on i low))

pub returns-in-All-clause-accounted : goal.returns-in-All-clause-accounted
returns-in-All-clause-accounted g c = λ posted before.
    let law = c.what_handlers_put_is_accounted_for.ensures in
    law.drain c.args.app.now posted _ _ _ c.run.ensures.stands c.drain.ensures.drains (law.run c.args.app.now posted _ _ _ _ c.stands_well.ensures.keeps c.run.ensures.runs before)

pub returns-in-Memory-clause-accounted : goal.returns-in-Memory-clause-accounted
returns-in-Memory-clause-accounted g c = λ posted before.
    let law = c.what_handlers_put_is_accounted_for.ensures in
    law.drain c.args.app.now posted _ _ _ c.run.ensures.stands c.drain-in-Memory.ensures.drains (law.run c.args.app.now posted _ _ _ _ c.stands_well.ensures.keeps c.run.ensures.runs before)
