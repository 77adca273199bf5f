use Rattle.std.proofs.Common.{◌≡◌, ◌≢◌, Bool, true, false, Option, sym, ap, ◌∙◌}
use Rattle.std.specs.Prelude.{IsSome, is_some, not, ◌↔◌}
use Rattle.sws_site.specs.Site.{SiteState}
use Rattle.sws_steps.specs.declared.End.{End}
use Rattle.sws_steps.specs.declared.Next.TheVariants as next
use Rattle.sws_steps.specs.ConnCore.{ConnCoreState}
use Rattle.sws_conn.specs.Http.{http}
use Rattle.sws_conn.specs.HttpLaws.{http-orderly}
use Rattle.sws_steps.proofs.Steps.SoundLemmas.{linked_opened}
use Rattle.sws_steps.proofs.Steps.MeasureLemmas.{step_less}
use Rattle.sws_steps.proofs.Runs.RunLemmas.{run-kept, ran-on}
use Rattle.test_pages_server.proofs.tests.connections.served.Goals as goal

-- a connection that tells no end isn't closed
not_closed : (told : Option End) (c : ConnCoreState SiteState) (none : Bool) → (IsSome told ↔ (c.pending ≡ next.Nothing)) → is_some told ≡ not none → none ≡ true → c.pending ≢ next.Nothing
not_closed told c none closed is holds pending =
    let yes : IsSome told = closed.1 pending in
    let no : false ≡ true = sym (is ∙ ap not holds) ∙ yes in cc

pub loop-conn-smaller : goal.loop-conn-smaller
loop-conn-smaller g c =
    let before = c.loop-conn.conn.conn in
    let after = c.step.new.self.conn in
    let ran = c.loop-conn.invariant in
    let kept = run-kept http http-orderly g.L.Link c.args.site c.args.link ran.0 before ran.1 in
    step_less http http-orderly g.L.Link before.standing after.standing before.link after.link kept.sound.progress.limits kept.sound.ready c.step.ensures.steps
    (linked_opened http http-orderly g.L.Link before.standing before.link kept.sound.linked kept.linked)
    (not_closed c.end.result before.standing c.is_none.result c.end.ensures.closed c.is_none.ensures c.loop-conn-test.true)

pub loop-conn-preserved : goal.loop-conn-preserved
loop-conn-preserved g c =
    let before = c.loop-conn.conn.conn in
    ran-on http http-orderly g.L.Link c.args.site c.args.link before c.step.new.self.conn c.loop-conn.invariant
    (not_closed c.end.result before.standing c.is_none.result c.end.ensures.closed c.is_none.ensures c.loop-conn-test.true) c.step.ensures.steps
