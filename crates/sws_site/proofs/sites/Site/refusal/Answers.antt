use Rattle.std.proofs.Common.{◌∙◌}
use Rattle.sws_site.specs.Fixed.{refusal_head, refusal_body}
use Rattle.sws_site.specs.Stored.{files_of}
use Rattle.sws_site.specs.Site.{SiteState}
use Rattle.sws_site.proofs.SiteLemmas.{built_head-refusal, refusal_body-text}
use Rattle.sws_site.proofs.sites.Site.refusal.Goals as goal

pub returns-clause-head : goal.returns-clause-head
returns-clause-head c =
    let shown : SiteState = record { files = files_of c.self.inside.files.items; date = c.self.inside.date; options = c.self.inside.options } in
    c.head.ensures
    ∙ built_head-refusal shown c.args.status c.of-response.result.now c.args.closes (c.of-response.ensures _ _ c.self.invariant.refusals)
    ∙ (λ i. refusal_head (c.self.view_is i) c.args.status c.args.closes)

pub returns-clause-body : goal.returns-clause-body
returns-clause-body c =
    let shown : SiteState = record { files = files_of c.self.inside.files.items; date = c.self.inside.date; options = c.self.inside.options } in
    c.deref.ensures.value
    ∙ refusal_body-text shown c.args.status c.of-response.result.now (c.of-response.ensures _ _ c.self.invariant.refusals)
    ∙ (λ i. refusal_body (c.self.view_is i) c.args.status)
