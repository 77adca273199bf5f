use Rattle.std.proofs.Common.{sym, ◌∙◌}
use Rattle.sws_site.specs.Site.{page_head}
use Rattle.sws_site.specs.Stored.{file_of}
use Rattle.sws_site.proofs.SiteLemmas.{built_head-file, built_head-not_modified, own_or-built}
use Rattle.sws_site.proofs.pages.Page.head.Goals as goal

pub returns-then-kind : goal.returns-then-kind
returns-then-kind c =
    c.head.ensures
    ∙ built_head-file c.self.inside.options.now c.self.inside.date c.self.inside.file.now c.args.kind.closes c.self.invariant.heads
    ∙ (λ i. page_head (c.self.view_is i) (sym c.if-kind.true i) c.args.kind.closes)

pub returns : goal.returns
returns c =
    let page = c.self.inside in
    let built = own_or-built page.options.now page.date page.file.now.name.items page.file.now.not_modified page.not_modified.now c.own_or.result.now
    c.self.invariant.heads.not_modified c.self.invariant.not_modified c.self.invariant.no_content c.own_or.ensures in
    c.head-2.ensures
    ∙ built_head-not_modified page.options.now page.date (file_of page.file.now) c.own_or.result.now c.args.kind.closes built.0 built.1
    ∙ (λ i. page_head (c.self.view_is i) (sym c.if-kind.false i) c.args.kind.closes)
