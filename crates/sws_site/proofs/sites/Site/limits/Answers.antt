use Rattle.std.proofs.Common.{subst}
use Rattle.sws_site.specs.Limits.{IsWithinLimits}
use Rattle.sws_site.specs.Site.{SiteState}
use Rattle.sws_site.specs.Stored.{files_of}
use Rattle.sws_site.proofs.LimitLemmas.{within_any}
use Rattle.sws_site.proofs.sites.Site.limits.Goals as goal

pub returns : goal.returns
returns c =
    subst (λ (site : SiteState). IsWithinLimits site.files) c.self.view_is
    (within_any c.self.inside.options (files_of c.self.inside.files.items) c.self.invariant.limits)
