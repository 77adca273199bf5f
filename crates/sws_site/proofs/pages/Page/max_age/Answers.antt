use Rattle.std.proofs.Common.{◌<◌, ◌^◌, sym, subst}
use Rattle.std.specs.Option.{ForSome}
use Rattle.sws_site.proofs.AgeLemmas.{age_of-short}
use Rattle.sws_site.proofs.pages.Page.max_age.Goals as goal

pub returns-clause-short : goal.returns-clause-short
returns-clause-short c =
    subst (λ age. ForSome age (λ seconds. seconds < 2 ^ 32)) (sym c.self.invariant.heads.max_age) (age_of-short c.self.inside.options.now c.self.inside.file.now.name.items)
