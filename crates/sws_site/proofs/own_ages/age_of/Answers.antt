use Rattle.std.proofs.Common.{◌<◌, ◌^◌, sym, ap, ◌∙◌, subst}
use Rattle.std.specs.Option.{ForSome, option_or}
use Rattle.sws_site.proofs.AgeLemmas.{age_of-short}
use Rattle.sws_site.proofs.own_ages.age_of.Goals as goal

pub returns-clause-short : goal.returns-clause-short
returns-clause-short c =
    subst (λ age. ForSome age (λ seconds. seconds < 2 ^ 32))
    (sym (c.or.ensures ∙ ap (λ found. option_or found c.args.options.now.added.max_age) c.longest.ensures)) (age_of-short c.args.options.now c.args.name.now)
