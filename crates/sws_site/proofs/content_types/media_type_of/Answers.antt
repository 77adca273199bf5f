use Rattle.std.proofs.Common.{◌≤◌, length, sym, subst}
use Rattle.sws_site.proofs.HeadLengthsLemmas.{type_or-short}
use Rattle.sws_site.proofs.content_types.media_type_of.Goals as goal

pub returns-clause-short : goal.returns-clause-short
returns-clause-short c =
    subst (λ media_type. length media_type ≤ 80) (sym c.type_or.ensures)
    (type_or-short c.args.options.now.added.types c.known_type_of-known.result.now c.extension.result.now c.args.options.now.added.short_types c.known_type_of-known.ensures.short)
