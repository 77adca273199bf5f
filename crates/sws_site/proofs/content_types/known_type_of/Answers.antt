use Rattle.std.proofs.Common.{◌≤◌, length, sym, subst}
use Rattle.sws_site.proofs.HeadLengthsLemmas.{more_type-short}
use Rattle.sws_site.proofs.content_types.known_type_of.Goals as goal

pub returns-then-knows_more-clause-short : goal.returns-then-knows_more-clause-short
returns-then-knows_more-clause-short c =
    subst (λ media_type. length media_type ≤ 80) (sym c.more_type_or.ensures) (more_type-short _ _ c.content_type_of.ensures.short)
