use Rattle.std.proofs.Common.{◌∙◌, sym, arith}
use Rattle.sws_site.specs.OwnAges.{ages_of}
use Rattle.sws_site.proofs.AgeLemmas.{longest_age-next}
use Rattle.sws_site.proofs.own_ages.longest_age.Goals as goal

pub ends-preserved : goal.ends-preserved
ends-preserved c = record {
  within = omega arith;
  left = longest_age-next (ages_of c.args.rows.now) c.args.name.now c.ends.start c.own_age-age.result (omega arith) c.own_age-age.ensures (sym c.is_some.ensures ∙ c.if-is_some.false) ∙ c.ends.invariant.left;
}
