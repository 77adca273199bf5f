use Rattle.std.proofs.Common.{◌∙◌, arith, refl, sym}
use Rattle.example_redis.proofs.GlobLemmas.{none_left, spot_on}
use Rattle.example_redis.proofs.glob.run.Goals as goal

pub parts-preserved : goal.parts-preserved
parts-preserved c = record {
  part = omega (arith, c.parts-test.true);
  byte = omega (arith, c.if-byte-key.false);
  behind = omega (arith, c.parts.invariant.behind);
  not_before = omega (arith, c.parts.invariant.not_before);
  leads = spot_on _ _ c.args.parts.now c.parts.part c.args.key.now c.parts.byte _ _ _ _ (omega (arith, c.parts-test.true)) (omega (arith, c.if-byte-key.false)) c.index-parts-part.is refl (sym c.is_many.ensures ∙ c.if-is_many.false) (sym c.is.ensures ∙ c.if-not-is.false) c.parts.invariant.leads;
}

pub returns-else-byte-key-2 : goal.returns-else-byte-key-2
returns-else-byte-key-2 c = c.parts.invariant.leads.same ∙ none_left c.args.parts.now c.parts.part c.args.key.now c.parts.byte (omega (arith, c.parts-test.false)) (omega (arith, c.parts.invariant.byte, c.if-byte-key-2.false))
