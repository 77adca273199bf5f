use Rattle.std.proofs.Common.{[], arith, sym, ◌∙◌}
use Rattle.sws_site.proofs.ContentTypeLemmas.{type_or-found, type_or-next}
use Rattle.sws_site.proofs.more_types.type_or.Goals as goal

pub returns-then-is_same_extension : goal.returns-then-is_same_extension
returns-then-is_same_extension c = type_or-found _ c.args.rows.now c.loop-known.known-index (record { ref_ptr = (0, 0); now = [] }, record { ref_ptr = (0, 0); now = [] }) c.args.otherwise.now c.args.extension.now _ (omega arith) c.loop-known.invariant
    (sym c.is_same_extension.ensures ∙ c.if-is_same_extension.true)

pub loop-known-preserved : goal.loop-known-preserved
loop-known-preserved c = type_or-next _ c.args.rows.now c.loop-known.known-index (record { ref_ptr = (0, 0); now = [] }, record { ref_ptr = (0, 0); now = [] }) c.args.otherwise.now c.args.extension.now _ (omega arith) c.loop-known.invariant
    (sym c.is_same_extension.ensures ∙ c.if-is_same_extension.false)
