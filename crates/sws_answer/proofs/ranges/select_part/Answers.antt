use Rattle.std.proofs.Common.{sym, ap, subst, ◌∙◌}
use Rattle.sws_answer.specs.Ranges.{selection_by, IsWithin}
use Rattle.sws_answer.proofs.RangeLemmas.{selection_in-within}
use Rattle.sws_answer.proofs.ranges.select_part.Goals as goal

pub returns-in-Some-clause-within : goal.returns-in-Some-clause-within
returns-in-Some-clause-within c = subst (IsWithin c.args.len)
    (ap (selection_by c.args.len) (sym c.read_request.ensures ∙ c.in-Some.is) ∙ sym c.select.ensures)
    (selection_in-within c.args.site.now c.args.request.now c.args.len)
