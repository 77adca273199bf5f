use Rattle.std.proofs.Common.{Bool, List, ℕ, Option, None, sym, ap, ◌∙◌}
use Rattle.std.specs.Prelude.{if◌then◌else◌, codes, option_and_then, option_copied}
use Rattle.sws_answer.specs.Conditions.{one_of}
use Rattle.sws_answer.specs.Fields.{values_of}
use Rattle.sws_answer.specs.Ranges.{spec_in_value}
use Rattle.sws_answer.proofs.ranges.read_request.Goals as goal

pub returns-in-Some : goal.returns-in-Some
returns-in-Some c =
    let named = one_of (values_of (codes "range") c.args.request.now.fields) in
    c.read_value.ensures
    ∙ ap (λ (value : Option (List ℕ)). option_and_then spec_in_value value) (sym (ap option_copied c.in-Some.is) ∙ c.sole_value.ensures)
    ∙ sym (ap (λ (t : Bool). if t then option_and_then spec_in_value named else None) (sym c.may_ask_range.ensures ∙ c.if-not-may_ask_range.false))
