use Rattle.std.proofs.Common.{◌≡◌, ◌≤◌, arith, ap, leb-true, le-leb}
use Rattle.httpdate.specs.Valid.{parts_secs}
use Rattle.httpdate.specs.Date.{unix_secs}
use Rattle.httpdate.proofs.Theorems.{IsDateText_unique}
use Rattle.sws_answer.specs.Conditions.{NamesDateFrom}
use Rattle.sws_answer.proofs.conditions.is_not_earlier.Goals as goal

pub returns-in-Ok-clause-date : goal.returns-in-Ok-clause-date
returns-in-Ok-clause-date c = (
  (λ h. (c.in-Ok.named, c.in-Ok.ensures.shown, (let le : c.unix_secs.result ≤ c.unix_secs-in-Ok.result = leb-true _ _ h in omega (arith, c.unix_secs.ensures.value, c.unix_secs-in-Ok.ensures.value)))),
  (λ (n : NamesDateFrom c.args.date.now c.args.value.now).
      let same : unix_secs n.0 ≡ unix_secs c.in-Ok.named = ap parts_secs (IsDateText_unique c.args.value.now n.0 c.in-Ok.named n.1 c.in-Ok.ensures.shown) in
      le-leb _ _ (let le = n.2 in omega (arith, same, c.unix_secs.ensures.value, c.unix_secs-in-Ok.ensures.value))),
)

pub returns-in-Err-clause-date : goal.returns-in-Err-clause-date
returns-in-Err-clause-date c = (
  (λ h. absurd (cc)),
  (λ (n : NamesDateFrom c.args.date.now c.args.value.now). absurd (c.in-Err.ensures.shown n.0 n.1)),
)
