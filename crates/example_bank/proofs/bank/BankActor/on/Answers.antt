use Rattle.std.proofs.Common.{◌≡◌, ◌-◌, ◌∷◌, ◌++◌, [], min, ap, sym, ◌∙◌, arith}
use Rattle.example_bank.specs.declared.message.Message.TheVariants.{Deposit, Transfer}
use Rattle.example_bank.specs.Balances.{after_one, paid_by}
use Rattle.example_bank.proofs.PaymentLemmas.{one_more}
use Rattle.example_bank.proofs.bank.BankActor.on.Goals as goal

pub returns-in-Deposit-clause-kept : goal.returns-in-Deposit-clause-kept
returns-in-Deposit-clause-kept c = λ received sent many account.
    let sum = c.saturating_add.ensures in
    let amount = c.from.ensures in
    one_more received c.args.message sent c.args.sends.now c.args.balance.now c.saturating_add.result
    (let is : c.saturating_add.result ≡ after_one c.args.balance.now (Deposit c.in-Deposit.amount) = omega (arith, sum, amount) in is ∙ ap (after_one c.args.balance.now) (sym c.in-Deposit.is))
    (c.requires.empty ∙ ap (paid_by c.args.balance.now) (sym c.in-Deposit.is)) account

pub returns-in-Transfer-clause-kept : goal.returns-in-Transfer-clause-kept
returns-in-Transfer-clause-kept c = λ received sent many account.
    let left = c.saturating_sub-left.ensures in
    let amount = c.from-in-Transfer.ensures in
    let balance = c.args.balance.now in
    let paid : balance - c.saturating_sub-left.result ≡ min balance c.in-Transfer.amount = omega (arith, left, amount) in
    one_more received c.args.message sent c.send.new.self balance c.saturating_sub-left.result
    (let is : c.saturating_sub-left.result ≡ after_one balance (Transfer c.in-Transfer.to c.in-Transfer.amount) = omega (arith, left, amount) in is ∙ ap (after_one balance) (sym c.in-Transfer.is))
    (c.send.ensures ∙ ap (λ l. l ++ (record { 0 = c.in-Transfer.to }, Deposit (balance - c.saturating_sub-left.result)) ∷ []) c.requires.empty ∙ ap (λ (n : _). (record { 0 = c.in-Transfer.to }, Deposit n) ∷ []) paid ∙ ap (paid_by balance) (sym c.in-Transfer.is)) account
