-- What one message more does to a balance and to what is paid, and that no money is lost.
use Rattle.std.proofs.Common.{◌≡◌, ◌<◌, ◌≤◌, ◌+◌, ◌-◌, ◌^◌, ℕ, List, [], ◌∷◌, ◌++◌, Some, refl, sym, ◌∙◌, ap, arith, fold, min, append_assoc}
use Rattle.std.proofs.lemmas.List.{append-nil, append_cancel_left}
use Rattle.std.proofs.lemmas.List.Sums.{fold-append, sum_by-append, sum_by-cons}
use Rattle.std.specs.Prelude.{slice_get, sum_by}
use Rattle.mely_event.specs.declared.colour.Colour.{Colour}
use Rattle.mely_history.specs.declared.entry.Entry.{Entry}
use Rattle.mely_history.specs.declared.setup.Setup.{Setup}
use Rattle.mely_history.specs.Setup.{colours_of}
use Rattle.mely_actor.specs.declared.actor.Actor.{Ghosts as ActorWords}
use Rattle.mely_actor.specs.Received.{AreKept}
use Rattle.mely_actor.specs.Serial.{Receipt, received_in, sent_in}
use Rattle.mely_actor.proofs.ListLemmas.{arrived_by}
use Rattle.mely_actor.proofs.MomentLemmas.{Comes, first_none, received_so_far, total_kept, total_no_more}
use Rattle.example_bank.specs.declared.bank.TheConstants.{ACCOUNTS}
use Rattle.example_bank.specs.declared.message.Message.{Message}
use Rattle.example_bank.specs.declared.message.Message.TheVariants.{Deposit, Transfer}
use Rattle.example_bank.specs.Balances.{AreBalanced, IsAccount, after_one, amount_in, paid_by, payments}

-- what is paid by one message more, behind others
pub payments_push : (balance : ℕ) (received : List Message) (message : Message) → payments balance (received ++ message ∷ []) ≡ payments balance received ++ paid_by (fold after_one balance received) message
payments_push balance [] message = append-nil (paid_by balance message)
payments_push balance (one ∷ more) message =
    ap (λ l. paid_by balance one ++ l) (payments_push (after_one balance one) more message)
    ∙ sym (append_assoc (paid_by balance one) (payments (after_one balance one) more) (paid_by (fold after_one (after_one balance one) more) message))

pub one_more : (received : List Message) (message : Message) (sent new : List (Colour × Message)) (balance after : ℕ) → after ≡ after_one balance message → new ≡ paid_by balance message → IsAccount received sent balance → IsAccount (received ++ message ∷ []) (sent ++ new) after
one_more received message sent new balance after is pays account = record {
  balanced = is ∙ ap (λ n. after_one n message) account.balanced ∙ sym (fold-append after_one 0 received (message ∷ []));
  paid = ap (λ l. l ++ new) account.paid ∙ ap (λ l. payments 0 received ++ l) (pays ∙ ap (λ n. paid_by n message) account.balanced) ∙ sym (payments_push 0 received message);
}

-- ---- one message

-- it makes no money, and loses none where 64 bits hold it
abbrev amount_of : Colour × Message → ℕ
amount_of send = amount_in send.1

paid_amount : (balance : ℕ) (message : Message) → after_one balance message + sum_by amount_of (paid_by balance message) ≤ balance + amount_in message
paid_amount balance (Deposit amount) = omega arith
paid_amount balance (Transfer to amount) =
    let pays = sum_by-cons amount_of (record { 0 = to }, Deposit (min balance amount)) [] in
    let now : balance ≡ (balance - amount) + min balance amount = omega arith in
    omega (arith, pays, now)

exact_amount : (balance : ℕ) (message : Message) → balance + amount_in message < 2 ^ 64 → after_one balance message + sum_by amount_of (paid_by balance message) ≡ balance + amount_in message
exact_amount balance (Deposit amount) low = omega (arith, low)
exact_amount balance (Transfer to amount) low =
    let pays = sum_by-cons amount_of (record { 0 = to }, Deposit (min balance amount)) [] in
    let now : balance ≡ (balance - amount) + min balance amount = omega arith in
    omega (arith, pays, now)

-- what two accounts say that come one after the other
told_new : (received : List Message) (sent new : List (Colour × Message)) (message : Message) (balance after : ℕ) → IsAccount received sent balance → IsAccount (received ++ message ∷ []) (sent ++ new) after → after ≡ after_one balance message
told_new received sent new message balance after was is = is.balanced ∙ fold-append after_one 0 received (message ∷ []) ∙ ap (λ n. after_one n message) (sym was.balanced)

told_paid : (received : List Message) (sent new : List (Colour × Message)) (message : Message) (balance after : ℕ) → IsAccount received sent balance → IsAccount (received ++ message ∷ []) (sent ++ new) after → new ≡ paid_by balance message
told_paid received sent new message balance after was is = append_cancel_left sent new (paid_by balance message) (is.paid ∙ payments_push 0 received message ∙ ap (λ l. l ++ paid_by (fold after_one 0 received) message) (sym was.paid) ∙ ap (λ n. sent ++ paid_by n message) (sym was.balanced))

-- ---- all that an account received

-- from a balance on, what comes in is what is there then and what was paid, as far as 64 bits go
conserved_from : (balance : ℕ) (received : List Message) → balance + sum_by amount_in received < 2 ^ 64 → balance + sum_by amount_in received ≡ fold after_one balance received + sum_by amount_of (payments balance received)
conserved_from balance [] low = refl
conserved_from balance (message ∷ more) low =
    let all = sum_by-cons amount_in message more in
    let one = exact_amount balance message (omega (arith, low, all)) in
    let rest = conserved_from (after_one balance message) more (omega (arith, low, all, one)) in
    let pays = sum_by-append amount_of (paid_by balance message) (payments (after_one balance message) more) in
    omega (arith, all, one, rest, pays)

pub conserved : (received : List Message) (sent : List (Colour × Message)) (balance : ℕ) → IsAccount received sent balance → sum_by amount_in received < 2 ^ 64 → sum_by amount_in received ≡ balance + sum_by amount_of sent
conserved received sent balance account low =
    let is = account.balanced in
    let paid = ap (sum_by amount_of) account.paid in
    let all = conserved_from 0 received (omega (arith, low)) in
    omega (arith, is, paid, all)

-- no more is there than came in
no_more_than : (balance : ℕ) (received : List Message) → fold after_one balance received ≤ balance + sum_by amount_in received
no_more_than balance [] = omega arith
no_more_than balance (message ∷ more) =
    let all = sum_by-cons amount_in message more in
    let one = paid_amount balance message in
    let rest = no_more_than (after_one balance message) more in
    omega (arith, all, one, rest)

-- ---- all accounts

-- what the accounts keep is what they have come to
module _ {A : Type 0} (a : ActorWords A ℕ Message) (bank : A) (setup : Setup) (posts : List (Colour × Message)) (histories : List (List Entry)) (balances : List ℕ) (colours : colours_of setup ≡ ACCOUNTS)
    (keeps : (c : Colour) (received : List Message) (sent : List (Colour × Message)) (balance : ℕ) → a.kept bank c received sent balance → IsAccount received sent balance) (kept : AreKept a bank setup posts histories balances) where
  account : (c : Colour) (balance : ℕ) → slice_get balances c.0 ≡ Some balance → IsAccount (kept.received c) (kept.sent c) balance
  account c balance there = keeps c (kept.received c) (kept.sent c) balance (kept.kept c balance there)

  -- an account begins with nothing
  nothing_first : sum_by (λ balance. balance) kept.serial.first ≡ 0
  nothing_first = first_none a bank setup posts histories balances kept (λ balance. balance) amount_of (λ c balance begins. (keeps c [] [] balance begins).balanced)

  module _ (before : List (Receipt Message ℕ)) (receipt : Receipt Message ℕ) (comes : Comes a bank setup posts histories balances kept before receipt) where
    abbrev received : List Message
    received = received_in receipt.colour before

    abbrev sent : List (Colour × Message)
    sent = sent_in receipt.colour before

    was : IsAccount received sent receipt.value
    was = keeps receipt.colour received sent receipt.value comes.was

    is : IsAccount (received ++ receipt.message ∷ []) (sent ++ receipt.sends) receipt.becomes
    is = keeps receipt.colour (received ++ receipt.message ∷ []) (sent ++ receipt.sends) receipt.becomes comes.is

    in_all : receipt.becomes + sum_by amount_of receipt.sends ≡ after_one receipt.value receipt.message + sum_by amount_of (paid_by receipt.value receipt.message)
    in_all =
        let new = told_new received sent receipt.sends receipt.message receipt.value receipt.becomes was is in
        let paid = ap (sum_by amount_of) (told_paid received sent receipt.sends receipt.message receipt.value receipt.becomes was is) in
        omega (arith, new, paid)

    makes_none : receipt.becomes + sum_by amount_of receipt.sends ≤ receipt.value + amount_in receipt.message
    makes_none = let few = paid_amount receipt.value receipt.message in let all = in_all in omega (arith, few, all)

    loses_none : sum_by amount_in (kept.received receipt.colour) < 2 ^ 64 → receipt.becomes + sum_by amount_of receipt.sends ≡ receipt.value + amount_in receipt.message
    loses_none low =
        let so_far = received_so_far a bank setup posts histories balances kept before receipt comes in
        let whole = ap (sum_by amount_in) so_far.1 in
        let both = sum_by-append amount_in (received ++ receipt.message ∷ []) so_far.0 in
        let with_this = sum_by-append amount_in received (receipt.message ∷ []) in
        let this = sum_by-cons amount_in receipt.message [] in
        let few = no_more_than 0 received in
        let there = was.balanced in
        let exact = exact_amount receipt.value receipt.message (omega (arith, low, whole, both, with_this, this, few, there)) in
        let all = in_all in
        omega (arith, exact, all)

  pub are_balanced : AreBalanced posts balances
  are_balanced = record {
    accounts = kept.many ∙ colours;
    received = kept.received;
    sent = kept.sent;
    account = account;
    conserved = λ c balance there low. conserved (kept.received c) (kept.sent c) balance (account c balance there) low;
    arrived = λ c low number. arrived_by a bank setup posts histories balances kept ACCOUNTS colours c number low;
    none_made =
        let all = total_no_more a bank setup posts histories balances kept (λ balance. balance) amount_of (λ before receipt comes. makes_none before receipt comes) in
        let first = nothing_first in
        omega (arith, all, first);
    none_lost = λ low.
        let all = total_kept a bank setup posts histories balances kept (λ balance. balance) amount_of (λ before receipt comes. loses_none before receipt comes (low receipt.colour (let there = comes.may.0 in omega (arith, there, colours)))) in
        let first = nothing_first in
        omega (arith, all, first);
  }
