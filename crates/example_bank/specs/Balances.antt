-- What an account has and has paid.
use Rattle.std.specs.Prelude.{◌≡◌, ◌+◌, ◌-◌, ◌^◌, ◌<◌, ◌≤◌, ℕ, List, [], ◌∷◌, ◌++◌, Some, fold, length, min, slice_get, sum, sum_by}
use Rattle.mely_app.specs.Puts.{sum_colours}
use Rattle.mely_actor.specs.Sending.{count_to}
use Rattle.mely_event.specs.declared.colour.Colour.{Colour}
use Rattle.mely_event.specs.declared.event.Event.{Event}
use Rattle.example_bank.specs.declared.bank.TheConstants.{ACCOUNTS}
use Rattle.example_bank.specs.declared.message.Message.{Message}
use Rattle.example_bank.specs.declared.message.Message.TheVariants.{Deposit, Transfer}

-- under which event a message stands in the histories: a transfer says to whom
abbrev pub event_of : Message → Event
event_of (Deposit amount) = record { handler = 1; arg = 0 }
event_of (Transfer to amount) = record { handler = 2; arg = to }

-- a transfer is to an account that there is
abbrev pub IsSound : Message → Type 0
IsSound (Deposit amount) = Unit {0}
IsSound (Transfer to amount) = to < ACCOUNTS

-- a balance after a message, as far as 64 bits go
abbrev pub after_one : ℕ → Message → ℕ
after_one balance (Deposit amount) = min (balance + amount) (2 ^ 64 - 1)
after_one balance (Transfer to amount) = balance - amount

-- what a message pays to whom: a transfer as much as is there
abbrev pub paid_by : ℕ → Message → List (Colour × Message)
paid_by balance (Deposit amount) = []
paid_by balance (Transfer to amount) = (record { 0 = to }, Deposit (min balance amount)) ∷ []

-- the balance after all of them
abbrev pub balance_of : List Message → ℕ
balance_of received = fold after_one 0 received

-- what they pay one after another, from a balance on
abbrev pub payments : ℕ → List Message → List (Colour × Message)
payments balance [] = []
payments balance (message ∷ more) =
    paid_by balance message ++ payments (after_one balance message) more

-- the balance is what the messages received make of it, and what was sent is what they pay
pub record IsAccount (received : List Message) (sent : List (Colour × Message))
    (balance : ℕ) : Type 0 where
  pub balanced : balance ≡ balance_of received
  pub paid : sent ≡ payments 0 received

-- how much money a message brings
abbrev pub amount_in : Message → ℕ
amount_in (Deposit amount) = amount
amount_in (Transfer to amount) = 0

-- Each account has what the messages make of it that it has received, and paid what they say, no
-- more than it had: where what came in is of 64 bits, it is what is there and what was paid. What it
-- received is what was posted to it and what was sent to it, with its amounts, no more and no less.
-- So in all there is never more money than was posted, and exactly as much where no account was
-- sent more than 64 bits hold.
pub record AreBalanced (posts : List (Colour × Message)) (balances : List ℕ) : Type 0 where
  pub accounts : length balances ≡ ACCOUNTS
  pub received : Colour → List Message
  pub sent : Colour → List (Colour × Message)
  pub account : (c : Colour) (balance : ℕ) → slice_get balances c.0 ≡ Some balance
      → IsAccount (received c) (sent c) balance
  pub conserved : (c : Colour) (balance : ℕ) → slice_get balances c.0 ≡ Some balance
      → sum_by amount_in (received c) < 2 ^ 64
      → sum_by amount_in (received c)
      ≡ balance + sum_by (λ payment. amount_in payment.1) (sent c)
  pub arrived : (c : Colour) → c.0 < ACCOUNTS → (number : Message → ℕ)
      → sum_by number (received c)
      ≡ count_to c number posts + sum_colours ACCOUNTS (λ d. count_to c number (sent d))
  pub none_made : sum balances ≤ sum_by (λ post. amount_in post.1) posts
  pub none_lost : ((c : Colour) → c.0 < ACCOUNTS → sum_by amount_in (received c) < 2 ^ 64)
      → sum balances ≡ sum_by (λ post. amount_in post.1) posts
