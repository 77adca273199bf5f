-- What is left to send of a response.
use Rattle.std.specs.Prelude.{ℕ, ◌-◌, List, [], ◌∷◌, ◌++◌, length, drop}

-- the bytes that are left of the head and of the body
pub record PartsState : Type 0 where
  pub head : List ℕ
  pub body : List ℕ

-- all bytes that are left
abbrev pub unsent_bytes : PartsState → List ℕ
unsent_bytes unsent = unsent.head ++ unsent.body

-- the head or, where nothing is left of that, the body
abbrev pub head_or_body : List ℕ → List ℕ → List ℕ
head_or_body [] body = body
head_or_body (byte ∷ head) body = byte ∷ head

-- the bytes that one write offers
abbrev pub front_of : PartsState → List ℕ
front_of unsent = head_or_body unsent.head unsent.body

-- what is left after so many further bytes, of the head first
abbrev pub after_sending : ℕ → PartsState → PartsState
after_sending count unsent =
    record { head = drop count unsent.head; body = drop (count - length unsent.head) unsent.body }
