-- The connections that wait, as contracts see them.
use Rattle.std.specs.Prelude.{◌≡◌, ℕ, ◌==◌, if◌then◌else◌, List, [], ◌∷◌, ◌++◌, Contains}
use Rattle.std.specs.List.{list_any}

-- the connections that wait
pub record WaitingState : Type 0 where
  -- who waits, in the order in which they began to
  pub items : List ℕ
  -- those that may wait are below this number
  pub total : ℕ

-- the list without the connection, which is taken out where it stands first
abbrev pub taken_off : ℕ → List ℕ → List ℕ
taken_off conn [] = []
taken_off conn (w ∷ waiting) = if w == conn then waiting else w ∷ taken_off conn waiting

-- the connection, which waits, is taken off those that wait
pub record TakenOff (conn : ℕ) (waiting left : List ℕ) : Type 0 where
  pub there : Contains waiting conn
  pub is : left ≡ taken_off conn waiting

-- a connection waits behind the others, unless it waits already
abbrev pub waiting_with : ℕ → List ℕ → List ℕ
waiting_with i waiting = if list_any (λ w. w == i) waiting then waiting else waiting ++ i ∷ []
