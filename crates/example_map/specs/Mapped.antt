-- What a colour has done with its item.
use Rattle.std.specs.Prelude.{◌≡◌, ◌+◌, ℕ, List, [], ◌∷◌, Option, Some}
use Rattle.mely_event.specs.declared.colour.Colour.{Colour}
use Rattle.mely_event.specs.declared.event.Event.{Event}

-- each item is a message of the one row of the author's
abbrev pub one_event : Event
one_event = record { handler = 1; arg = 0 }

-- of one message the value is what the task gives for it, and nothing is sent
pub record IsDone {M U : Type 0} (of : M → U) (received : List M) (sent : List (Colour × M))
    (value : Option U) : Type 0 where
  pub done : (item : M) → received ≡ item ∷ [] → value ≡ Some (of item)
  pub silent : sent ≡ []

-- the items, each for the colour of its place
abbrev pub numbered : {M : Type 0} → ℕ → List M → List (Colour × M)
numbered place [] = []
numbered place (item ∷ items) = (record { 0 = place }, item) ∷ numbered (place + 1) items
