-- A taken part of a colour.
use Rattle.std.specs.Prelude.{ℕ, List, Option}
use Rattle.std.specs.List.{AllByRecursion}
use Rattle.mely_event.specs.declared.event.Event.{Event}
use Rattle.mely_event.specs.declared.colour.Colour.{Colour}

-- a taken part of a colour: the state as it is, as it was given, and the events that
-- have not been handed out
pub record TurnState (S P : Type 0) : Type 0 where
  pub colour : Colour
  pub core : ℕ
  pub count : ℕ
  pub state : S
  pub given : S
  pub events : List (Event × Option P)

-- each event fits its load
abbrev pub EachFits : {P : Type 0} → (Event → Option P → Type 0) → List (Event × Option P) → Type 0
EachFits fits events = AllByRecursion (λ e. fits e.0 e.1) events
