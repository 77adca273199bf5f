-- What a pass may rely on for a colour that it took and has not finished.
use Rattle.std.specs.Prelude.{◌≡◌, ℕ, List, Option, None, Some, take, fold}
use Rattle.std.specs.Option.{option_or}
use Rattle.mely_event.specs.declared.colour.Colour.{Colour}
use Rattle.mely_event.specs.declared.event.Event.{Event}
use Rattle.mely_history.specs.Entries.{change_on}
use Rattle.mely_history.specs.History.{registered_of, begun_of}
use Rattle.mely_history.specs.declared.entry.Entry.{Entry}
use Rattle.mely_history.specs.declared.entry.Entry.TheVariants.{Take, Fin}

-- the last take, finish or steal of a colour by a pass
abbrev pub last_change : ℕ → Colour → List Entry → Option Entry
last_change pass c history =
    fold (λ found entry. option_or (change_on pass c entry) found) None history

-- by the front that the pass has seen, its last change of the colour is this take, and the trail
-- has the events that were begun
pub record IsOwed (pass : ℕ) (front : List Entry) (c : Colour) (core count : ℕ)
    (trail : List Event) : Type 0 where
  pub by : core ≡ pass
  pub taken : last_change pass c front ≡ Some (Take c core count)
  pub trailed : trail ≡ take (begun_of front c) (registered_of front c)

-- the entry is a finish of the colour by the pass
abbrev pub IsOwnFinish : ℕ → Colour → Entry → Type 0
IsOwnFinish pass c entry = (core : ℕ) × (count : ℕ)
    × (change_on pass c entry ≡ Some (Fin c core count))
