-- A history as it is kept, as contracts see it.
use Rattle.std.specs.Prelude.{ℕ, Bool, List, Option, Some, None, if◌then◌else◌}
use Rattle.mely_history.specs.declared.entry.Entry.{Entry}
use Rattle.mely_history.specs.declared.history.TheConstants.{MAX_ENTRIES, MAX_NOTES}

-- the entries, whether they are listed, and how many there may be before memory is asked for
pub record HistoryState : Type 0 where
  pub items : List Entry
  pub listed : Bool
  pub most : ℕ

-- the most entries that a history may ever have, listed or not
abbrev pub limit_of : Bool → ℕ
limit_of listed = if listed then MAX_ENTRIES else MAX_NOTES

-- the entries that can be read at run time: all where they are listed, and else none
abbrev pub shown_of : HistoryState → Option (List Entry)
shown_of history = if history.listed then Some history.items else None
