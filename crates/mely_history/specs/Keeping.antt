-- Within the crate: what the fields of a history keep.
use Rattle.std.specs.Prelude.{◌≡◌, ◌≤◌, ℕ, List, Option, Some, None, Vec, length, min, vec_capacity}
use Rattle.std.specs.declared.alloc.Global.{Global}
use Rattle.mely_history.specs.declared.entry.Entry.{Entry}
use Rattle.mely_history.specs.declared.history.TheConstants.{MAX_ENTRIES, MAX_NOTES}

-- how many entries there may be before memory is asked for
abbrev pub most_of : Option (Vec Entry Global) → ℕ
most_of None = MAX_NOTES
most_of (Some list) = min (vec_capacity list) MAX_ENTRIES

-- the list, where there is one, has these entries
abbrev pub ListsThese : List Entry → Option (Vec Entry Global) → Type 0
ListsThese items None = Unit {0}
ListsThese items (Some list) = list.items ≡ items

-- the count is that of the entries, which are listed where there is a list
pub record IsWellKept (items : List Entry) (count : ℕ) (list : Option (Vec Entry Global)) : Type 0 where
  pub counted : count ≡ length items
  pub lists : ListsThese items list
  pub within : length items ≤ most_of list
