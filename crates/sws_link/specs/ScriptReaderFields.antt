-- What the kept items show.
use Rattle.std.specs.Prelude.{◌≤◌, ◌++◌, length, take, drop, map}
use Rattle.sws_link.specs.declared.script_reader.ScriptReader.TheInside.{Inside}
use Rattle.sws_link.specs.LinkItems.{item_of, all_bytes}
use Rattle.sws_link.specs.ScriptReader.{ScriptReaderState, left_of, given_of, IsUsed}

-- the bytes that were taken and the items that are left, of its private fields
abbrev pub state_of : Inside → ScriptReaderState
state_of reader =
    let items = map item_of reader.items.items in
    record {
      taken = all_bytes (take reader.at items) ++ given_of reader.used (drop reader.at items);
      items = left_of reader.used (drop reader.at items);
    }

-- no more items are used up than there are, and no more of the first one that is left than it has
abbrev pub IsConsistent : Inside → Type 0
IsConsistent reader = IsUsed reader.used (drop reader.at (map item_of reader.items.items))
    × (reader.at ≤ length reader.items.items)
