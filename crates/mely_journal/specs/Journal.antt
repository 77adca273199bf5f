-- The journal of histories.
use Rattle.std.specs.Prelude.{ℕ, ◌+◌, ◌^◌, ◌<◌, List, [], ◌∷◌, ◌++◌, length, codes}
use Rattle.std.specs.List.{flat_map, AllByRecursion}
use Rattle.mely_history.specs.declared.entry.Entry.{Entry}
use Rattle.mely_history.specs.declared.entry.Entry.TheVariants.{Reg, Take, Fin, Steal}
use Rattle.sws_text.specs.Numbers.{space_number}

-- the line of an entry
abbrev pub entry_line : Entry → List ℕ
entry_line (Reg colour event by) =
    codes "reg" ++ space_number colour.0 ++ space_number event.handler ++ space_number event.arg
    ++ space_number by ++ 10 ∷ []
entry_line (Take colour core count) =
    codes "take" ++ space_number colour.0 ++ space_number core ++ space_number count ++ 10 ∷ []
entry_line (Fin colour core count) =
    codes "fin" ++ space_number colour.0 ++ space_number core ++ space_number count ++ 10 ∷ []
entry_line (Steal colour from to) =
    codes "steal" ++ space_number colour.0 ++ space_number from ++ space_number to ++ 10 ∷ []

-- the line of a shard: its number, and how many entries its history has
abbrev pub shard_line : ℕ → ℕ → List ℕ
shard_line number count = codes "shard" ++ space_number number ++ space_number count ++ 10 ∷ []

-- a shard: its line, and a line for each entry
abbrev pub shard_text : ℕ → List Entry → List ℕ
shard_text number history = shard_line number (length history) ++ flat_map entry_line history

-- shards from this number on
abbrev pub journal_from : ℕ → List (List Entry) → List ℕ
journal_from number [] = []
journal_from number (history ∷ histories) =
    shard_text number history ++ journal_from (number + 1) histories

-- the journal of the histories, by shard
abbrev pub journal : List (List Entry) → List ℕ
journal histories = journal_from 0 histories

-- the numbers of an entry have 64 bits at most, as the types of its fields have fewer
abbrev pub IsSmall : Entry → Type 0
IsSmall (Reg colour event by) = (colour.0 < 2 ^ 64) × (event.handler < 2 ^ 64)
    × (event.arg < 2 ^ 64) × (by < 2 ^ 64)
IsSmall (Take colour core count) = (colour.0 < 2 ^ 64) × (core < 2 ^ 64) × (count < 2 ^ 64)
IsSmall (Fin colour core count) = (colour.0 < 2 ^ 64) × (core < 2 ^ 64) × (count < 2 ^ 64)
IsSmall (Steal colour from to) = (colour.0 < 2 ^ 64) × (from < 2 ^ 64) × (to < 2 ^ 64)

-- so have those of all entries, and their number
abbrev pub AreSmall : List Entry → Type 0
AreSmall history = AllByRecursion IsSmall history × (length history < 2 ^ 64)
