-- A long history in buckets: how many entries each core made in each of them, by their colours.
use Rattle.std.specs.Prelude.{◌==◌, ◌&&◌, ℕ, ◌+◌, ◌-◌, ◌/◌, min, Bool, cond, List, [], ◌∷◌, length, map}
use Rattle.std.specs.List.{range_with_len}
use Rattle.mely_event.specs.declared.colour.Colour.{Colour}
use Rattle.mely_history.specs.Setup.{place}
use Rattle.mely_history.specs.Entries.{colour_of, pass_of}
use Rattle.mely_history.specs.declared.setup.Setup.{Setup}
use Rattle.mely_history.specs.declared.entry.Entry.{Entry}

-- the most entries of a history that is drawn entry by entry
abbrev pub exact_limit : ℕ
exact_limit = 4096

-- how many entries a bucket has: the least number by which 128 buckets have all of them
abbrev pub width_of : ℕ → ℕ
width_of entries = (entries - 1) / 128 + 1

-- a cell: of a bucket the entries that a core made, of the colours of a class
pub record Cell : Type 0 where
  pub core : ℕ
  pub bucket : ℕ
  pub class : ℕ

-- The class of a colour: of each shard the 16 colours with the least numbers have one each, and all
-- other colours have one together, the last.
abbrev pub class_of : Setup → Colour → ℕ
class_of setup c = min (place setup c) 16

-- the entry at this place, by buckets of this width, is in the cell
abbrev pub is_in : Setup → ℕ → Cell → ℕ → Entry → Bool
is_in setup width cell at entry = (at / width == cell.bucket) && (pass_of entry == cell.core)
    && (class_of setup (colour_of entry) == cell.class)

-- how many of the entries from a place on are in the cell
abbrev pub count_from : Setup → ℕ → Cell → ℕ → List Entry → ℕ
count_from setup width cell at [] = 0
count_from setup width cell at (entry ∷ rest) =
    cond (is_in setup width cell at entry) 1 0 + count_from setup width cell (at + 1) rest

-- how many entries of a history are in each cell of a core's bucket
abbrev pub shares_of : Setup → List Entry → ℕ → ℕ → List ℕ
shares_of setup history core bucket =
    map (λ class. count_from setup (width_of (length history)) (record {
      core = core;
      bucket = bucket;
      class = class;
    }) 0 history) (range_with_len 0 17)
