-- A store in a file: the requests that a client would send to make it, and a last one that says that
-- these are all.
use Rattle.std.specs.Prelude.{ℕ, Vec, List, [], ◌∷◌, ◌++◌, Option, Some, None, codes, flat_map, if◌then◌else◌, max}
use Rattle.std.specs.Fmt.{decimal}
use Rattle.std.specs.Global.{Global}
use Rattle.example_redis.specs.declared.life.Kept.{Kept}
use Rattle.example_redis.specs.declared.store.Cell.{Cell}
use Rattle.example_redis.specs.Lives.{is_over}
use Rattle.example_redis.specs.Sent.{sent}

-- what a request of so many words begins with
abbrev pub begun : ℕ → List ℕ
begun words = codes "*" ++ decimal words ++ codes "\r\n"

-- the request that sets a key, and says when its value goes
abbrev pub saved_until : List ℕ → List ℕ → Option ℕ → List ℕ
saved_until key bytes None = sent (codes "SET" ∷ key ∷ bytes ∷ [])
saved_until key bytes (Some until) =
    sent (codes "SET" ∷ key ∷ bytes ∷ codes "PXAT" ∷ decimal until ∷ [])

-- a value whose time is over isn't kept
abbrev pub saved_entry : ℕ → Vec ℕ Global → Kept → List ℕ
saved_entry now key kept = if is_over now kept.until then []
    else saved_until key.items kept.bytes.items kept.until

-- those of a cell at a moment, in the order of its keys
abbrev pub saved_entries : ℕ → List (Vec ℕ Global × Kept) → List ℕ
saved_entries now entries = flat_map (λ entry. saved_entry now entry.0 entry.1) entries

-- those of a cell, whose own moment may be later
abbrev pub saved_cell : ℕ → Cell → List ℕ
saved_cell now cell = saved_entries (max cell.now now) cell.values.entries

-- those of all cells, one cell after another, and QUIT
abbrev pub saved : ℕ → List Cell → List ℕ
saved now cells = flat_map (saved_cell now) cells ++ sent (codes "QUIT" ∷ [])
