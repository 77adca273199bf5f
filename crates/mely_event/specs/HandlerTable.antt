-- What a table of handlers weighs.
use Rattle.std.specs.Prelude.{ℕ, List, ◌/◌, ◌==◌, Option, Some, length, take, position, nat_lt, if◌then◌else◌, slice_index_or}
use Rattle.std.specs.Option.{option_map}
use Rattle.mely_event.specs.declared.handlers.Handlers.{Handlers}
use Rattle.mely_event.specs.TableLimit.{handler_limit}
use Rattle.mely_event.specs.declared.table_fault.TableFault.{TableFault}
use Rattle.mely_event.specs.declared.table_fault.TableFault.TheVariants.{TooMany, ZeroPenalty}

-- the rows of a table, each a time and a penalty
abbrev pub rows_of : Handlers → List (ℕ × ℕ)
rows_of table = take table.count table.rows

-- the row of a handler
abbrev pub row_at : List (ℕ × ℕ) → ℕ → ℕ × ℕ
row_at rows handler = slice_index_or rows handler (0, 1)

-- the weight of a handler's events: its time over its penalty, rounded down (the
-- penalties of the Mely paper)
abbrev pub weight_of : List (ℕ × ℕ) → ℕ → ℕ
weight_of rows handler = (row_at rows handler).0 / (row_at rows handler).1

-- why rows make no table, the first cause first
abbrev pub fault_in : List (ℕ × ℕ) → Option TableFault
fault_in rows =
    if nat_lt handler_limit (length rows) then Some (TooMany (length rows))
    else option_map (λ handler. ZeroPenalty handler) (position (λ row. row.1 == 0) rows)
