-- The table beside the list of those that wait.
use Rattle.std.specs.Prelude.{◌≡◌, ◌≤◌, ℕ, Bool, List, Option, None, length, vec_capacity, is_some}
use Rattle.std.specs.List.{slice_index_or}
use Rattle.sws_handlers.specs.declared.waiting.Waiting.TheInside.{Inside}
use Rattle.sws_handlers.specs.Counting.{bit, times}

-- the table says since when the connection waits
abbrev pub is_marked : List (Option ℕ) → ℕ → Bool
is_marked since i = is_some (slice_index_or since i None)

-- a connection stands in the list once where the table says that it waits, and else not;
-- and there is room for all
pub record IsTabled (waiting : Inside) : Type 0 where
  pub counted : (i : ℕ) → times i waiting.conns.items ≡ bit (is_marked waiting.since.items i)
  pub room : length waiting.since.items ≤ vec_capacity waiting.conns
