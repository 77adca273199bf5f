-- How long a table of handlers may be.
use Rattle.std.specs.Prelude.{ℕ}

-- the most rows of a table
abbrev pub handler_limit : ℕ
handler_limit = 32
