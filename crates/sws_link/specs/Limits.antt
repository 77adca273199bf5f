-- How many connections there are at most.
use Rattle.std.specs.Prelude.{ℕ}

-- the most connections of a run, of a world and of a script
abbrev pub conn_limit : ℕ
conn_limit = 1024
