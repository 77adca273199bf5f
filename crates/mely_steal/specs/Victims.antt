-- From whom a core steals.
use Rattle.std.specs.Prelude.{ℕ, ◌+◌, ◌-◌, ◌/◌, ◌==◌, ◌++◌, Bool, not, List, filter}
use Rattle.std.specs.List.{range_with_len}

-- all cores but this one, upwards from it and round to it
abbrev pub others_from : ℕ → ℕ → List ℕ
others_from core cores = range_with_len (core + 1) (cores - (core + 1)) ++ range_with_len 0 core

-- the two cores stand in one group; the groups are of this size and begin at core 0
abbrev pub in_one_group : ℕ → ℕ → ℕ → Bool
in_one_group group core other = other / group == core / group

-- the other cores of the core's group, and behind them the cores of other groups (the locality of
-- steals in the Mely paper)
abbrev pub victims_of : ℕ → ℕ → ℕ → List ℕ
victims_of core cores group =
    filter (λ other. in_one_group group core other) (others_from core cores) ++ filter (λ other.
    not (in_one_group group core other)) (others_from core cores)
