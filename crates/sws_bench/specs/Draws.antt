-- The draws of the generator: a linear congruential generator modulo 2^32, with the multiplier and
-- the increment of Numerical Recipes (Press et al., 2nd edition, section 7.1), of whose state each
-- draw gives the upper 16 bits.
use Rattle.std.specs.Prelude.{ℕ, zero, suc, ◌+◌, ◌*◌, ◌/◌, ◌%◌, ◌^◌, List, map}
use Rattle.std.specs.List.{range_with_len}

-- the state behind the next draw
abbrev pub next_state : ℕ → ℕ
next_state state = (1664525 * state + 1013904223) % 2 ^ 32

-- the state behind so many draws
abbrev pub behind : ℕ → ℕ → ℕ
behind state zero = state
behind state (suc count) = next_state (behind state count)

-- what the draw behind so many others gives
abbrev pub draw : ℕ → ℕ → ℕ
draw state count = next_state (behind state count) / 65536

-- what so many draws give
abbrev pub draws_from : ℕ → ℕ → List ℕ
draws_from state count = map (draw state) (range_with_len 0 count)
