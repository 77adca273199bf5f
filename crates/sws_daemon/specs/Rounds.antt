-- When the folder is looked at, in ticks.
use Rattle.std.specs.Prelude.{ℕ, min, Bool, true, false, nat_le, Option, None, Some}

-- the folder is looked at with the tick after which none is left
abbrev pub is_due : Option ℕ → Bool
is_due None = false
is_due (Some left) = nat_le left 1

-- how many ticks are left after a look: as many as usual, or few where something is still to be done
abbrev pub next_of : Option ℕ → Bool → Option ℕ
next_of usual false = usual
next_of None true = Some 4
next_of (Some usual) true = Some (min usual 4)
