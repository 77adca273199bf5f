-- How much a colour is worth to a thief.
use Rattle.std.specs.Prelude.{ℕ, ◌*◌, nat_le, if◌then◌else◌}

-- the class of a time left at a steal cost: 0 up to the cost, where a steal doesn't pay, 1 up to
-- twice the cost, 2 up to four times the cost, 3 above (the stealing queue of the Mely paper keeps
-- the worthy colours by such intervals)
abbrev pub class_of : ℕ → ℕ → ℕ
class_of worth cost =
    if nat_le worth cost then 0 else
    (if nat_le worth (2 * cost) then 1 else (if nat_le worth (4 * cost) then 2 else 3))
