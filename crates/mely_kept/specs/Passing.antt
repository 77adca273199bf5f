-- A pass that goes into a lock and comes out again.
use Rattle.std.specs.Prelude.{◌≡◌}
use Rattle.mely_lock.specs.declared.ticketed.Ticketed.{Ticketed}
use Rattle.mely_lock.specs.declared.pass.Pass.{Pass}
use Rattle.mely_lock.specs.Words.{IsPassOf, IsOutside}

-- the pass may go into this lock
abbrev pub MayEnter : {V N F : Type 0} {g : _} → (V → F) → Ticketed V N F → Pass V N F g → Type 0
MayEnter frame_of lock pass = IsPassOf frame_of lock pass × IsOutside pass

-- the pass went in and came out again
abbrev pub HasLeft : {V N F : Type 0} {g : _} → (V → F) → Ticketed V N F → Pass V N F g
    → Pass V N F g → Type 0
HasLeft frame_of lock before after = IsPassOf frame_of lock after × IsOutside after
    × (after.number ≡ before.number)
