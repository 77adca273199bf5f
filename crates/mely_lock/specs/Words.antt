-- What a lock, a pass and a held value tell their callers.
use Rattle.std.specs.Prelude.{◌≡◌, ℕ, true, false, List, [], ◌∷◌, Option, Some, None}
use Rattle.atomic_table.specs.Seated.{TableId}
use Rattle.mely_lock.specs.declared.ticketed.Ticketed.{Ticketed}
use Rattle.mely_lock.specs.declared.pass.Pass.{Pass}
use Rattle.mely_lock.specs.Seen.{notes_of}
use Rattle.mely_lock.specs.Views.{head_front, head_frame}

module _ {V N F : Type 0} where
  -- which lock it is: no two have one name
  abbrev pub lock_id : Ticketed V N F → TableId
  lock_id lock = lock.room.shared.table_id

  -- the initial value: what was given to `new`
  abbrev pub initial_value : Ticketed V N F → V
  initial_value lock = lock.room.shared.key.value.value

  module _ {g : _} where
    -- what the pass has seen of the history
    abbrev pub front : Pass V N F g → List N
    front pass = head_front pass.place.me.0.claims

    -- the notes that the pass has made
    abbrev pub own : (N → ℕ) → Pass V N F g → List N
    own pass_of pass = notes_of pass_of pass.number (front pass)

    -- the frame that the pass was told when the lock was made
    abbrev pub told_frame : Pass V N F g → Option F
    told_frame pass = head_frame pass.place.me.0.claims

    -- the pass is one of this lock's
    abbrev pub IsPassOf : (V → F) → Ticketed V N F → Pass V N F g → Type 0
    IsPassOf frame_of lock pass = (pass.place.table_id ≡ lock_id lock)
        × (told_frame pass ≡ Some (frame_of (initial_value lock)))

    -- the pass is outside, and has no value in its hand
    abbrev pub IsOutside : Pass V N F g → Type 0
    IsOutside pass = (pass.place.me.0.inside ≡ false) × (pass.place.me.1 ≡ [])

    -- the pass is inside, and the value is out of the slot in its hand
    abbrev pub IsInside : Pass V N F g → Type 0
    IsInside pass = (pass.place.me.0.inside ≡ true) × (pass.place.me.1 ≡ (0, None) ∷ [])
