-- Locks in a row, and a pass for each.
use Rattle.std.specs.Prelude.{◌≡◌, ℕ, List, Some, length, map, slice_get}
use Rattle.mely_lock.specs.declared.ticketed.Ticketed.{Ticketed}
use Rattle.mely_lock.specs.declared.pass.Pass.{Pass}
use Rattle.mely_lock.specs.Words.{initial_value, front, IsPassOf, IsOutside}

-- a pass of this lock that is outside, and of this number
pub record IsPassAt {V N F : Type 0} {g : _} (frame_of : V → F) (lock : Ticketed V N F) (n : ℕ)
    (pass : Pass V N F g) : Type 0 where
  pub of_lock : IsPassOf frame_of lock pass
  pub outside : IsOutside pass
  pub numbered : pass.number ≡ n

-- one pass for each lock, in order, all of one number
pub record ArePassesOf {V N F : Type 0} {g : _} (frame_of : V → F) (locks : List (Ticketed V N F))
    (n : ℕ) (passes : List (Pass V N F g)) : Type 0 where
  pub many : length passes ≡ length locks
  pub each : (k : ℕ) (lock : Ticketed V N F) (pass : Pass V N F g) → slice_get locks k ≡ Some lock
      → slice_get passes k ≡ Some pass → IsPassAt frame_of lock n pass

-- the value of each lock has the frame of its place
abbrev pub AreFramed : {V N F : Type 0} → (V → F) → (ℕ → F) → List (Ticketed V N F) → Type 0
AreFramed {V} {N} {F} frame_of frame_at locks = (k : ℕ) (lock : Ticketed V N F)
    → slice_get locks k ≡ Some lock → frame_of (initial_value lock) ≡ frame_at k

-- what passes have seen, lock by lock
abbrev pub fronts : {V N F : Type 0} {g : _} → List (Pass V N F g) → List (List N)
fronts passes = map (λ pass. front pass) passes

-- each lock was made with so many passes
abbrev pub HavePasses : {V N F : Type 0} → ℕ → List (Ticketed V N F) → Type 0
HavePasses {V} {N} {F} passes locks = (k : ℕ) (lock : Ticketed V N F)
    → slice_get locks k ≡ Some lock → lock.passes ≡ passes
