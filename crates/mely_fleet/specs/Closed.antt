-- Locks that are closed, with the passes of each.
use Rattle.mely_note.specs.declared.note.Note.{Note}
use Rattle.std.specs.Prelude.{◌≡◌, ◌+◌, ◌<◌, ◌≤◌, ℕ, List, [], Some, length, slice_get, slice_index_or, All, Any}
use Rattle.mely_lock.specs.declared.ticketed.Ticketed.{Ticketed}
use Rattle.mely_lock.specs.declared.pass.Pass.{Pass}
use Rattle.mely_history.specs.declared.entry.Entry.{Entry}
use Rattle.mely_note.specs.Notes.{Rise, entries_of, noted_by}
use Rattle.mely_note.specs.ShowsNotes.{ShowsNotes}
use Rattle.mely_history.specs.declared.setup.Setup.{Setup}
use Rattle.mely_history.specs.Setup.{shape_of}
use Rattle.mely_history.specs.LeftOver.{IsLeftOver}
use Rattle.mely_history.specs.Legal.{IsLegal, IsDrained}
use Rattle.mely_shard.specs.Shard.{ShardState, givens}
use Rattle.mely_kept.specs.Frames.{HaveFrame}
use Rattle.mely_kept.specs.KeptShard.{KeptShardState}
use Rattle.mely_kept.specs.declared.kept_shard.ShardFrame.{ShardFrame}
use Rattle.mely_fleet.specs.declared.passes.PassesOf.{PassesOf}
use Rattle.mely_fleet.specs.Calls.{front_in}
use Rattle.mely_fleet.specs.Rows.{fronts}
use Rattle.mely_lock.specs.Seen.{notes_of, OthersSince}
use Rattle.mely_lock.specs.Words.{initial_value, front, IsPassOf, IsOutside}

-- these are all passes of the lock, and none is inside
pub record AreAllPasses {V N F : Type 0} {g : _} (frame_of : V → F) (lock : Ticketed V N F)
    (passes : List (Pass V N F g)) : Type 0 where
  pub many : length passes ≡ lock.passes
  pub each : All (λ (p : Pass V N F g). IsPassOf frame_of lock p × IsOutside p) passes

-- the value that a lock gives back for all its passes: its history goes on from each
-- front by notes of others, and each number below that of the passes is that of one of
-- them, and no note has another
pub record IsClosed {V N F : Type 0} {g : _} (history_of : V → List N) (pass_of : N → ℕ)
    (frame_of : V → F) (lock : Ticketed V N F) (passes : List (Pass V N F g))
    (value : V) : Type 0 where
  pub framed : frame_of value ≡ frame_of (initial_value lock)
  pub fronts : All (λ (p : Pass V N F g).
      OthersSince pass_of p.number (front p) (history_of value)) passes
  pub numbers : (n : ℕ) → n < lock.passes → Any (λ (p : Pass V N F g). p.number ≡ n) passes
  pub strangers : (n : ℕ) → lock.passes ≤ n → notes_of pass_of n (history_of value) ≡ []

-- the elements at one place of these rows, in the order of the rows
pub record IsColumn {A : Type 0} (rows : List (List A)) (k : ℕ) (column : List A) : Type 0 where
  pub many : length column ≡ length rows
  pub each : (n : ℕ) (row : List A) (x : A) → slice_get rows n ≡ Some row
      → slice_get column n ≡ Some x → slice_get row k ≡ Some x

-- one column for each place
abbrev pub AreColumns : {A C : Type 0} → (C → List A) → List (List A) → List C → Type 0
AreColumns {A} {C} items rows columns = (k : ℕ) (d : C) → k < length columns
    → IsColumn rows k (items (slice_index_or columns k d))

-- columns of these rows, each with room for so many more
pub record AreFilled {A C : Type 0} (items : C → List A) (len room : C → ℕ) (rows : List (List A))
    (left : ℕ) (columns : List C) : Type 0 where
  pub are : AreColumns items rows columns
  pub room_left : (k : ℕ) (d : C) → k < length columns → len (slice_index_or columns k d) + left
      ≤ room (slice_index_or columns k d)

-- a shard that was taken out of what its lock kept, whose notes show it
pub record IsTakenOut {S P F : Type 0} (frame_of : S → F) (kept : KeptShardState S P)
    (has : ShardState S P) : Type 0 where
  pub is : has ≡ kept.has
  pub framed : HaveFrame frame_of (frame_of kept.sample) (givens has)
  pub legal : IsLegal has.setup has.history
  pub shows : ShowsNotes has kept.notes
  pub rise : Rise kept.notes

-- the notes of shard k after all passes are back: they begin with what each caller had seen, and go
-- on by notes of others alone; each number below that of the passes is some caller's, and no note
-- has another
pub record IsClosedOver {S P V F : Type 0} {g : _} (count k : ℕ)
    (passes : List (PassesOf V (Note S P) (ShardFrame S F) g))
    (notes : List (Note S P)) : Type 0 where
  pub seen : (n : ℕ) (own : PassesOf V (Note S P) (ShardFrame S F) g)
      → slice_get passes n ≡ Some own
      → OthersSince noted_by own.number (front_in (fronts own.shards.items) k) notes
  pub numbers : (m : ℕ) → m < count
      → (n : ℕ) × (own : PassesOf V (Note S P) (ShardFrame S F) g)
      × (slice_get passes n ≡ Some own) × (own.number ≡ m)
  pub strangers : (m : ℕ) → count ≤ m → notes_of noted_by m notes ≡ []

-- a shard with its notes, by which all passes are back
pub record IsClosedShard {S P V F : Type 0} {g : _} (count k : ℕ)
    (passes : List (PassesOf V (Note S P) (ShardFrame S F) g)) (has : ShardState S P)
    (notes : List (Note S P)) : Type 0 where
  pub shows : ShowsNotes has notes
  pub rise : Rise notes
  pub over : IsClosedOver count k passes notes

-- the fronts that the cores' passes have of shard k are drained, and none is longer than this one
pub record AreDrainedWithin {S P V F : Type 0} {g : _} (setup : Setup) (k : ℕ)
    (passes : List (PassesOf V (Note S P) (ShardFrame S F) g))
    (longest : List (Note S P)) : Type 0 where
  pub drained : (n : ℕ) (own : PassesOf V (Note S P) (ShardFrame S F) g)
      → slice_get passes n ≡ Some own → own.number < (shape_of setup).cores
      → IsDrained (entries_of (front_in (fronts own.shards.items) k))
  pub within : (n : ℕ) (own : PassesOf V (Note S P) (ShardFrame S F) g)
      → slice_get passes n ≡ Some own → own.number < (shape_of setup).cores
      → length (front_in (fronts own.shards.items) k) ≤ length longest

-- where the fronts that the cores' passes have of shard k are drained, what waits in its history
-- was registered behind the longest of them, by passes that are no core's
abbrev pub IsLeftByOthers : {S P V F : Type 0} {g : _} → Setup → ℕ
    → List (PassesOf V (Note S P) (ShardFrame S F) g) → List Entry → Type 0
IsLeftByOthers {S} {P} {V} {F} {g} setup k passes history =
    (n : ℕ) (own : PassesOf V (Note S P) (ShardFrame S F) g) → slice_get passes n ≡ Some own
    → own.number < (shape_of setup).cores
    → AreDrainedWithin setup k passes (front_in (fronts own.shards.items) k)
    → IsLeftOver setup history (length (front_in (fronts own.shards.items) k))
