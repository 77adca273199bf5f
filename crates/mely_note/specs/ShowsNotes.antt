-- What notes say of the shard whose history they are of.
use Rattle.std.specs.Prelude.{◌≡◌, ℕ, List, [], Some, IfSome, slice_get}
use Rattle.mely_event.specs.declared.colour.Colour.{Colour}
use Rattle.mely_note.specs.declared.note.Note.{Note}
use Rattle.mely_note.specs.Notes.{entries_of, waiting_of, home_of}
use Rattle.mely_shard.specs.Shard.{ShardState, ColourState, IsOwn, lane_at, initial_lane}

-- the notes have the loads of what waits in the lane of a colour, and its state where it is at home
pub record ShowsLane {S P : Type 0} (notes : List (Note S P)) (c : Colour)
    (lane : ColourState S P) : Type 0 where
  pub waits : lane.events ≡ waiting_of notes c
  pub home : IfSome lane.state (λ state. state ≡ home_of lane.given notes c)

-- the notes are those of the shard's history, and each lane has what they say of its colour
pub record ShowsNotes {S P : Type 0} (has : ShardState S P) (notes : List (Note S P)) : Type 0 where
  pub entries : has.history ≡ entries_of notes
  pub each : (c : Colour) (lane : ColourState S P) → IsOwn has c → lane_at has c ≡ Some lane
      → ShowsLane notes c lane

-- nothing was registered yet: there is no entry, and each lane is as its state was given
pub record IsUntouched {S P : Type 0} (has : ShardState S P) : Type 0 where
  pub no_entry : has.history ≡ []
  pub each : (i : ℕ) (lane : ColourState S P) → slice_get has.lanes i ≡ Some lane
      → lane ≡ initial_lane lane.given
