-- Lists by number, and one thing for each colour, dealt to the shards.
use Rattle.std.specs.Prelude.{◌≡◌, ◌≤◌, ◌+◌, ◌*◌, ℕ, List, Some, length, slice_get}

-- what is of colour c lies at place c / shards of pile c % shards, and nothing else lies there
pub record AreDealt {X Y : Type 0} (items : Y → List X) (shards : ℕ) (all : List X)
    (piles : List Y) : Type 0 where
  pub many : length piles ≡ shards
  pub each : (shard : ℕ) (pile : Y) → slice_get piles shard ≡ Some pile → (i : ℕ)
      → slice_get (items pile) i ≡ slice_get all (i * shards + shard)

-- each thing in a list has what it is to have at its place
abbrev pub AtEach : {X : Type 0} → (ℕ → X → Type 0) → List X → Type 0
AtEach {X} Has things = (place : ℕ) (thing : X)
    → slice_get things place ≡ Some thing → Has place thing

-- a room for each shard, in each of which there is room for the share of a shard
pub record HaveRoomFor {Y : Type 0} (room : Y → ℕ) (all shards : ℕ) (rooms : List Y) : Type 0 where
  pub many : length rooms ≡ shards
  pub each : AtEach (λ _ r. all ≤ room r * shards) rooms

-- so many are no more than the share of a shard: there is place for them wherever
-- as many times as there are shards would hold all
abbrev pub IsWithinShare : ℕ → ℕ → ℕ → Type 0
IsWithinShare all shards some = (room : ℕ) → all ≤ room * shards → some ≤ room
