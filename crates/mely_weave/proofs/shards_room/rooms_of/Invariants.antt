use Rattle.std.proofs.Common.{◌≡◌, ◌≤◌, ℕ, Some, length, vec_len, vec_capacity}
use Rattle.std.specs.Prelude.{slice_get}
use Rattle.mely_weave.proofs.shards_room.rooms_of.Given as goal

abbrev pub invariant-loop-number : goal.invariant-loop-number
invariant-loop-number g l = record {
  room : l.count ≤ vec_capacity l.rooms;
  len : vec_len l.rooms ≡ l.number;
  many : length l.rooms.items ≡ l.number;
  roomy : (i : ℕ) (one : _) → slice_get l.rooms.items i ≡ Some one → one.colours ≡ l.most;
}
