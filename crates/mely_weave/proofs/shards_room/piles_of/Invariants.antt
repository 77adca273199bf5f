use Rattle.std.proofs.Common.{◌≡◌, ◌≤◌, ℕ, [], Some, length, vec_len, vec_capacity}
use Rattle.std.specs.Prelude.{slice_get}
use Rattle.mely_weave.proofs.shards_room.piles_of.Given as goal

abbrev pub invariant-loop-number : goal.invariant-loop-number
invariant-loop-number g l = record {
  room : l.count ≤ vec_capacity l.piles;
  len : vec_len l.piles ≡ l.number;
  many : length l.piles.items ≡ l.number;
  empty : (i : ℕ) (pile : _) → slice_get l.piles.items i ≡ Some pile → pile.items ≡ [];
  roomy : (i : ℕ) (pile : _) → slice_get l.piles.items i ≡ Some pile → l.most ≤ vec_capacity pile;
}
