use Rattle.std.proofs.Common.{◌≡◌, ◌⊎◌, ℕ, false, vec_len, length, count_by, ◌==◌, ◌+◌}
use mathlib.Core.Option.{some}
use lib.ListN.{get_elem?}
use Rattle.mely_lock.specs.Views.{HasClaim, shares_of}
use Rattle.mely_lock.specs.Words.{front}
use Rattle.mely_lock.proofs.closing.gather.Given as goal

abbrev pub invariant-loop-pass : goal.invariant-loop-pass
invariant-loop-pass g l = record {
  table : l.seat.table_id ≡ l.room.shared.table_id;
  out : l.seat.me.0.inside ≡ false;
  many : length l.seat.me.0.claims + length l.passes.items ≡ length l.fn.passes.items;
  shares : (n : ℕ) → shares_of n l.seat.me.0.claims + count_by (λ p. p.number == n) l.passes.items ≡ count_by (λ p. p.number == n) l.fn.passes.items;
  left : (k : ℕ) (p : _) → get_elem? l.passes.items k ≡ some p → get_elem? l.fn.passes.items k ≡ some p;
  done : (k : ℕ) (p : _) → get_elem? l.fn.passes.items k ≡ some p → (get_elem? l.passes.items k ≡ some p) ⊎ HasClaim l.seat.me.0.claims p.number (front p);
}

abbrev pub decreases-loop-pass : goal.decreases-loop-pass
decreases-loop-pass g l = vec_len l.passes
