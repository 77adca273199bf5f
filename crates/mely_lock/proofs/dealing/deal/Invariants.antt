use Rattle.std.proofs.Common.{◌≡◌, ℕ, ◌-◌, ◌≤◌, false, [], length, Some, vec_capacity}
use mathlib.Core.Option.{some}
use lib.ListN.{get_elem?}
use Rattle.mely_lock.specs.Views.{view, initial_claims}
use Rattle.mely_lock.specs.Words.{front, told_frame, IsOutside}
use Rattle.mely_lock.proofs.dealing.deal.Given as goal

abbrev pub invariant-loop-number : goal.invariant-loop-number
invariant-loop-number g l = let f = g.V.Kept.frame_of l.room.shared.key.value.value in record {
  table : l.rest.table_id ≡ l.room.shared.table_id;
  me : l.rest.me ≡ (view (initial_claims l.number (l.passes - l.number) f) false, []);
  room : l.passes ≤ vec_capacity l.dealt;
  count : length l.dealt.items ≡ l.number;
  each : (k : ℕ) (p : _) → get_elem? l.dealt.items k ≡ some p → (p.number ≡ k) × (front p ≡ []) × IsOutside p × (p.place.table_id ≡ l.room.shared.table_id) × (told_frame p ≡ Some f);
}
