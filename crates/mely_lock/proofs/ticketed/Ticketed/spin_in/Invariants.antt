use Rattle.std.proofs.Common.{◌≡◌}
use Rattle.mely_lock.proofs.ticketed.Ticketed.spin_in.Given as goal

abbrev pub invariant-loop-look : goal.invariant-loop-look
invariant-loop-look g l = (l.place.table_id ≡ l.initial.place.table_id) × (l.place.me ≡ l.initial.place.me)
