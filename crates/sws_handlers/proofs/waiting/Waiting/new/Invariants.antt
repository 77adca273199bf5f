use Rattle.std.proofs.Common.{◌≡◌, ℕ, ◌≤◌, false, length}
use Rattle.std.specs.Prelude.{vec_capacity}
use Rattle.sws_handlers.specs.WaitingKept.{is_marked}
use Rattle.sws_handlers.proofs.waiting.Waiting.new.Given as goal

abbrev pub invariant-conns : goal.invariant-conns
invariant-conns l = record {
  nobody : (i : ℕ) → is_marked l.since.items i ≡ false;
  many : length l.since.items ≡ l._conn;
  room : l.total ≤ vec_capacity l.since;
}
