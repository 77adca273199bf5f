use Rattle.std.proofs.Common.{◌≡◌, ℕ, ◌<◌, Some, false}
use Rattle.std.specs.Prelude.{slice_get}
use Rattle.sws_handlers.specs.declared.ended.Served.{Served}
use Rattle.sws_handlers.specs.RunLeaves.{is_out_of_memory}
use Rattle.sws_handlers.proofs.judging.any_ran_out.Given as goal

abbrev pub invariant-loop-one : goal.invariant-loop-one
invariant-loop-one g l = (i : ℕ) (s : Served g.row.L.Denot) → i < l.one-index → slice_get l.served i ≡ Some s → is_out_of_memory s.end ≡ false
