-- A sink to which nothing was written.
use Rattle.std.proofs.Common.{ℕ, List, [], Option, Some, None, Err, refl, sym, inl, append-nil}
use Rattle.sws_replay.specs.declared.fault.RunFault.TheVariants.{Memory}
use Rattle.sws_replay.specs.Replays.{WritesOne}

pub nothing_written : (T : Type 0) (IsText : List ℕ → Type 0) (written : Option (List ℕ)) → WritesOne {T = T} IsText written written (Err Memory)
nothing_written T IsText None = refl
nothing_written T IsText (Some before) = (before, refl, ([], inl refl, sym (append-nil before)))
