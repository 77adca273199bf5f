-- The callers of a fleet.
use Rattle.std.specs.Prelude.{◌≡◌, ℕ, List, Some, slice_get}
use Rattle.mely_note.specs.declared.note.Note.{Note}
use Rattle.mely_fleet.specs.declared.fleet.FleetOf.{FleetOf}
use Rattle.mely_fleet.specs.declared.passes.PassesOf.{PassesOf}
use Rattle.mely_kept.specs.declared.kept_shard.ShardFrame.{ShardFrame}
use Rattle.mely_fleet.specs.Fleets.{ArePasses}

-- each of these are passes of the fleet
pub record AreAllPasses {S P V F : Type 0} {g : _} (kept_frame : V → ShardFrame S F)
    (fleet : FleetOf V (Note S P) (ShardFrame S F))
    (all : List (PassesOf V (Note S P) (ShardFrame S F) g)) : Type 0 where
  pub each : (k : ℕ) (own : PassesOf V (Note S P) (ShardFrame S F) g) → slice_get all k ≡ Some own
      → ArePasses kept_frame fleet own
