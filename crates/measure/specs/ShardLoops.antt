-- The one shard of the loop, and its initial states.
use Rattle.std.specs.Prelude.{◌≡◌, ℕ, List, [], Some, length, slice_get}
use Rattle.mely_event.specs.HandlerTable.{rows_of}
use Rattle.mely_history.specs.Setup.{shape_of, colours_of, handlers_of}
use Rattle.mely_shard.specs.Shard.{ShardState}
use Rattle.mely_event.specs.TrailLog.{TrailLogState}
use Rattle.measure.specs.declared.shard.event_loop.TheConstants.{COLOURS}

-- 1,024 colours on one core, and one handler
pub record IsLoop {S P : Type 0} (has : ShardState S P) : Type 0 where
  pub colours : colours_of has.setup ≡ COLOURS
  pub shards : (shape_of has.setup).shards ≡ 1
  pub handlers : length (rows_of (handlers_of has.setup)) ≡ 1
  pub number : has.shard ≡ 0

-- one state for each of the first colours, on which nothing was run
pub record AreInitialBelow (count : ℕ) (states : List TrailLogState) : Type 0 where
  pub many : length states ≡ count
  pub each : (i : ℕ) (state : TrailLogState) → slice_get states i ≡ Some state
      → (state.colour ≡ record { 0 = i }) × (state.events ≡ [])

-- all states are of their colours, with nothing run
abbrev pub AreInitial : List TrailLogState → Type 0
AreInitial states = AreInitialBelow COLOURS states
