-- A shard as its lock keeps it.
use Rattle.std.specs.Prelude.{◌≡◌, ◌<◌, ◌%◌, ℕ, List, Option, Some, slice_get}
use Rattle.mely_event.specs.declared.colour.Colour.{Colour}
use Rattle.mely_history.specs.Setup.{shape_of, colours_of, place}
use Rattle.mely_shard.specs.Shard.{givens}
use Rattle.mely_kept.specs.declared.kept_shard.ShardFrame.{ShardFrame}
use Rattle.mely_kept.specs.KeptShard.{KeptShardState}

-- all these states have one frame
abbrev pub HaveFrame : {S F : Type 0} → (S → F) → F → List S → Type 0
HaveFrame frame f states = (i : ℕ) (state : _) → slice_get states i ≡ Some state → frame state ≡ f

-- what stays the same of a shard behind its lock
abbrev pub shard_frame : {S P F : Type 0} → (S → F) → KeptShardState S P → ShardFrame S F
shard_frame frame kept = record {
  setup = kept.has.setup;
  shard = kept.has.shard;
  states = frame kept.sample;
  givens = record { of = record {}; items = givens kept.has };
}

-- the state that a colour of the shard was given at first
abbrev pub given_at : {S F : Type 0} → ShardFrame S F → Colour → Option S
given_at of c = slice_get of.givens.items (place of.setup c)

-- the colour is one of the shard with this frame
pub record IsColourOf {S F : Type 0} (of : ShardFrame S F) (c : Colour) : Type 0 where
  pub there : c.0 < colours_of of.setup
  pub here : c.0 % (shape_of of.setup).shards ≡ of.shard
