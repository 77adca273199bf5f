-- What contracts see of a side that is lent.
use Rattle.std.specs.Prelude.{◌≡◌, Option}
use Rattle.mely_event.specs.declared.colour.Colour.{Colour}
use Rattle.mely_event.specs.declared.event.Event.{Event}
use Rattle.mely_event.specs.declared.trail.Trail.{Ghosts as TrailWords}
use Rattle.mely_weave.specs.declared.side.Side.{Side}
use Rattle.mely_weave.specs.Side.{SideState, side_at}
use Rattle.mely_weave.specs.SideStands.{PartsStand}

-- a side as the steps of a worker speak of it: its core, and what it lends of the
-- weave as that stands now
abbrev pub side_state : {S P F : Type 0} → Side S P F → SideState S P
side_state side = side_at side.shared.now side.core

-- the same shards and chains are lent, and what each keeps for itself it keeps
pub record IsLentOn {S P F : Type 0} (t : TrailWords S F)
    (fits : F → Colour → Event → Option P → Type 0) (a b : Side S P F) : Type 0 where
  pub same : b.shared.ghost_name ≡ a.shared.ghost_name
  pub stand : PartsStand t fits a.shared.now.setup a.shared.now.given a.shared.now.shards
      a.shared.now.chains → PartsStand t fits b.shared.now.setup b.shared.now.given
      b.shared.now.shards b.shared.now.chains
