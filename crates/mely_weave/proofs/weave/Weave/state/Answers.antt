use Rattle.std.proofs.Common.{◌≡◌, Some, ap, sym, ◌∙◌}
use Rattle.std.specs.Prelude.{slice_get}
use Rattle.mely_weave.specs.Side.{SideState, shard_of}
use Rattle.mely_weave.specs.Lanes.{lane_in}
use Rattle.mely_weave.proofs.Entries.SideLemmas.{shard_there, shard_owns}
use Rattle.mely_weave.proofs.weave.Weave.state.Goals as goal
use Rattle.mely_weave.proofs.weave.Weave.state.Goals.{After-index}

-- the shards and the chains, from the side of the first core
abbrev lent : (g : _) (c : After-index g) → SideState g.row.S.Denot g.row.P.Denot
lent g c = record { setup = c.self-inside.inside.0.0.setup; core = 0; given = c.self-inside.inside.0.0.given.value; shards = c.self-inside.inside.0.0.shards.items; chains = c.self-inside.inside.0.0.chains.items }

-- the shard of the colour is there
there : (g : _) (c : After-index g) → slice_get (lent g c).shards (shard_of (lent g c).setup c.args.colour) ≡ Some c.index.result.now
there g c = shard_there g.S.Trail g.S.Fits.fits_under (lent g c) c.self-inside.invariant c.args.colour c.index.result.now _ c.shard_of-place.ensures c.index.ensures

pub state-requires : goal.state-requires
state-requires g c =
    let at = (goal.at.state-requires g c).After-index in
    let low = rw (← c.self-inside.view_is) at (rw (← c.self.view_is) at c.requires) in
    shard_owns g.S.Trail g.S.Fits.fits_under (lent g at) c.self-inside.invariant c.args.colour c.index.result.now low (there g at)

pub returns : goal.returns
returns g c =
    let here = there g (goal.at.returns g c).After-index in
    rw (← c.self.view_is) (rw (← c.self-inside.view_is) (λ lane at. c.state.ensures lane (sym (ap (λ o. lane_in o c.args.colour) here) ∙ at)))
