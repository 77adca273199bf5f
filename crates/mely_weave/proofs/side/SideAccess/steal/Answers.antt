use Rattle.std.proofs.Common.{refl, ◌≡◌, Some, ◌<◌}
use Rattle.mely_weave.specs.Side.{SideState, shard_of}
use Rattle.mely_weave.specs.Calls.{StealAs}
use Rattle.std.specs.Prelude.{slice_get}
use Rattle.mely_history.specs.Setup.{colours_of}
use Rattle.mely_weave.proofs.Entries.SideLemmas.{shard_there, shard_owns, shards_stand, at_shard}
use Rattle.mely_weave.proofs.Entries.CallLemmas.{steal_does, steal_owes, core_there}
use Rattle.mely_weave.proofs.side.SideAccess.steal.Goals as goal
use Rattle.mely_weave.proofs.side.SideAccess.steal.Goals.{After-index_mut}

-- the side that was lent
abbrev lent : (g : _) (c : After-index_mut g) → SideState g.row.S.Denot g.row.P.Denot
lent g c = record { setup = c.shared.inside.setup; core = c.args.self.now.core; given = c.shared.inside.given.value; shards = c.shared.inside.shards.items; chains = c.shared.inside.chains.items }

-- the colour is one of the setup
low : (g : _) (c : After-index_mut g) → c.args.colour.0 < colours_of (lent g c).setup
low g c = rw (← c.shared.view_is) at c.requires.colour

-- the shard of the colour is there
there : (g : _) (c : After-index_mut g) → slice_get (lent g c).shards (shard_of (lent g c).setup c.args.colour) ≡ Some c.index_mut.result.now
there g c = shard_there g.S.Trail g.S.Fits.fits_under (lent g c) c.shared.invariant c.args.colour c.index_mut.result.now _ c.shard_of-place.ensures c.index_mut.ensures.value

pub steal-requires-clause-own : goal.steal-requires-clause-own
steal-requires-clause-own g c =
    let at = (goal.at.steal-requires-clause-own g c).After-index_mut in
    shard_owns g.S.Trail g.S.Fits.fits_under (lent g at) c.shared.invariant c.args.colour c.index_mut.result.now (low g at) (there g at)

pub steal-requires-clause-core : goal.steal-requires-clause-core
steal-requires-clause-core g c =
    let at = (goal.at.steal-requires-clause-core g c).After-index_mut in
    core_there g.S.Trail g.S.Fits.fits_under (lent g at) c.shared.invariant c.args.colour c.index_mut.result.now (rw (← c.shared.view_is) at c.requires.own) (there g at)

pub invariant_of-shared : goal.invariant_of-shared
invariant_of-shared g c =
    let at = (goal.at.invariant_of-shared g c).After-index_mut in
    shards_stand g.S.Trail g.S.Fits.fits_under (lent g at) c.shared.invariant c.args.colour c.index_mut.result.now c.steal.new.self _ c.shard_of-place.ensures (there g at) c.steal.ensures.frame c.steal.ensures.kept

pub returns-clause-called : goal.returns-clause-called
returns-clause-called g c =
    let at = (goal.at.returns-clause-called g c).After-index_mut in
    rw (← c.shared.view_is) (at_shard (lent g at) c.args.colour c.index_mut.result.now c.steal.new.self _ (StealAs c.args.colour c.args.self.now.core c.steal.result) c.shard_of-place.ensures (there g at) (steal_does _ _ _ _ c.steal.result c.steal.ensures.ok c.steal.ensures.err c.steal.ensures.refusal))

pub returns-clause-kept : goal.returns-clause-kept
returns-clause-kept g c =
    let at = (goal.at.returns-clause-kept g c).After-index_mut in
    record { same = refl; stand = λ _. shards_stand g.S.Trail g.S.Fits.fits_under (lent g at) c.shared.invariant c.args.colour c.index_mut.result.now c.steal.new.self _ c.shard_of-place.ensures (there g at) c.steal.ensures.frame c.steal.ensures.kept }

pub returns-clause-owed : goal.returns-clause-owed
returns-clause-owed g c =
    let at = (goal.at.returns-clause-owed g c).After-index_mut in
    rw (← c.shared.view_is) (steal_owes g.S.Trail g.S.Fits.fits_under (lent g at) _ c.args.colour c.shared.invariant c.args.self.now.core c.steal.result (at_shard (lent g at) c.args.colour c.index_mut.result.now c.steal.new.self _ (StealAs c.args.colour c.args.self.now.core c.steal.result) c.shard_of-place.ensures (there g at) (steal_does _ _ _ _ c.steal.result c.steal.ensures.ok c.steal.ensures.err c.steal.ensures.refusal)))
