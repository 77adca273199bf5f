use Rattle.std.proofs.Common.{refl, ◌≡◌, Some, ◌<◌}
use Rattle.mely_weave.specs.Side.{SideState, shard_of}
use Rattle.mely_weave.specs.Sides.{side_state}
use Rattle.mely_weave.specs.Calls.{TakeAs, IsOut}
use Rattle.std.specs.Prelude.{slice_get}
use Rattle.mely_history.specs.Setup.{colours_of}
use Rattle.mely_weave.proofs.Entries.SideLemmas.{shard_there, shard_owns, shards_stand, at_shard}
use Rattle.mely_weave.proofs.Entries.CallLemmas.{take_does, take_owes, turn_of}
use Rattle.mely_weave.proofs.Entries.LentLemmas.{taken_shown}
use Rattle.mely_weave.proofs.side.SideAccess.take.Goals as goal
use Rattle.mely_weave.proofs.side.SideAccess.take.Goals.{After-index_mut}

-- the side that was lent
abbrev lent : (g : _) (c : After-index_mut g) → SideState g.row.S.Denot g.row.P.Denot
lent g c = record { setup = c.shared.inside.setup; core = c.args.self.now.core; given = c.shared.inside.given.value; shards = c.shared.inside.shards.items; chains = c.shared.inside.chains.items }

-- the colour is one of the setup
low : (g : _) (c : After-index_mut g) → c.args.colour.0 < colours_of (lent g c).setup
low g c = rw (← c.shared.view_is) at c.requires.colour

-- the shard of the colour is there
there : (g : _) (c : After-index_mut g) → slice_get (lent g c).shards (shard_of (lent g c).setup c.args.colour) ≡ Some c.index_mut.result.now
there g c = shard_there g.S.Trail g.S.Fits.fits_under (lent g c) c.shared.invariant c.args.colour c.index_mut.result.now _ c.shard_of-place.ensures c.index_mut.ensures.value

pub take-requires : goal.take-requires
take-requires g c =
    let at = (goal.at.take-requires g c).After-index_mut in
    record { own = shard_owns g.S.Trail g.S.Fits.fits_under (lent g at) c.shared.invariant c.args.colour c.index_mut.result.now (low g at) (there g at) }

pub invariant_of-shared : goal.invariant_of-shared
invariant_of-shared g c =
    let at = (goal.at.invariant_of-shared g c).After-index_mut in
    shards_stand g.S.Trail g.S.Fits.fits_under (lent g at) c.shared.invariant c.args.colour c.index_mut.result.now c.take.new.self _ c.shard_of-place.ensures (there g at) c.take.ensures.frame c.take.ensures.kept

pub returns-clause-called : goal.returns-clause-called
returns-clause-called g c =
    let at = (goal.at.returns-clause-called g c).After-index_mut in
    rw (← c.shared.view_is) (at_shard (lent g at) c.args.colour c.index_mut.result.now c.take.new.self _ (TakeAs c.args.colour c.args.self.now.core c.take.result) c.shard_of-place.ensures (there g at) (take_does _ _ _ _ c.take.result c.take.ensures.ok c.take.ensures.err c.take.ensures.refusal))

pub returns-clause-turn : goal.returns-clause-turn
returns-clause-turn g c =
    let at = (goal.at.returns-clause-turn g c).After-index_mut in
    rw (← c.shared.view_is) (taken_shown side_state g.S.Trail (λ s. s.setup) (λ s. g.S.Trail.frame_of s.given) IsOut g.S.Fits.fits_under (λ s. s.core) _ _ c.args.colour c.take.result (turn_of g.S.Trail g.S.Fits.fits_under (lent g at) _ c.args.colour c.shared.invariant c.take.result (at_shard (lent g at) c.args.colour c.index_mut.result.now c.take.new.self _ (TakeAs c.args.colour c.args.self.now.core c.take.result) c.shard_of-place.ensures (there g at) (take_does _ _ _ _ c.take.result c.take.ensures.ok c.take.ensures.err c.take.ensures.refusal)) (low g at) (shards_stand g.S.Trail g.S.Fits.fits_under (lent g at) c.shared.invariant c.args.colour c.index_mut.result.now c.take.new.self _ c.shard_of-place.ensures (there g at) c.take.ensures.frame c.take.ensures.kept) c.take.ensures.stands))

pub returns-clause-kept : goal.returns-clause-kept
returns-clause-kept g c =
    let at = (goal.at.returns-clause-kept g c).After-index_mut in
    record { same = refl; stand = λ _. shards_stand g.S.Trail g.S.Fits.fits_under (lent g at) c.shared.invariant c.args.colour c.index_mut.result.now c.take.new.self _ c.shard_of-place.ensures (there g at) c.take.ensures.frame c.take.ensures.kept }

pub returns-clause-owed : goal.returns-clause-owed
returns-clause-owed g c =
    let at = (goal.at.returns-clause-owed g c).After-index_mut in
    rw (← c.shared.view_is) (take_owes g.S.Trail g.S.Fits.fits_under (lent g at) _ c.args.colour c.shared.invariant c.args.self.now.core c.take.result (at_shard (lent g at) c.args.colour c.index_mut.result.now c.take.new.self _ (TakeAs c.args.colour c.args.self.now.core c.take.result) c.shard_of-place.ensures (there g at) (take_does _ _ _ _ c.take.result c.take.ensures.ok c.take.ensures.err c.take.ensures.refusal)))
