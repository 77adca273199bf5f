use Rattle.std.proofs.Common.{refl, ◌≡◌, Some}
use Rattle.mely_weave.specs.Side.{SideState, shard_of}
use Rattle.mely_weave.specs.Calls.{RegisterAs}
use Rattle.std.specs.Prelude.{slice_get}
use Rattle.mely_worker.specs.Access.{FitsSetup}
use Rattle.mely_weave.proofs.Entries.SideLemmas.{shard_there, shard_owns, may_register, load_fits, shards_stand, at_shard}
use Rattle.mely_weave.proofs.Entries.CallLemmas.{register_does, register_owes, answer_of}
use Rattle.mely_weave.proofs.side.SideAccess.register.Goals as goal
use Rattle.mely_weave.proofs.side.SideAccess.register.Goals.{After-index_mut}

-- the side that was lent
abbrev lent : (g : _) (c : After-index_mut g) → SideState g.row.S.Denot g.row.P.Denot
lent g c = record { setup = c.shared.inside.setup; core = c.args.self.now.core; given = c.shared.inside.given.value; shards = c.shared.inside.shards.items; chains = c.shared.inside.chains.items }

-- what was registered fits the setup
fit : (g : _) (c : After-index_mut g) → FitsSetup g.S.Fits.fits_under (lent g c).setup (g.S.Trail.frame_of (lent g c).given) (c.args.colour, c.args.event, c.args.load)
fit g c = rw (← c.shared.view_is) at c.requires.fits

-- the shard of the colour is there
there : (g : _) (c : After-index_mut g) → slice_get (lent g c).shards (shard_of (lent g c).setup c.args.colour) ≡ Some c.index_mut.result.now
there g c = shard_there g.S.Trail g.S.Fits.fits_under (lent g c) c.shared.invariant c.args.colour c.index_mut.result.now _ c.shard_of-place.ensures c.index_mut.ensures.value

pub register-requires-clause-own : goal.register-requires-clause-own
register-requires-clause-own g c =
    let at = (goal.at.register-requires-clause-own g c).After-index_mut in
    shard_owns g.S.Trail g.S.Fits.fits_under (lent g at) c.shared.invariant c.args.colour c.index_mut.result.now (fit g at).colour (there g at)

pub register-requires-clause-may : goal.register-requires-clause-may
register-requires-clause-may g c =
    let at = (goal.at.register-requires-clause-may g c).After-index_mut in
    may_register g.S.Trail g.S.Fits.fits_under (lent g at) c.shared.invariant c.args.colour c.args.event c.args.load c.index_mut.result.now (fit g at) (there g at)

pub register-requires-clause-fit : goal.register-requires-clause-fit
register-requires-clause-fit g c =
    let at = (goal.at.register-requires-clause-fit g c).After-index_mut in
    load_fits g.S.Trail g.S.Fits.fits_under (lent g at) c.shared.invariant c.args.colour c.args.event c.args.load c.index_mut.result.now (fit g at) (there g at)

pub invariant_of-shared : goal.invariant_of-shared
invariant_of-shared g c =
    let at = (goal.at.invariant_of-shared g c).After-index_mut in
    shards_stand g.S.Trail g.S.Fits.fits_under (lent g at) c.shared.invariant c.args.colour c.index_mut.result.now c.register.new.self _ c.shard_of-place.ensures (there g at) c.register.ensures.frame c.register.ensures.kept

pub returns-clause-called : goal.returns-clause-called
returns-clause-called g c =
    let at = (goal.at.returns-clause-called g c).After-index_mut in
    rw (← c.shared.view_is) (at_shard (lent g at) c.args.colour c.index_mut.result.now c.register.new.self _ (RegisterAs c.args.colour c.args.event c.args.load c.args.self.now.core c.register.result) c.shard_of-place.ensures (there g at) (register_does _ _ _ _ _ _ c.register.result c.register.ensures.ok c.register.ensures.reply c.register.ensures.err))

pub returns-clause-kept : goal.returns-clause-kept
returns-clause-kept g c =
    let at = (goal.at.returns-clause-kept g c).After-index_mut in
    record { same = refl; stand = λ _. shards_stand g.S.Trail g.S.Fits.fits_under (lent g at) c.shared.invariant c.args.colour c.index_mut.result.now c.register.new.self _ c.shard_of-place.ensures (there g at) c.register.ensures.frame c.register.ensures.kept }

pub returns-clause-answer : goal.returns-clause-answer
returns-clause-answer g c =
    let at = (goal.at.returns-clause-answer g c).After-index_mut in
    rw (← c.shared.view_is) (answer_of g.S.Trail g.S.Fits.fits_under (lent g at) c.shared.invariant c.args.colour c.args.event c.args.load c.index_mut.result.now c.register.new.self c.register.result (there g at) c.register.ensures.frame c.register.ensures.kept c.register.ensures.reply c.register.ensures.back)

pub returns-clause-owed : goal.returns-clause-owed
returns-clause-owed g c =
    let at = (goal.at.returns-clause-owed g c).After-index_mut in
    rw (← c.shared.view_is) (register_owes g.S.Trail g.S.Fits.fits_under (lent g at) _ c.args.colour c.shared.invariant c.args.event c.args.load c.args.self.now.core c.register.result (record { colour = (fit g at).colour; handler = (fit g at).handler }) (at_shard (lent g at) c.args.colour c.index_mut.result.now c.register.new.self _ (RegisterAs c.args.colour c.args.event c.args.load c.args.self.now.core c.register.result) c.shard_of-place.ensures (there g at) (register_does _ _ _ _ _ _ c.register.result c.register.ensures.ok c.register.ensures.reply c.register.ensures.err)))
