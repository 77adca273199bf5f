use Rattle.std.proofs.Common.{refl, ◌≡◌, Some, ◌<◌}
use Rattle.mely_weave.specs.Side.{SideState}
use Rattle.mely_weave.specs.Calls.{PickAs}
use Rattle.std.specs.Prelude.{slice_get}
use Rattle.mely_history.specs.Setup.{shape_of}
use Rattle.mely_weave.proofs.Entries.SideLemmas.{chain_there, chains_stand, at_chain}
use Rattle.mely_weave.proofs.Entries.CallLemmas.{pick_does, chain_owes, mark_low}
use Rattle.mely_weave.proofs.side.SideAccess.pick.Goals as goal
use Rattle.mely_weave.proofs.side.SideAccess.pick.Goals.{After-index_mut}

-- the side that was lent
abbrev lent : (g : _) (c : After-index_mut g) → SideState g.row.S.Denot g.row.P.Denot
lent g c = record { setup = c.shared.inside.setup; core = c.args.self.now.core; given = c.shared.inside.given.value; shards = c.shared.inside.shards.items; chains = c.shared.inside.chains.items }

-- the core is one of the setup
low : (g : _) (c : After-index_mut g) → c.args.core < (shape_of (lent g c).setup).cores
low g c = rw (← c.shared.view_is) at c.requires.core

-- the chain of the core is there
there : (g : _) (c : After-index_mut g) → slice_get (lent g c).chains c.args.core ≡ Some c.index_mut.result.now
there g c = chain_there g.S.Trail g.S.Fits.fits_under (lent g c) c.shared.invariant c.args.core c.index_mut.result.now (low g c) c.index_mut.ensures.value

pub returns-clause-mark : goal.returns-clause-mark
returns-clause-mark g c =
    let at = (goal.at.returns-clause-mark g c).After-index_mut in
    rw (← c.shared.view_is) (mark_low g.S.Trail g.S.Fits.fits_under (lent g at) c.shared.invariant _ c.index_mut.result.now (there g at) c.pick.result c.pick.ensures.colour)

pub invariant_of-shared : goal.invariant_of-shared
invariant_of-shared g c =
    let at = (goal.at.invariant_of-shared g c).After-index_mut in
    chains_stand g.S.Trail g.S.Fits.fits_under (lent g at) c.shared.invariant c.args.core c.index_mut.result.now c.pick.new.self (there g at) c.pick.ensures.same c.pick.ensures.together

pub returns-clause-called : goal.returns-clause-called
returns-clause-called g c =
    let at = (goal.at.returns-clause-called g c).After-index_mut in
    rw (← c.shared.view_is) (at_chain (lent g at) c.args.core c.index_mut.result.now c.pick.new.self (PickAs c.pick.result) (there g at) (pick_does _ _ c.pick.result c.pick.ensures.value c.pick.ensures.chained c.pick.ensures.paying c.pick.ensures.unpinned c.pick.ensures.rest))

pub returns-clause-kept : goal.returns-clause-kept
returns-clause-kept g c =
    let at = (goal.at.returns-clause-kept g c).After-index_mut in
    record { same = refl; stand = λ _. chains_stand g.S.Trail g.S.Fits.fits_under (lent g at) c.shared.invariant c.args.core c.index_mut.result.now c.pick.new.self (there g at) c.pick.ensures.same c.pick.ensures.together }

pub returns-clause-owed : goal.returns-clause-owed
returns-clause-owed g c =
    let at = (goal.at.returns-clause-owed g c).After-index_mut in
    rw (← c.shared.view_is) (chain_owes (lent g at) _ c.args.core (PickAs c.pick.result) (at_chain (lent g at) c.args.core c.index_mut.result.now c.pick.new.self (PickAs c.pick.result) (there g at) (pick_does _ _ c.pick.result c.pick.ensures.value c.pick.ensures.chained c.pick.ensures.paying c.pick.ensures.unpinned c.pick.ensures.rest)))
