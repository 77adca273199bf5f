use Rattle.std.proofs.Common.{refl, ◌≡◌, Some, ◌<◌}
use Rattle.mely_weave.specs.Side.{SideState}
use Rattle.mely_weave.specs.Calls.{RetellAs}
use Rattle.std.specs.Prelude.{slice_get}
use Rattle.mely_history.specs.Setup.{shape_of}
use Rattle.mely_weave.proofs.Entries.SideLemmas.{chain_there, chains_stand, at_chain}
use Rattle.mely_weave.proofs.Entries.CallLemmas.{chain_owes, colour_there}
use Rattle.mely_weave.proofs.side.SideAccess.retell.Goals as goal
use Rattle.mely_weave.proofs.side.SideAccess.retell.Goals.{After-index_mut}

-- the side that was lent
abbrev lent : (g : _) (c : After-index_mut g) → SideState g.row.S.Denot g.row.P.Denot
lent g c = record { setup = c.shared.inside.setup; core = c.args.self.now.core; given = c.shared.inside.given.value; shards = c.shared.inside.shards.items; chains = c.shared.inside.chains.items }

-- the core is one of the setup
low : (g : _) (c : After-index_mut g) → c.args.core < (shape_of (lent g c).setup).cores
low g c = rw (← c.shared.view_is) at c.requires.core

-- the chain of the core is there
there : (g : _) (c : After-index_mut g) → slice_get (lent g c).chains c.args.core ≡ Some c.index_mut.result.now
there g c = chain_there g.S.Trail g.S.Fits.fits_under (lent g c) c.shared.invariant c.args.core c.index_mut.result.now (low g c) c.index_mut.ensures.value

pub retell-requires : goal.retell-requires
retell-requires g c =
    let at = (goal.at.retell-requires g c).After-index_mut in
    let colour = rw (← c.shared.view_is) at c.requires.colour in
    colour_there g.S.Trail g.S.Fits.fits_under (lent g at) c.shared.invariant c.args.core c.index_mut.result.now (there g at) c.args.colour colour

pub invariant_of-shared : goal.invariant_of-shared
invariant_of-shared g c =
    let at = (goal.at.invariant_of-shared g c).After-index_mut in
    chains_stand g.S.Trail g.S.Fits.fits_under (lent g at) c.shared.invariant c.args.core c.index_mut.result.now c.retell.new.self (there g at) c.retell.ensures.same c.retell.ensures.together

pub returns-clause-called : goal.returns-clause-called
returns-clause-called g c =
    let at = (goal.at.returns-clause-called g c).After-index_mut in
    rw (← c.shared.view_is) (at_chain (lent g at) c.args.core c.index_mut.result.now c.retell.new.self (RetellAs c.args.colour c.args.started c.args.worth c.retell.result) (there g at) ((c.retell.ensures.answer, c.retell.ensures.told)))

pub returns-clause-kept : goal.returns-clause-kept
returns-clause-kept g c =
    let at = (goal.at.returns-clause-kept g c).After-index_mut in
    record { same = refl; stand = λ _. chains_stand g.S.Trail g.S.Fits.fits_under (lent g at) c.shared.invariant c.args.core c.index_mut.result.now c.retell.new.self (there g at) c.retell.ensures.same c.retell.ensures.together }

pub returns-clause-owed : goal.returns-clause-owed
returns-clause-owed g c =
    let at = (goal.at.returns-clause-owed g c).After-index_mut in
    rw (← c.shared.view_is) (chain_owes (lent g at) _ c.args.core (RetellAs c.args.colour c.args.started c.args.worth c.retell.result) (at_chain (lent g at) c.args.core c.index_mut.result.now c.retell.new.self (RetellAs c.args.colour c.args.started c.args.worth c.retell.result) (there g at) ((c.retell.ensures.answer, c.retell.ensures.told))))
