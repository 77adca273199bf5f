use Rattle.std.proofs.Common.{ap, ◌∙◌, refl, ◌≡◌, Some}
use Rattle.mely_weave.specs.Side.{SideState, shard_of}
use Rattle.mely_weave.specs.Sides.{side_state}
use Rattle.mely_weave.specs.Calls.{FinishAs, IsOut}
use Rattle.std.specs.Prelude.{slice_get}
use Rattle.mely_worker.specs.Access.{IsSpent}
use Rattle.mely_weave.proofs.Entries.SideLemmas.{shard_there, shard_owns, shards_stand, at_shard}
use Rattle.mely_weave.proofs.Entries.CallLemmas.{turn_stands}
use Rattle.mely_weave.proofs.Entries.LentLemmas.{spent_shown}
use Rattle.mely_weave.proofs.side.SideAccess.finish.Goals as goal
use Rattle.mely_weave.proofs.side.SideAccess.finish.Goals.{After-index_mut}

-- the side that was lent
abbrev lent : (g : _) (c : After-index_mut g) → SideState g.row.S.Denot g.row.P.Denot
lent g c = record { setup = c.shared.inside.setup; core = c.args.self.now.core; given = c.shared.inside.given.value; shards = c.shared.inside.shards.items; chains = c.shared.inside.chains.items }

-- all events of the turn were run
spent : (g : _) (c : After-index_mut g) → IsSpent g.S.Trail (λ (s : SideState g.row.S.Denot g.row.P.Denot). s.setup) (λ (s : SideState g.row.S.Denot g.row.P.Denot). g.S.Trail.frame_of s.given) IsOut (lent g c) c.args.turn
spent g c = rw (← c.shared.view_is) at (spent_shown side_state g.S.Trail (λ s. s.setup) (λ s. g.S.Trail.frame_of s.given) IsOut c.args.self.now c.args.turn c.requires.spent)

-- the shard that was reached is that of the turn's colour
is : (g : _) (c : After-index_mut g) → c.shard_of-place.result ≡ shard_of c.shared.inside.setup c.args.turn.colour
is g c = c.shard_of-place.ensures ∙ ap (shard_of c.shared.inside.setup) c.colour.ensures

-- the shard of the colour is there
there : (g : _) (c : After-index_mut g) → slice_get (lent g c).shards (shard_of (lent g c).setup c.args.turn.colour) ≡ Some c.index_mut.result.now
there g c = shard_there g.S.Trail g.S.Fits.fits_under (lent g c) c.shared.invariant c.args.turn.colour c.index_mut.result.now _ (is g c) c.index_mut.ensures.value

pub finish-requires-clause-own : goal.finish-requires-clause-own
finish-requires-clause-own g c =
    let at = (goal.at.finish-requires-clause-own g c).After-index_mut in
    shard_owns g.S.Trail g.S.Fits.fits_under (lent g at) c.shared.invariant c.args.turn.colour c.index_mut.result.now (spent g at).of_setup (there g at)

pub finish-requires-clause-stands : goal.finish-requires-clause-stands
finish-requires-clause-stands g c =
    let at = (goal.at.finish-requires-clause-stands g c).After-index_mut in
    turn_stands g.S.Trail g.S.Fits.fits_under (lent g at) c.shared.invariant c.args.turn.colour c.args.turn c.index_mut.result.now refl (there g at) (spent g at)

pub invariant_of-shared : goal.invariant_of-shared
invariant_of-shared g c =
    let at = (goal.at.invariant_of-shared g c).After-index_mut in
    shards_stand g.S.Trail g.S.Fits.fits_under (lent g at) c.shared.invariant c.args.turn.colour c.index_mut.result.now c.finish.new.self _ (is g at) (there g at) c.finish.ensures.frame c.finish.ensures.kept

pub returns-clause-called : goal.returns-clause-called
returns-clause-called g c =
    let at = (goal.at.returns-clause-called g c).After-index_mut in
    rw (← c.shared.view_is) (at_shard (lent g at) c.args.turn.colour c.index_mut.result.now c.finish.new.self _ (FinishAs c.args.turn c.finish.result) (is g at) (there g at) (c.finish.ensures.home, (turn_stands g.S.Trail g.S.Fits.fits_under (lent g at) c.shared.invariant c.args.turn.colour c.args.turn c.index_mut.result.now refl (there g at) (spent g at)).away, c.finish.ensures.reply))

pub returns-clause-kept : goal.returns-clause-kept
returns-clause-kept g c =
    let at = (goal.at.returns-clause-kept g c).After-index_mut in
    record { same = refl; stand = λ _. shards_stand g.S.Trail g.S.Fits.fits_under (lent g at) c.shared.invariant c.args.turn.colour c.index_mut.result.now c.finish.new.self _ (is g at) (there g at) c.finish.ensures.frame c.finish.ensures.kept }
