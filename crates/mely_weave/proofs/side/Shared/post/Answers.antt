use Rattle.std.proofs.Common.{◌≤◌, subst, Ok, Err, arith, ◌≡◌, Some}
use Rattle.mely_weave.specs.Side.{SideState, shard_of}
use Rattle.mely_weave.specs.Calls.{RegisterAs}
use Rattle.mely_worker.specs.Access.{FitsSetup}
use Rattle.mely_weave.proofs.Entries.SideLemmas.{side_stands_by, shard_there, shard_owns, may_register, load_fits, shards_stand, at_shard}
use Rattle.mely_weave.proofs.Entries.CallLemmas.{register_does, answer_of}
use Rattle.mely_history.specs.Setup.{shape_of}
use Rattle.std.specs.Prelude.{slice_set, slice_get}
use Rattle.mely_weave.proofs.side.Shared.post.Goals as goal
use Rattle.mely_weave.proofs.side.Shared.post.Goals.{After-index_mut}

-- the shards and the chains, from the side of the first core
abbrev lent : (g : _) (c : After-index_mut g) → SideState g.row.S.Denot g.row.P.Denot
lent g c = record { setup = c.self.inside.setup; core = 0; given = c.self.inside.given.value; shards = c.self.inside.shards.items; chains = c.self.inside.chains.items }

-- what was registered fits the setup
fit : (g : _) (c : After-index_mut g) → FitsSetup g.S.Fits.fits_under (lent g c).setup (g.S.Trail.frame_of (lent g c).given) (c.args.colour, c.args.event, c.args.load)
fit g c = rw (← c.self.view_is) at c.requires.fits

-- the shard of the colour is there
there : (g : _) (c : After-index_mut g) → slice_get (lent g c).shards (shard_of (lent g c).setup c.args.colour) ≡ Some c.index_mut.result.now
there g c = shard_there g.S.Trail g.S.Fits.fits_under (lent g c) c.self.invariant c.args.colour c.index_mut.result.now _ c.shard_of-place.ensures c.index_mut.ensures.value

pub register-requires-clause-own : goal.register-requires-clause-own
register-requires-clause-own g c =
    let at = (goal.at.register-requires-clause-own g c).After-index_mut in
    shard_owns g.S.Trail g.S.Fits.fits_under (lent g at) c.self.invariant c.args.colour c.index_mut.result.now (fit g at).colour (there g at)

pub register-requires-clause-may : goal.register-requires-clause-may
register-requires-clause-may g c =
    let at = (goal.at.register-requires-clause-may g c).After-index_mut in
    may_register g.S.Trail g.S.Fits.fits_under (lent g at) c.self.invariant c.args.colour c.args.event c.args.load c.index_mut.result.now (fit g at) (there g at)

pub register-requires-clause-fit : goal.register-requires-clause-fit
register-requires-clause-fit g c =
    let at = (goal.at.register-requires-clause-fit g c).After-index_mut in
    load_fits g.S.Trail g.S.Fits.fits_under (lent g at) c.self.invariant c.args.colour c.args.event c.args.load c.index_mut.result.now (fit g at) (there g at)

pub invariant_of-self : goal.invariant_of-self
invariant_of-self g c =
    let at = (goal.at.invariant_of-self g c).After-index_mut in
    shards_stand g.S.Trail g.S.Fits.fits_under (lent g at) c.self.invariant c.args.colour c.index_mut.result.now c.register.new.self _ c.shard_of-place.ensures (there g at) c.in-Ok.ensures.frame c.in-Ok.ensures.kept

pub deliver-requires : goal.deliver-requires
deliver-requires g c =
    let at = (goal.at.deliver-requires g c).After-index_mut in
    let named = answer_of g.S.Trail g.S.Fits.fits_under (lent g at) c.self.invariant c.args.colour c.args.event c.args.load c.index_mut.result.now c.register.new.self (Ok c.in-Ok.reply) (there g at) c.in-Ok.ensures.frame c.in-Ok.ensures.kept c.in-Ok.ensures.reply c.in-Ok.ensures.back in
    record { may = c.after.ensures.may c.self.inside.setup (fit g at).colour named }

pub invariant_of-self-in-Err : goal.invariant_of-self-in-Err
invariant_of-self-in-Err g c =
    let at = (goal.at.invariant_of-self-in-Err g c).After-index_mut in
    shards_stand g.S.Trail g.S.Fits.fits_under (lent g at) c.self.invariant c.args.colour c.index_mut.result.now c.register.new.self _ c.shard_of-place.ensures (there g at) c.in-Err.ensures.frame c.in-Err.ensures.kept

pub returns-in-Ok-clause-posts : goal.returns-in-Ok-clause-posts
returns-in-Ok-clause-posts g c =
    let at = (goal.at.returns-in-Ok-clause-posts g c).After-index_mut in
    rw (← c.self.view_is) (_, at_shard (lent g at) c.args.colour c.index_mut.result.now c.register.new.self _ (RegisterAs c.args.colour c.args.event c.args.load (shape_of c.self.inside.setup).cores (Ok c.in-Ok.reply)) c.shard_of-place.ensures (there g at) (subst (λ n. RegisterAs c.args.colour c.args.event c.args.load n (Ok c.in-Ok.reply) c.index_mut.result.now c.register.new.self) c.cores-by.ensures.value (register_does _ _ _ _ _ _ (Ok c.in-Ok.reply) c.in-Ok.ensures.ok c.in-Ok.ensures.reply c.in-Ok.ensures.err)), (c.deliver.result, rw c.after.ensures.after at c.deliver.ensures.delivers))

pub returns-in-Err-clause-posts : goal.returns-in-Err-clause-posts
returns-in-Err-clause-posts g c =
    let at = (goal.at.returns-in-Err-clause-posts g c).After-index_mut in
    rw (← c.self.view_is) (at_shard (lent g at) c.args.colour c.index_mut.result.now c.register.new.self _ (RegisterAs c.args.colour c.args.event c.args.load (shape_of c.self.inside.setup).cores (Err c.in-Err.refused)) c.shard_of-place.ensures (there g at) c.in-Err.ensures.err)

pub returns-in-Err-clause-stands : goal.returns-in-Err-clause-stands
returns-in-Err-clause-stands g c =
    let at = (goal.at.returns-in-Err-clause-stands g c).After-index_mut in
    let some : 1 ≤ (shape_of (lent g at).setup).cores = (lent g at).setup.cores_in.0 in
    side_stands_by g.S.Trail g.S.Fits.fits_under (record (lent g at) { shards = slice_set (lent g at).shards c.shard_of-place.result c.register.new.self }) (shards_stand g.S.Trail g.S.Fits.fits_under (lent g at) c.self.invariant c.args.colour c.index_mut.result.now c.register.new.self _ c.shard_of-place.ensures (there g at) c.in-Err.ensures.frame c.in-Err.ensures.kept) (omega (arith, some))
