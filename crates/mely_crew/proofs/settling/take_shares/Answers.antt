use Rattle.std.proofs.Common.{arith}
use Rattle.mely_weave.proofs.Runs.RunLemmas.{serves_on}
use Rattle.mely_crew.proofs.SettlingLemmas.{some_none, some_onward, some_same, some_cores}
use Rattle.mely_crew.proofs.settling.take_shares.Goals as goal

pub cores-init : goal.cores-init
cores-init g c = some_none g.S.Trail g.S.Fits.fits_under g.A.App c.args.app.now c.args.weave.now

pub take_share-requires-clause-core : goal.take_share-requires-clause-core
take_share-requires-clause-core g c =
    let all = some_cores g.S.Trail g.S.Fits.fits_under g.A.App c.args.app.now c.args.weave.now c.cores.weave c.args.cores c.cores.invariant c.requires.cores in
    let low = c.cores-test.true in
    omega (arith, all, low)

pub take_share-requires-clause-served : goal.take_share-requires-clause-served
take_share-requires-clause-served g c = serves_on g.S.Trail.frame_of g.A.App c.args.app.now c.args.weave.now c.cores.weave (some_same g.S.Trail g.S.Fits.fits_under g.A.App c.args.app.now c.args.weave.now c.cores.weave c.cores.invariant) c.requires.served

pub cores-preserved : goal.cores-preserved
cores-preserved g c = some_onward g.S.Trail g.S.Fits.fits_under g.A.App c.args.app.now c.args.weave.now c.cores.weave c.take_share.new.weave c.cores.invariant c.take_share.ensures

pub returns-in-Halted : goal.returns-in-Halted
returns-in-Halted g c = some_onward g.S.Trail g.S.Fits.fits_under g.A.App c.args.app.now c.args.weave.now c.cores.weave c.take_share.new.weave c.cores.invariant c.take_share.ensures
