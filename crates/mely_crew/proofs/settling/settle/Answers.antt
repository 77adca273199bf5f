use Rattle.mely_weave.proofs.Runs.RunLemmas.{serves_on}
use Rattle.mely_crew.proofs.SettlingLemmas.{some_none, some_onward, some_same, some_cores}
use Rattle.mely_crew.proofs.settling.settle.Goals as goal

pub rounds-init : goal.rounds-init
rounds-init g c = some_none g.S.Trail g.S.Fits.fits_under g.A.App c.args.app.now c.args.weave.now

pub take_shares-requires-clause-cores : goal.take_shares-requires-clause-cores
take_shares-requires-clause-cores g c = some_cores g.S.Trail g.S.Fits.fits_under g.A.App c.args.app.now c.args.weave.now c.rounds.weave c.args.cores c.rounds.invariant c.requires.cores

pub take_shares-requires-clause-served : goal.take_shares-requires-clause-served
take_shares-requires-clause-served g c = serves_on g.S.Trail.frame_of g.A.App c.args.app.now c.args.weave.now c.rounds.weave (some_same g.S.Trail g.S.Fits.fits_under g.A.App c.args.app.now c.args.weave.now c.rounds.weave c.rounds.invariant) c.requires.served

pub rounds-preserved-in-Turn : goal.rounds-preserved-in-Turn
rounds-preserved-in-Turn g c = some_onward g.S.Trail g.S.Fits.fits_under g.A.App c.args.app.now c.args.weave.now c.rounds.weave c.take_shares.new.weave c.rounds.invariant c.take_shares.ensures

pub rounds-preserved : goal.rounds-preserved
rounds-preserved g c = some_onward g.S.Trail g.S.Fits.fits_under g.A.App c.args.app.now c.args.weave.now c.rounds.weave c.take_shares.new.weave c.rounds.invariant c.take_shares.ensures

pub returns-in-Halted : goal.returns-in-Halted
returns-in-Halted g c = some_onward g.S.Trail g.S.Fits.fits_under g.A.App c.args.app.now c.args.weave.now c.rounds.weave c.take_shares.new.weave c.rounds.invariant c.take_shares.ensures
