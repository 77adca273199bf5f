use Rattle.mely_weave.proofs.Runs.RunLemmas.{low_on, serves_on}
use Rattle.mely_crew.proofs.SettlingLemmas.{some_none, some_more, some_same}
use Rattle.mely_crew.proofs.settling.take_share.Goals as goal

pub steps-init : goal.steps-init
steps-init g c = some_none g.S.Trail g.S.Fits.fits_under g.A.App c.args.app.now c.args.weave.now

pub step-requires-clause-core : goal.step-requires-clause-core
step-requires-clause-core g c = low_on c.args.weave.now c.steps.weave c.args.core (some_same g.S.Trail g.S.Fits.fits_under g.A.App c.args.app.now c.args.weave.now c.steps.weave c.steps.invariant) c.requires.core

pub step-requires-clause-served : goal.step-requires-clause-served
step-requires-clause-served g c = serves_on g.S.Trail.frame_of g.A.App c.args.app.now c.args.weave.now c.steps.weave (some_same g.S.Trail g.S.Fits.fits_under g.A.App c.args.app.now c.args.weave.now c.steps.weave c.steps.invariant) c.requires.served

pub steps-preserved : goal.steps-preserved
steps-preserved g c = some_more g.S.Trail g.S.Fits.fits_under g.A.App c.args.app.now c.args.weave.now c.steps.weave c.step.new.self c.args.core c.step.result c.steps.invariant (record { call = c.step.ensures.call; accepted = c.step.ensures.accepted; stands = c.step.ensures.stands })

pub returns-in-Finished : goal.returns-in-Finished
returns-in-Finished g c = some_more g.S.Trail g.S.Fits.fits_under g.A.App c.args.app.now c.args.weave.now c.steps.weave c.step.new.self c.args.core c.step.result c.steps.invariant (record { call = c.step.ensures.call; accepted = c.step.ensures.accepted; stands = c.step.ensures.stands })

pub returns-in-NoneHere : goal.returns-in-NoneHere
returns-in-NoneHere g c = some_more g.S.Trail g.S.Fits.fits_under g.A.App c.args.app.now c.args.weave.now c.steps.weave c.step.new.self c.args.core c.step.result c.steps.invariant (record { call = c.step.ensures.call; accepted = c.step.ensures.accepted; stands = c.step.ensures.stands })

pub returns-in-NoneThere : goal.returns-in-NoneThere
returns-in-NoneThere g c = some_more g.S.Trail g.S.Fits.fits_under g.A.App c.args.app.now c.args.weave.now c.steps.weave c.step.new.self c.args.core c.step.result c.steps.invariant (record { call = c.step.ensures.call; accepted = c.step.ensures.accepted; stands = c.step.ensures.stands })

pub returns-in-Memory : goal.returns-in-Memory
returns-in-Memory g c = some_more g.S.Trail g.S.Fits.fits_under g.A.App c.args.app.now c.args.weave.now c.steps.weave c.step.new.self c.args.core c.step.result c.steps.invariant (record { call = c.step.ensures.call; accepted = c.step.ensures.accepted; stands = c.step.ensures.stands })

pub returns-in-Halted : goal.returns-in-Halted
returns-in-Halted g c = some_more g.S.Trail g.S.Fits.fits_under g.A.App c.args.app.now c.args.weave.now c.steps.weave c.step.new.self c.args.core c.step.result c.steps.invariant (record { call = c.step.ensures.call; accepted = c.step.ensures.accepted; stands = c.step.ensures.stands })
