use Rattle.std.proofs.Common.{rules}
use Rattle.mely_worker.specs.declared.phase.Phase.TheVariants.{Turning}
use Rattle.mely_worker.specs.declared.delivery.Delivery.TheVariants.{Nothing}
use Rattle.mely_worker.specs.WorkerFields.{worker_of}
use Rattle.mely_worker.proofs.StepLemmas.{stands_after_run}
use Rattle.mely_worker.proofs.turning.run_next.Goals as goal

pub returns : goal.returns
returns g c =
    let may = stands_after_run g.S.Trail g.S.Fits.fits_under g.A.Access c.args.access.now g.R.App c.args.app.now (worker_of c.args.fields.now (Turning c.args.turn.now Nothing c.args.outs.now)) c.args.turn.now c.next.new.self (c.in-Some.event, c.in-Some.load) c.state.result.now c.run.new.state c.args.outs.now c.run.new.outs c.requires.on.served c.requires.on.may c.in-Some.ensures.next c.next.ensures.rest c.state.ensures.value c.run.ensures.colour c.run.ensures.frame c.run.ensures.trail c.run.ensures.puts in
    search (rules, may)
