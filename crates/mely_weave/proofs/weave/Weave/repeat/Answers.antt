use Rattle.std.proofs.Common.{◌≡◌, ◌+◌, sym, subst, replicate, ℕ, arith}
use Rattle.mely_weave.specs.Runs.{RunsTo}
use Rattle.mely_weave.specs.declared.running.Went.TheVariants as went
use Rattle.mely_weave.proofs.Runs.RunLemmas.{run_none, run_same, low_on, serves_on, repeat_more, repeat_stops}
use Rattle.mely_weave.proofs.weave.Weave.repeat.Goals as goal

pub loop-number-init : goal.loop-number-init
loop-number-init g c = record {
  runs = run_none g.S.Trail g.S.Fits.fits_under g.R.App c.args.app.now c.args.self.now;
  stands = rw (← c.self.view_is) c.self.invariant.0;
}

pub step-requires-clause-core : goal.step-requires-clause-core
step-requires-clause-core g c = low_on c.args.self.now c.loop-number.self c.args.core (run_same g.S.Trail g.S.Fits.fits_under g.R.App c.args.app.now c.args.self.now c.loop-number.self _ went.All c.loop-number.invariant.runs) c.requires.core

pub step-requires-clause-served : goal.step-requires-clause-served
step-requires-clause-served g c = serves_on g.S.Trail.frame_of g.R.App c.args.app.now c.args.self.now c.loop-number.self (run_same g.S.Trail g.S.Fits.fits_under g.R.App c.args.app.now c.args.self.now c.loop-number.self _ went.All c.loop-number.invariant.runs) c.requires.served

pub returns-in-Memory-clause-runs : goal.returns-in-Memory-clause-runs
returns-in-Memory-clause-runs g c =
    subst (λ (n : ℕ). RunsTo g.S.Trail g.S.Fits.fits_under g.R.App c.args.app.now c.args.self.now (replicate c.args.count c.args.core) (went.Memory (n + 1)) c.step.new.self) (sym c.from.ensures)
    (repeat_stops g.S.Trail g.S.Fits.fits_under g.R.App c.args.app.now c.args.self.now c.loop-number.self c.step.new.self c.loop-number.number c.args.count c.args.core c.step.result c.in-Memory.is c.loop-number-test.true c.loop-number.invariant.runs
    (record { call = c.step.ensures.call; accepted = c.step.ensures.accepted; stands = c.step.ensures.stands }))

pub loop-number-preserved : goal.loop-number-preserved
loop-number-preserved g c = record {
  runs = repeat_more g.S.Trail g.S.Fits.fits_under g.R.App c.args.app.now c.args.self.now c.loop-number.self c.step.new.self c.loop-number.number c.args.core c.step.result c.in_default.not-Memory c.loop-number.invariant.runs
      (record { call = c.step.ensures.call; accepted = c.step.ensures.accepted; stands = c.step.ensures.stands });
  stands = c.step.ensures.stands;
}

pub returns-clause-runs : goal.returns-clause-runs
returns-clause-runs g c =
    let low = c.loop-number.auto.number-end in
    let high = c.loop-number-test.false in
    let all : c.loop-number.number ≡ c.args.count = omega (arith, low, high) in
    subst (λ (n : ℕ). RunsTo g.S.Trail g.S.Fits.fits_under g.R.App c.args.app.now c.args.self.now (replicate n c.args.core) went.All c.loop-number.self) all c.loop-number.invariant.runs

pub returns-clause-stands : goal.returns-clause-stands
returns-clause-stands g c = c.loop-number.invariant.stands
