use Rattle.std.proofs.Common.{◌≡◌, subst, ℕ, arith}
use Rattle.mely_history.specs.Setup.{shape_of}
use Rattle.mely_weave.specs.Drains.{MakesRound}
use Rattle.mely_weave.proofs.Runs.RunLemmas.{low_on, serves_on}
use Rattle.mely_weave.proofs.Runs.DrainLemmas.{round_none, round_more, round_same}
use Rattle.mely_weave.proofs.weave.Weave.make_round.Goals as goal

pub loop-core-init : goal.loop-core-init
loop-core-init g c = record { round = round_none g.S.Trail g.S.Fits.fits_under g.R.App c.args.app.now c.args.self.now; stands = rw (← c.self.view_is) c.self.invariant.0 }

pub step-requires-clause-core : goal.step-requires-clause-core
step-requires-clause-core g c =
    let cores : c.cores-core-end.result ≡ (shape_of c.args.self.now.setup).cores = rw (← c.self.view_is) (rw (← c.self-inside.view_is) c.cores-core-end.ensures.value) in
    let low = c.loop-core-test.true in
    low_on c.args.self.now c.loop-core.self c.loop-core.core (round_same g.S.Trail g.S.Fits.fits_under g.R.App c.args.app.now c.loop-core.core c.args.self.now c.loop-core.self c.loop-core.invariant.round) (omega (arith, cores, low))

pub step-requires-clause-served : goal.step-requires-clause-served
step-requires-clause-served g c = serves_on g.S.Trail.frame_of g.R.App c.args.app.now c.args.self.now c.loop-core.self (round_same g.S.Trail g.S.Fits.fits_under g.R.App c.args.app.now c.loop-core.core c.args.self.now c.loop-core.self c.loop-core.invariant.round) c.requires.served

pub loop-core-preserved : goal.loop-core-preserved
loop-core-preserved g c = record {
  round = round_more g.S.Trail g.S.Fits.fits_under g.R.App c.args.app.now c.loop-core.core c.args.self.now c.loop-core.self c.step.new.self c.step.result c.loop-core.invariant.round (record { call = c.step.ensures.call; accepted = c.step.ensures.accepted; stands = c.step.ensures.stands });
  stands = c.step.ensures.stands;
}

pub returns-clause-round : goal.returns-clause-round
returns-clause-round g c =
    let cores : c.cores-core-end.result ≡ (shape_of c.args.self.now.setup).cores = rw (← c.self.view_is) (rw (← c.self-inside.view_is) c.cores-core-end.ensures.value) in
    let low = c.loop-core.auto.core-end in
    let high = c.loop-core-test.false in
    let all : c.loop-core.core ≡ (shape_of c.args.self.now.setup).cores = omega (arith, cores, low, high) in
    subst (λ (n : ℕ). MakesRound g.S.Trail g.S.Fits.fits_under g.R.App c.args.app.now n c.args.self.now c.loop-core.self) all c.loop-core.invariant.round

pub returns-clause-stands : goal.returns-clause-stands
returns-clause-stands g c = c.loop-core.invariant.stands
