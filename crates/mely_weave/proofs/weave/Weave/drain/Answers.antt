use Rattle.std.proofs.Common.{◌∙◌, ap, sym, subst, suc, true≢false, refl}
use Rattle.mely_history.specs.declared.setup.Setup.{Setup}
use Rattle.mely_history.specs.Setup.{shape_of}
use Rattle.mely_weave.specs.Drains.{AreDriven}
use Rattle.mely_weave.specs.Runs.{KeepsSetup}
use Rattle.mely_weave.proofs.Runs.RunLemmas.{serves_on, same_onward}
use Rattle.mely_weave.proofs.Runs.DrainLemmas.{rounds_same, rounds_none, rounds_more, driven_same, quiet_drained, driven_free_all, driven_halted}
use Rattle.mely_weave.proofs.Runs.CallRunsLemmas.{rounds_are_run, runs_on, driven_are_run}
use Rattle.mely_weave.proofs.weave.Weave.drain.Goals as goal

pub loop-init : goal.loop-init
loop-init g c = record { rounds = (0, rounds_none g.S.Trail g.S.Fits.fits_under g.R.App c.args.app.now c.args.self.now); stands = rw (← c.self.view_is) c.self.invariant.0 }

pub drive_all-requires : goal.drive_all-requires
drive_all-requires g c = record { served = serves_on g.S.Trail.frame_of g.R.App c.args.app.now c.args.self.now c.loop.self (rounds_same g.S.Trail g.S.Fits.fits_under g.R.App c.args.app.now c.loop.invariant.rounds.0 c.args.self.now c.loop.self c.loop.invariant.rounds.1) c.requires.served }

pub make_round-requires : goal.make_round-requires
make_round-requires g c = record { served = serves_on g.S.Trail.frame_of g.R.App c.args.app.now c.args.self.now c.loop.self (rounds_same g.S.Trail g.S.Fits.fits_under g.R.App c.args.app.now c.loop.invariant.rounds.0 c.args.self.now c.loop.self c.loop.invariant.rounds.1) c.requires.served }

pub loop-preserved : goal.loop-preserved
loop-preserved g c = record {
  rounds = (suc c.loop.invariant.rounds.0, rounds_more g.S.Trail g.S.Fits.fits_under g.R.App c.args.app.now c.loop.invariant.rounds.0 c.args.self.now c.loop.self c.make_round.new.self c.loop.invariant.rounds.1 c.if-is_any_halted.ensures (λ quiet. absurd (true≢false (sym (c.is_quiet.ensures.1 quiet) ∙ c.if-is_quiet.false))) c.make_round.ensures.round);
  stands = c.make_round.ensures.stands;
}

pub returns-then-is_any_halted-clause-drains : goal.returns-then-is_any_halted-clause-drains
returns-then-is_any_halted-clause-drains g c =
    let same : KeepsSetup c.args.self.now c.loop.self = rounds_same g.S.Trail g.S.Fits.fits_under g.R.App c.args.app.now c.loop.invariant.rounds.0 c.args.self.now c.loop.self c.loop.invariant.rounds.1 in
    let driven : AreDriven g.S.Trail g.S.Fits.fits_under g.R.App c.args.app.now (shape_of c.args.self.now.setup).cores c.loop.self c.drive_all.new.self = subst (λ (setup : Setup). AreDriven g.S.Trail g.S.Fits.fits_under g.R.App c.args.app.now (shape_of setup).cores c.loop.self c.drive_all.new.self) same.setup c.drive_all.ensures.driven in (
      c.loop.invariant.rounds.0,
      c.loop.self,
      c.loop.invariant.rounds.1,
      c.if-is_any_halted.ensures,
      driven,
      driven_halted g.S.Trail g.S.Fits.fits_under g.R.App c.args.app.now (shape_of c.args.self.now.setup).cores c.loop.self c.drive_all.new.self driven c.if-is_any_halted.ensures,
      driven_free_all g.S.Trail g.S.Fits.fits_under g.R.App c.args.app.now (shape_of c.args.self.now.setup).cores c.loop.self c.drive_all.new.self (ap (λ (setup : Setup). (shape_of setup).cores) same.setup) c.drive_all.ensures.stands driven,
    )

pub returns-then-is_quiet-clause-drains : goal.returns-then-is_quiet-clause-drains
returns-then-is_quiet-clause-drains g c = (
  c.loop.invariant.rounds.0,
  c.loop.invariant.rounds.1,
  c.if-is_any_halted.ensures,
  c.if-is_quiet.ensures.0 refl,
  quiet_drained g.S.Trail g.S.Fits.fits_under c.loop.self c.loop.invariant.stands (c.if-is_quiet.ensures.0 refl),
)

pub returns-then-is_any_halted-clause-same : goal.returns-then-is_any_halted-clause-same
returns-then-is_any_halted-clause-same g c = same_onward c.args.self.now c.loop.self c.drive_all.new.self (rounds_same g.S.Trail g.S.Fits.fits_under g.R.App c.args.app.now c.loop.invariant.rounds.0 c.args.self.now c.loop.self c.loop.invariant.rounds.1) (driven_same g.S.Trail g.S.Fits.fits_under g.R.App c.args.app.now (shape_of c.loop.self.setup).cores c.loop.self c.drive_all.new.self c.drive_all.ensures.driven)

pub returns-then-is_quiet-clause-same : goal.returns-then-is_quiet-clause-same
returns-then-is_quiet-clause-same g c = rounds_same g.S.Trail g.S.Fits.fits_under g.R.App c.args.app.now c.loop.invariant.rounds.0 c.args.self.now c.loop.self c.loop.invariant.rounds.1

pub returns-then-is_any_halted-clause-free : goal.returns-then-is_any_halted-clause-free
returns-then-is_any_halted-clause-free g c = driven_free_all g.S.Trail g.S.Fits.fits_under g.R.App c.args.app.now (shape_of c.loop.self.setup).cores c.loop.self c.drive_all.new.self refl c.drive_all.ensures.stands c.drive_all.ensures.driven

pub returns-then-is_quiet-clause-free : goal.returns-then-is_quiet-clause-free
returns-then-is_quiet-clause-free g c = (c.if-is_quiet.ensures.0 refl).free

pub returns-then-is_any_halted-clause-calls : goal.returns-then-is_any_halted-clause-calls
returns-then-is_any_halted-clause-calls g c =
    runs_on g.S.Trail g.S.Fits.fits_under g.R.App c.args.self.now c.loop.self c.drive_all.new.self
    (rounds_are_run g.S.Trail g.S.Fits.fits_under g.R.App c.args.app.now c.loop.invariant.rounds.0 c.args.self.now c.loop.self c.loop.invariant.rounds.1)
    (driven_are_run g.S.Trail g.S.Fits.fits_under g.R.App c.args.app.now (shape_of c.loop.self.setup).cores c.loop.self c.drive_all.new.self c.drive_all.ensures.driven)

pub returns-then-is_quiet-clause-calls : goal.returns-then-is_quiet-clause-calls
returns-then-is_quiet-clause-calls g c = rounds_are_run g.S.Trail g.S.Fits.fits_under g.R.App c.args.app.now c.loop.invariant.rounds.0 c.args.self.now c.loop.self c.loop.invariant.rounds.1
