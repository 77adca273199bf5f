use Rattle.std.proofs.Common.{◌≡◌, ◌+◌, sym, subst, replicate, length, take, suc, get_or, List, ℕ, refl, arith}
use Rattle.std.proofs.lemmas.List.{length-replicate, take_all}
use Rattle.mely_weave.specs.Runs.{RunsTo}
use Rattle.mely_history.specs.Schedules.{spelled_out}
use Rattle.mely_weave.specs.declared.running.Went.TheVariants as went
use Rattle.mely_weave.proofs.Runs.RunLemmas.{run_none, run_same, same_onward, low_on, serves_on, parts_more, parts_stop, parts_within, parts_counted, stops_within}
use Rattle.mely_weave.proofs.Runs.CallRunsLemmas.{makes_is_run}
use Rattle.mely_weave.proofs.weave.Weave.run.Goals as goal

pub loop-core-init : goal.loop-core-init
loop-core-init g c = record {
  runs = run_none g.S.Trail g.S.Fits.fits_under g.R.App c.args.app.now c.args.self.now;
  counted = refl;
  stands = rw (← c.self.view_is) c.self.invariant.0;
}

pub repeat-requires-clause-core : goal.repeat-requires-clause-core
repeat-requires-clause-core g c = low_on c.args.self.now c.loop-core.self (get_or c.args.schedule.now c.loop-core.core-index (0, 0)).0 (run_same g.S.Trail g.S.Fits.fits_under g.R.App c.args.app.now c.args.self.now c.loop-core.self _ went.All c.loop-core.invariant.runs) (c.requires.cores c.loop-core.core-index (0, 0) c.loop-core-test.true)

pub repeat-requires-clause-served : goal.repeat-requires-clause-served
repeat-requires-clause-served g c = serves_on g.S.Trail.frame_of g.R.App c.args.app.now c.args.self.now c.loop-core.self (run_same g.S.Trail g.S.Fits.fits_under g.R.App c.args.app.now c.args.self.now c.loop-core.self _ went.All c.loop-core.invariant.runs) c.requires.served

pub overflow_add-made : goal.overflow_add-made
overflow_add-made g c =
    let within = parts_within c.args.schedule.now c.loop-core.core-index (0, 0) c.loop-core-test.true in
    let few = c.requires.count in
    let made = c.loop-core.invariant.counted in
    let more = c.from-made.ensures in
    record { fits = omega (arith, within, few, made, more) }

pub overflow_add-result : goal.overflow_add-result
overflow_add-result g c =
    let within = parts_within c.args.schedule.now c.loop-core.core-index (0, 0) c.loop-core-test.true in
    let few = c.requires.count in
    let made = c.loop-core.invariant.counted in
    let part = get_or c.args.schedule.now c.loop-core.core-index (0, 0) in
    let stops = stops_within g.S.Trail g.S.Fits.fits_under g.R.App c.args.app.now c.loop-core.self c.repeat.new.self (replicate part.1 part.0) c.in-Memory.steps c.in-Memory.ensures.runs in
    let own = length-replicate part.1 part.0 in
    record { fits = omega (arith, within, few, made, stops, own) }

pub returns-in-Memory-clause-runs : goal.returns-in-Memory-clause-runs
returns-in-Memory-clause-runs g c =
    subst (λ (n : ℕ). RunsTo g.S.Trail g.S.Fits.fits_under g.R.App c.args.app.now c.args.self.now (spelled_out c.args.schedule.now) (went.Memory (n + c.in-Memory.steps)) c.repeat.new.self) (sym c.loop-core.invariant.counted)
    (parts_stop g.S.Trail g.S.Fits.fits_under g.R.App c.args.app.now c.args.self.now c.loop-core.self c.repeat.new.self c.args.schedule.now c.loop-core.core-index (0, 0) c.in-Memory.steps c.loop-core-test.true c.loop-core.invariant.runs c.in-Memory.ensures.runs)

pub loop-core-preserved : goal.loop-core-preserved
loop-core-preserved g c =
    let next : suc c.loop-core.core-index ≡ c.loop-core.core-index + 1 = omega arith in record {
      runs = subst (λ (n : ℕ). RunsTo g.S.Trail g.S.Fits.fits_under g.R.App c.args.app.now c.args.self.now (spelled_out (take n c.args.schedule.now)) went.All c.repeat.new.self) next
          (parts_more g.S.Trail g.S.Fits.fits_under g.R.App c.args.app.now c.args.self.now c.loop-core.self c.repeat.new.self c.args.schedule.now c.loop-core.core-index (0, 0) c.loop-core-test.true c.loop-core.invariant.runs c.in-All.ensures.runs);
      counted = (
          let made = c.loop-core.invariant.counted in
          let more = c.from-made.ensures in
          let counted = parts_counted c.args.schedule.now c.loop-core.core-index (0, 0) c.loop-core-test.true in
          subst (λ (n : ℕ). c.loop-core.made + c.from-made.result ≡ length (spelled_out (take n c.args.schedule.now))) next (omega (arith, made, more, counted)));
      stands = c.repeat.ensures.stands;
    }

pub returns-clause-runs : goal.returns-clause-runs
returns-clause-runs g c =
    let all : take c.loop-core.core-index c.args.schedule.now ≡ c.args.schedule.now = take_all c.loop-core.core-index c.args.schedule.now c.loop-core-test.false in
    subst (λ (l : List (ℕ × ℕ)). RunsTo g.S.Trail g.S.Fits.fits_under g.R.App c.args.app.now c.args.self.now (spelled_out l) went.All c.loop-core.self) all c.loop-core.invariant.runs

pub returns-clause-stands : goal.returns-clause-stands
returns-clause-stands g c = c.loop-core.invariant.stands

pub returns-in-Memory-clause-same : goal.returns-in-Memory-clause-same
returns-in-Memory-clause-same g c = same_onward c.args.self.now c.loop-core.self c.repeat.new.self (run_same g.S.Trail g.S.Fits.fits_under g.R.App c.args.app.now c.args.self.now c.loop-core.self _ went.All c.loop-core.invariant.runs) (run_same g.S.Trail g.S.Fits.fits_under g.R.App c.args.app.now c.loop-core.self c.repeat.new.self _ c.repeat.result c.repeat.ensures.runs)

pub returns-clause-same : goal.returns-clause-same
returns-clause-same g c = run_same g.S.Trail g.S.Fits.fits_under g.R.App c.args.app.now c.args.self.now c.loop-core.self _ went.All c.loop-core.invariant.runs

pub returns-in-Memory-clause-calls : goal.returns-in-Memory-clause-calls
returns-in-Memory-clause-calls g c =
    let runs = parts_stop g.S.Trail g.S.Fits.fits_under g.R.App c.args.app.now c.args.self.now c.loop-core.self c.repeat.new.self c.args.schedule.now c.loop-core.core-index (0, 0) c.in-Memory.steps c.loop-core-test.true c.loop-core.invariant.runs c.in-Memory.ensures.runs in
    makes_is_run g.S.Trail g.S.Fits.fits_under g.R.App c.args.app.now runs.steps c.args.self.now c.repeat.new.self runs.makes

pub returns-clause-calls : goal.returns-clause-calls
returns-clause-calls g c = makes_is_run g.S.Trail g.S.Fits.fits_under g.R.App c.args.app.now c.loop-core.invariant.runs.steps c.args.self.now c.loop-core.self c.loop-core.invariant.runs.makes
