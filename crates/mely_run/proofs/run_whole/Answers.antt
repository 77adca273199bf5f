use Rattle.std.proofs.Common.{◌≡◌, ◌<◌, ◌∙◌, sym, subst, get_or}
use Rattle.std.specs.List.{AllByRecursion}
use Rattle.mely_history.specs.declared.setup.Setup.{Setup}
use Rattle.mely_history.specs.Setup.{shape_of, is_listed}
use Rattle.mely_history.specs.Kept.{HistoryState}
use Rattle.mely_weave.specs.Runs.{RunsTo}
use Rattle.mely_history.specs.Schedules.{spelled_out}
use Rattle.mely_weave.specs.Drains.{Drains}
use Rattle.mely_weave.specs.declared.running.Went.{Went}
use Rattle.mely_weave.specs.declared.draining.Drained.{Drained}
use Rattle.mely_weave.proofs.Runs.RunLemmas.{same_onward}
use Rattle.mely_run.proofs.Runs.FrameLemmas.{fits_there, serves_there}
use Rattle.mely_run.proofs.run_whole.Goals as goal

pub post-requires : goal.post-requires
post-requires g c = record { fits = fits_there g.S.Trail g.S.Fits.fits_under c.args.setup.now c.args.states.items c.in-Ok.weave c.in-Ok.ensures.first c.in-Ok.ensures.stands c.requires.some (c.args.colour, c.args.event, c.args.load) c.requires.fits }

pub drain-requires : goal.drain-requires
drain-requires g c = record { served = serves_there g.S.Trail g.S.Fits.fits_under c.args.setup.now c.args.states.items c.in-Ok.weave c.in-Ok.ensures.first c.in-Ok.ensures.stands c.requires.some g.R.App c.args.app.now c.post.new.self c.post.ensures.same c.requires.served }

pub run-went-requires-clause-cores : goal.run-went-requires-clause-cores
run-went-requires-clause-cores g c = λ k d low. subst (λ (s : Setup). (get_or c.args.schedule.now k d).0 < (shape_of s).cores) (sym (c.post.ensures.same.setup ∙ c.in-Ok.ensures.first.of_setup)) (c.requires.cores k d low)

pub run-went-requires-clause-served : goal.run-went-requires-clause-served
run-went-requires-clause-served g c = serves_there g.S.Trail g.S.Fits.fits_under c.args.setup.now c.args.states.items c.in-Ok.weave c.in-Ok.ensures.first c.in-Ok.ensures.stands c.requires.some g.R.App c.args.app.now c.post.new.self c.post.ensures.same c.requires.served

pub drain-drained-requires : goal.drain-drained-requires
drain-drained-requires g c = record {
  served = serves_there g.S.Trail g.S.Fits.fits_under c.args.setup.now c.args.states.items c.in-Ok.weave c.in-Ok.ensures.first c.in-Ok.ensures.stands c.requires.some g.R.App c.args.app.now c.run-went.new.self
      (same_onward c.in-Ok.weave c.post.new.self c.run-went.new.self c.post.ensures.same c.run-went.ensures.same) c.requires.served;
}

pub returns-in-All-Empty : goal.returns-in-All-Empty
returns-in-All-Empty g c = record {
  runs = record {
    posted = c.post.new.self;
    end = c.drain-drained.new.self;
    begun = record {
      first = c.in-Ok.weave;
      reply = c.in-Ok-post._reply;
      all = c.requires.states.all;
      made = c.in-Ok.ensures.first;
      well = c.in-Ok.ensures.stands;
      posts = c.in-Ok-post.ensures.call.posts;
      same = c.post.ensures.same;
      well_posted = c.post.ensures.stands;
    };
    out = record {
      ran = c.run-went.new.self;
      runs = subst (λ (w : Went). RunsTo g.S.Trail g.S.Fits.fits_under g.R.App c.args.app.now c.post.new.self (spelled_out c.args.schedule.now) w c.run-went.new.self) c.in-All-Empty.is-0 c.run-went.ensures.runs;
      drains = subst (λ (d : Drained). Drains g.S.Trail g.S.Fits.fits_under g.R.App c.args.app.now c.run-went.new.self d c.drain-drained.new.self) c.in-All-Empty.is-1 c.drain-drained.ensures.drains;
      well = c.drain-drained.ensures.stands;
    };
    told = c.into_parts-parts.ensures.histories;
    states_left = c.into_parts-parts.ensures.states;
  };
  listed = subst (λ (s : Setup). AllByRecursion (λ (history : HistoryState). history.listed ≡ is_listed s) c.into_parts-parts.result.histories.items)
      (c.drain-drained.ensures.same.setup ∙ c.run-went.ensures.same.setup ∙ c.post.ensures.same.setup ∙ c.in-Ok.ensures.first.of_setup) c.into_parts-parts.ensures.listed;
}
