use Rattle.std.proofs.Common.{◌≡◌, arith, ap, sym, subst, ◌∙◌}
use Rattle.mely_history.specs.declared.setup.Setup.{Setup}
use Rattle.mely_history.specs.Setup.{shape_of}
use Rattle.sws_weave.proofs.Runs.LogOrderLemmas.{ordered_as}
use Rattle.sws_weave.proofs.Model.EngineLemmas.{has_run_out}
use Rattle.sws_weave.specs.Passed.{WeavePassed}
use Rattle.sws_weave.proofs.Ends.PassedLemmas.{taken_passed}
use Rattle.sws_weave.proofs.whole.run_whole.Goals as goal

pub run_through-drained-requires-clause-cores : goal.run_through-drained-requires-clause-cores
run_through-drained-requires-clause-cores g c k d low =
    let low_core = c.requires.schedule.cores_in k d low in
    let same = ap (λ (s : Setup). (shape_of s).cores) c.in_ok-weave.ensures.of_setup in
    omega (arith, low_core, same)

pub returns-clause-of_hall : goal.returns-clause-of_hall
returns-clause-of_hall g c = ap (λ s. s.hall) c.run_through-drained.ensures.same.given ∙ c.in_ok-weave.ensures.of_hall (g.T.Talk.contents_of c.args.hall) c.in-Ok.ensures

pub returns-clause-out : goal.returns-clause-out
returns-clause-out g c = λ empty.
    has_run_out g.W.World g.T.Talk _ _ _ _ _ c.args.log c.args.setup.now c.args.world _ _ c.new-app.result c.total-total.result c.in-Ok.states.items c.in_ok-weave.weave _ c.total-total.ensures c.new-app.ensures.total c.new-app.ensures.log c.in-Ok.ensures
    c.in_ok-weave.ensures.begun (c.run_through-drained.ensures.out empty)

pub run_through-drained-requires-clause-ordered : goal.run_through-drained-requires-clause-ordered
run_through-drained-requires-clause-ordered g c = ordered_as g.T.Talk _ _ _ _ c.in_ok-weave.weave (sym c.new-app.ensures.total) (sym c.new-app.ensures.log) c.in_ok-weave.ensures.ordered

pub returns-clause-ordered : goal.returns-clause-ordered
returns-clause-ordered g c = ordered_as g.T.Talk _ _ _ _ c.run_through-drained.new.weave (c.new-app.ensures.total ∙ c.total-total.ensures) c.new-app.ensures.log c.run_through-drained.ensures.ordered

pub returns-clause-passed : goal.returns-clause-passed
returns-clause-passed g c =
    let law = c.what_handlers_put_is_accounted_for.ensures in
    let posted = c.in_ok-weave.ensures.posted in
    let begun = law.post c.new-app.result _ _ _ _ _ _ _ posted.well posted.call (law.first c.new-app.result c.args.setup.now c.in-Ok.states.items posted.first posted.made) in
    subst (λ gate. WeavePassed (g.G.Gate.passes gate 0) c.run_through-drained.new.weave) c.new-app.ensures.gate
    (taken_passed _ _ _ c.new-app.result (g.G.Gate.passes c.new-app.result.gate.now 0) (λ state event load becomes puts ran. ran.1) _ c.run_through-drained.new.weave c.run_through-drained.ensures.free (c.run_through-drained.ensures.accounted _ begun))

pub returns-clause-rests : goal.returns-clause-rests
returns-clause-rests g c = record {
  of_setup = c.run_through-drained.ensures.same.setup ∙ c.in_ok-weave.ensures.of_setup;
  free = c.run_through-drained.ensures.free;
  drained = c.run_through-drained.ensures.drained;
}
