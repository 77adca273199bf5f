use Rattle.std.proofs.Common.{◌≡◌, Bool, sym, subst, inr, arith}
use Rattle.std.specs.List.{AllByRecursion}
use Rattle.sws_handlers.specs.Conclusion.{IsConcluded}
use Rattle.sws_weave.proofs.Ends.HasRunLemmas.{has_run}
use Rattle.sws_weave.proofs.Ends.ConcludedLemmas.{rules_are}
use Rattle.sws_weave.proofs.Ends.SeatsOfRunLemmas.{seats_stand, below_bit}
use Rattle.sws_weave.proofs.Model.StepsLemmas.{steps_modelled}
use Rattle.sws_weave.specs.Passed.{TrailsPassed}
use Rattle.sws_weave.proofs.steps.talk_gated.Goals as goal

pub conclude-requires-clause-states : goal.conclude-requires-clause-states
conclude-requires-clause-states g c =
    let many = c.in-Ok-run_apart.ensures.ran.many in
    let same = c.total-total.ensures in
    omega (arith, many, same, below_bit c.args.log)

pub conclude-requires-clause-seats : goal.conclude-requires-clause-seats
conclude-requires-clause-seats g c =
    let ran = c.in-Ok-run_apart.ensures.ran in
    let seats = (seats_stand _ c.args.log c.in-Ok-run_apart.parts.states.items ran.many ran.placed).many in
    let same = c.total-total.ensures in
    omega (arith, seats, same)

pub returns-in-Ok-run_apart-clause-leaves : goal.returns-in-Ok-run_apart-clause-leaves
returns-in-Ok-run_apart-clause-leaves g c =
    let same = c.total-total.ensures in
    let setup = c.setup_of-setup.ensures in
    let made = c.colour_count-colours.ensures in
    let count = setup.colours in
    inr (has_run g.W.World g.W.Link.Link g.T.Talk c.args.shape.now c.setup_of-setup.result (g.T.Talk.contents_of c.args.hall) c.args.world c.args.log c.in-Ok-run_apart.drained c.in-Ok-run_apart.parts c.conclude.result (rules_are c.setup_of-setup.result c.args.shape.now setup.shape setup.rows setup.pinned) (omega (arith, count, made, same)) c.in-Ok-run_apart.ensures.ran.kept c.in-Ok-run_apart.ensures.ran.ends c.in-Ok-run_apart.ensures.fits (subst (λ n. IsConcluded g.T.Talk n c.args.log c.in-Ok-run_apart.drained c.in-Ok-run_apart.parts c.conclude.result) same c.conclude.ensures.concluded) c.conclude.ensures.tell)

pub returns-in-Ok-run_apart-clause-model : goal.returns-in-Ok-run_apart-clause-model
returns-in-Ok-run_apart-clause-model g c =
    let same = c.total-total.ensures in
    let setup = c.setup_of-setup.ensures in
    λ paths tells opened ok.
    steps_modelled g.W.World g.W.Link.Link g.T.Talk c.setup_of-setup.result c.args.world c.args.log c.in-Ok-run_apart.drained c.in-Ok-run_apart.parts c.conclude.result c.in-Ok-run_apart.ensures.ran
    (subst (λ n. IsConcluded g.T.Talk n c.args.log c.in-Ok-run_apart.drained c.in-Ok-run_apart.parts c.conclude.result) same c.conclude.ensures.concluded) ok
    _ c.args.shape.now c.args.schedule.now setup.shape setup.rows setup.pinned c.in-Ok-run_apart.ensures.model paths tells opened

pub returns-in-Ok-run_apart-clause-listed : goal.returns-in-Ok-run_apart-clause-listed
returns-in-Ok-run_apart-clause-listed g c =
    subst (λ histories. AllByRecursion (λ history. history.listed ≡ c.args.listed) histories.items) (sym c.conclude.ensures.concluded.histories)
    (subst (λ (listed : Bool). AllByRecursion (λ history. history.listed ≡ listed) c.in-Ok-run_apart.parts.histories.items) c.setup_of-setup.ensures.listed c.in-Ok-run_apart.ensures.listed)

pub returns-in-Ok-run_apart-clause-passed : goal.returns-in-Ok-run_apart-clause-passed
returns-in-Ok-run_apart-clause-passed g c = subst (TrailsPassed (g.G.Gate.passes c.args.gate.now 0)) (sym c.conclude.ensures.concluded.trails) c.in-Ok-run_apart.ensures.passed
