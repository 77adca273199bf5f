use Rattle.std.proofs.Common.{◌≡◌, Bool, map, sym, ap, subst, inl, inr, arith}
use Rattle.std.specs.List.{AllByRecursion}
use Rattle.sws_handlers.specs.Conclusion.{IsConcluded}
use Rattle.sws_weave.proofs.Ends.HasRunLemmas.{has_run}
use Rattle.sws_engine.proofs.Ends.ThreadLemmas.{has_run_crew}
use Rattle.sws_weave.proofs.Ends.ConcludedLemmas.{rules_are}
use Rattle.sws_weave.proofs.Ends.SeatsOfRunLemmas.{seats_stand, below_bit}
use Rattle.sws_engine.proofs.Crews.CrewPartsLemmas.{passed_as}
use Rattle.sws_engine.proofs.threads.talk_all.Goals as goal

pub conclude-requires-clause-states : goal.conclude-requires-clause-states
conclude-requires-clause-states g c =
    let many = c.in-Ok-run_threads.ensures.kept.many in
    let same = c.total-total.ensures in
    omega (arith, many, same, below_bit c.args.log)

pub conclude-requires-clause-seats : goal.conclude-requires-clause-seats
conclude-requires-clause-seats g c =
    let kept = c.in-Ok-run_threads.ensures.kept in
    let seats = (seats_stand _ c.args.log c.in-Ok-run_threads.parts.states.items kept.many kept.placed).many in
    let same = c.total-total.ensures in
    omega (arith, seats, same)

pub returns-in-Ok-run_threads-clause-leaves : goal.returns-in-Ok-run_threads-clause-leaves
returns-in-Ok-run_threads-clause-leaves g c =
    let same = c.total-total.ensures in
    let setup = c.setup_of-setup.ensures in
    let made = c.colour_count-colours.ensures in
    let count = setup.colours in
    inr (has_run g.W.World g.W.Link.Link g.T.Talk c.args.shape.now c.setup_of-setup.result _ c.args.world c.args.log c.in-Ok-run_threads.drained c.in-Ok-run_threads.parts c.conclude.result (rules_are c.setup_of-setup.result c.args.shape.now setup.shape setup.rows setup.pinned) (omega (arith, count, made, same)) c.in-Ok-run_threads.ensures.kept c.in-Ok-run_threads.ensures.ends c.in-Ok-run_threads.ensures.fits
    (subst (λ n. IsConcluded g.T.Talk n c.args.log c.in-Ok-run_threads.drained c.in-Ok-run_threads.parts c.conclude.result) same c.conclude.ensures.concluded) c.conclude.ensures.tell)

pub returns-then-shape-eq1-clause-crew : goal.returns-then-shape-eq1-clause-crew
returns-then-shape-eq1-clause-crew g c = λ several. absurd (several c.if-shape-eq1.true)

pub returns-in-Ok-run_threads-clause-crew : goal.returns-in-Ok-run_threads-clause-crew
returns-in-Ok-run_threads-clause-crew g c = λ several.
    let same = c.total-total.ensures in
    let setup = c.setup_of-setup.ensures in
    let made = c.colour_count-colours.ensures in
    let count = setup.colours in
    inr (has_run_crew g.W.World g.W.Link.Link g.T.Talk c.args.shape.now c.setup_of-setup.result _ c.args.world c.args.log c.in-Ok-run_threads.drained c.in-Ok-run_threads.parts c.conclude.result (rules_are c.setup_of-setup.result c.args.shape.now setup.shape setup.rows setup.pinned) (omega (arith, count, made, same)) c.in-Ok-run_threads.ensures.kept c.in-Ok-run_threads.ensures.ends c.in-Ok-run_threads.ensures.fits
    (subst (λ n. IsConcluded g.T.Talk n c.args.log c.in-Ok-run_threads.drained c.in-Ok-run_threads.parts c.conclude.result) same c.conclude.ensures.concluded) c.conclude.ensures.tell c.in-Ok-run_threads.ensures.handled)

pub returns-in-Ok-run_threads-clause-listed : goal.returns-in-Ok-run_threads-clause-listed
returns-in-Ok-run_threads-clause-listed g c =
    subst (λ histories. AllByRecursion (λ history. history.listed ≡ c.args.listed) histories.items) (sym c.conclude.ensures.concluded.histories)
    (subst (λ (listed : Bool). AllByRecursion (λ history. history.listed ≡ listed) c.in-Ok-run_threads.parts.histories.items) c.setup_of-setup.ensures.listed c.in-Ok-run_threads.ensures.listed)

pub returns-then-shape-eq1-clause-gated : goal.returns-then-shape-eq1-clause-gated
returns-then-shape-eq1-clause-gated g c = record {
  alone = λ one. c.talk_gated.ensures.passed;
  several = λ several. absurd (several c.if-shape-eq1.true);
}

pub returns-in-Ok-run_threads-clause-gated : goal.returns-in-Ok-run_threads-clause-gated
returns-in-Ok-run_threads-clause-gated g c = record {
  alone = λ one. absurd (c.if-shape-eq1.false one);
  several = λ several. inr (passed_as _ _ _ _ _ _ _ _ _ _ _ _ _ c.in-Ok-run_threads.ensures.gated (ap (λ histories. map (λ history. history.items) histories.items) c.conclude.ensures.concluded.histories));
}
