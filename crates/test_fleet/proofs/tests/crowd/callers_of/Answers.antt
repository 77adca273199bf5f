use Rattle.std.proofs.Common.{◌≡◌, ◌+◌, ◌<◌, ◌++◌, ◌∷◌, [], Some, length, ap, ◌∙◌, sym, subst, arith, length-append, append_assoc}
use Rattle.std.specs.Prelude.{slice_get}
use Rattle.std.specs.Vec.Iter.{into_iter_items}
use Rattle.mely_history.specs.Setup.{shape_of}
use Rattle.mely_weave.proofs.Wholes.DealLemmas.{each_push}
use Rattle.mely_weave.specs.Making.{initial_idle_worker}
use Rattle.mely_fleet.proofs.OpeningLemmas.{at_seam}
use Rattle.test_fleet.specs.Callers.{IsCaller}
use Rattle.test_fleet.proofs.RowLemmas.{first_caller, tally_words}
use Rattle.test_fleet.proofs.tests.crowd.callers_of.Goals as goal

pub passes-preserved : goal.passes-preserved
passes-preserved c =
    let at = c.passes.invariant in
    let fleet = c.args.fleet.now in
    let own = c.in-Some.own in
    let worker = c.in_ok-worker.worker in
    let n = length c.passes.yielded in
    let steps : into_iter_items c.passes.own-iterator ≡ own ∷ into_iter_items c.next.new.self = c.in-Some.ensures.steps.0 in
    let longer : length (c.passes.yielded ++ own ∷ []) ≡ length c.passes.yielded + 1 = length-append c.passes.yielded (own ∷ []) in
    let many = at.many in
    let pushed = c.in_ok-push.ensures.items in
    let place : slice_get c.args.passes.items n ≡ Some own = ap (λ l. slice_get l n) (sym at.split) ∙ ap (λ rest. slice_get (c.passes.yielded ++ rest) n) steps ∙ at_seam c.passes.yielded own (into_iter_items c.next.new.self) in
    let numbered = c.number.ensures in
    let of_setup = c.requires.are.of_setup in
    let caller = first_caller tally_words (λ f c e l. Unit {0}) fleet n own worker (c.requires.are.each n own place)
    (λ low. c.in_ok-worker.ensures (subst (λ s. c.number.result < (shape_of s).cores) of_setup (subst (λ k. k < (shape_of fleet.setup).cores) (sym numbered) low))
    ∙ ap (λ s. Some (initial_idle_worker s c.number.result)) (sym of_setup) ∙ ap (λ k. Some (initial_idle_worker fleet.setup k)) numbered) in
    record {
      split = append_assoc c.passes.yielded (own ∷ []) _ ∙ rw (← steps) at.split;
      many = ap length pushed ∙ length-append c.passes.callers.items _ ∙ omega (arith, many, longer);
      each = rw pushed (each_push (λ k one. IsCaller (λ s. tt) (λ f c e l. Unit {0}) fleet k one.passes one.worker) c.passes.callers.items _ n many at.each caller);
    }
