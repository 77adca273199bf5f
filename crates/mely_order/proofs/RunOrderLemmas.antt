-- A stream stays in order over a schedule that is run, and over a drain.
use Rattle.std.proofs.Common.{◌≡◌, ℕ, List, Option, refl, sym, subst}
use Rattle.mely_event.specs.declared.colour.Colour.{Colour}
use Rattle.mely_event.specs.declared.event.Event.{Event}
use Rattle.mely_event.specs.declared.trail.Trail.{Ghosts as TrailWords}
use Rattle.mely_worker.specs.declared.app.App.{Ghosts as AppWords}
use Rattle.mely_worker.specs.declared.made.Made.{Made}
use Rattle.mely_weave.specs.declared.draining.Drained.{Drained}
use Rattle.mely_weave.specs.declared.running.Went.{Went}
use Rattle.mely_weave.specs.Drains.{Drains}
use Rattle.mely_weave.specs.Runs.{StepsWell, RunsTo}
use Rattle.mely_weave.specs.StandsWell.{StandsWell}
use Rattle.mely_weave.specs.Weave.{WeaveState}
use Rattle.mely_weave.specs.WeaveRun.{StepCall}
use Rattle.mely_weave.proofs.Runs.RunLemmas.{well_same}
use Rattle.mely_tally.proofs.CarryingLemmas.{carry_run, carry_drain}
use Rattle.mely_order.specs.InOrder.{InOrder}
use Rattle.mely_order.specs.Stream.{Stream, ServesStream}
use Rattle.mely_order.proofs.OrderLemmas.{served_in_order}
use Rattle.mely_order.proofs.StepLemmas.{step_seen}

module _ {R S P F : Type 0} (t : TrailWords S F) (fits : F → Colour → Event → Option P → Type 0) (y : AppWords R P S F) (app : R) (stream : Stream S P) where
  pub one_step : (before after : WeaveState S P) (core : ℕ) (made : Made) → ServesStream t fits y app (t.frame_of before.given) stream → StandsWell t fits before → StepCall t fits y app core made before after → InOrder stream before → InOrder stream after
  one_step before after core made serves well call was = served_in_order t fits y app stream made before after serves (step_seen t fits y app before after core made well call.steps) was

  module _ (frame : F) (serves : ServesStream t fits y app frame stream) where
    -- the weave has the frame, and the stream is in order
    record Goes (weave : WeaveState S P) : Type 0 where
      pub framed : t.frame_of weave.given ≡ frame
      pub order : InOrder stream weave

    goes_on : (before after : WeaveState S P) (core : ℕ) (made : Made) → StandsWell t fits before → StepsWell t fits y app before core made after → Goes before → Goes after
    goes_on before after core made well step was = record {
      framed = subst (λ (s : S). t.frame_of s ≡ frame) (sym (well_same t fits y app before after core made step).given) was.framed;
      order = one_step before after core made (subst (λ (f : F). ServesStream t fits y app f stream) (sym was.framed) serves) well step.call was.order;
    }

    run_goes : (before after : WeaveState S P) (cores : List ℕ) (went : Went) → StandsWell t fits before → RunsTo t fits y app before cores went after → Goes before → Goes after
    run_goes before after cores went well runs was = (carry_run t fits y app Goes goes_on before after cores went runs (well, was)).1

    drain_goes : (before after : WeaveState S P) (drained : Drained) → StandsWell t fits before → Drains t fits y app before drained after → Goes before → Goes after
    drain_goes before after drained well drains was = (carry_drain t fits y app Goes goes_on before after drained drains (well, was)).1

  pub run_in_order : (before after : WeaveState S P) (cores : List ℕ) (went : Went) → ServesStream t fits y app (t.frame_of before.given) stream → StandsWell t fits before → RunsTo t fits y app before cores went after → InOrder stream before → InOrder stream after
  run_in_order before after cores went serves well runs was = (run_goes (t.frame_of before.given) serves before after cores went well runs (record { framed = refl; order = was })).order

  pub drain_in_order : (before after : WeaveState S P) (drained : Drained) → ServesStream t fits y app (t.frame_of before.given) stream → StandsWell t fits before → Drains t fits y app before drained after → InOrder stream before → InOrder stream after
  drain_in_order before after drained serves well drains was = (drain_goes (t.frame_of before.given) serves before after drained well drains (record { framed = refl; order = was })).order
