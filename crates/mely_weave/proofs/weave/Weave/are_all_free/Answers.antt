use Rattle.std.proofs.Common.{◌≡◌, ◌≤◌, subst, length, List, Some, true, refl, arith}
use Rattle.std.proofs.lemmas.Option.{slice_get_read}
use Rattle.std.specs.Prelude.{slice_get}
use Rattle.mely_worker.specs.Phase.{is_free}
use Rattle.mely_worker.specs.Worker.{WorkerState}
use Rattle.mely_weave.proofs.Runs.DrainLemmas.{each_more, each_below}
use Rattle.mely_weave.proofs.weave.Weave.are_all_free.Goals as goal

pub loop-worker-init : goal.loop-worker-init
loop-worker-init g c k w low at = absurd (omega (arith, low))

pub returns-then-not-is_free : goal.returns-then-not-is_free
returns-then-not-is_free g c =
    let there : slice_get c.args.self.now.workers c.loop-worker.worker-index ≡ Some c.worker-item.result = rw (← c.self.view_is)
    (subst (λ (l : List (WorkerState _ _)). slice_get l c.loop-worker.worker-index ≡ Some c.worker-item.result) c.deref-worker-items.ensures.value
    (slice_get_read c.deref-worker-items.result.now (length c.deref-worker-items.result.now) c.loop-worker.worker-index c.worker-item.result refl c.loop-worker-test.true c.worker-item.is)) in
    (λ none. cc, λ all. c.if-not-is_free.ensures.1 (all c.loop-worker.worker-index c.worker-item.result there))

pub loop-worker-preserved : goal.loop-worker-preserved
loop-worker-preserved g c =
    let there : slice_get c.args.self.now.workers c.loop-worker.worker-index ≡ Some c.worker-item.result = rw (← c.self.view_is)
    (subst (λ (l : List (WorkerState _ _)). slice_get l c.loop-worker.worker-index ≡ Some c.worker-item.result) c.deref-worker-items.ensures.value
    (slice_get_read c.deref-worker-items.result.now (length c.deref-worker-items.result.now) c.loop-worker.worker-index c.worker-item.result refl c.loop-worker-test.true c.worker-item.is)) in
    each_more (λ (w : WorkerState _ _). is_free w.phase ≡ true) c.args.self.now.workers c.loop-worker.worker-index c.worker-item.result there (c.if-not-is_free.ensures.0 refl) c.loop-worker.invariant

pub returns : goal.returns
returns g c =
    let all : length c.args.self.now.workers ≤ c.loop-worker.worker-index = rw (← c.self.view_is)
    (subst (λ (l : List (WorkerState _ _)). length l ≤ c.loop-worker.worker-index) c.deref-worker-items.ensures.value c.loop-worker-test.false) in
    (λ yes. each_below (λ (w : WorkerState _ _). is_free w.phase ≡ true) c.args.self.now.workers c.loop-worker.worker-index all c.loop-worker.invariant, λ free. refl)
