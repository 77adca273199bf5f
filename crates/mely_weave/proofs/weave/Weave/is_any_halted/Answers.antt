use Rattle.std.proofs.Common.{◌≡◌, ◌≤◌, sym, subst, length, List, Some, false, refl, arith}
use Rattle.std.proofs.lemmas.Option.{slice_get_read}
use Rattle.std.specs.Prelude.{slice_get}
use Rattle.mely_worker.specs.Worker.{WorkerState}
use Rattle.mely_weave.proofs.Runs.DrainLemmas.{each_more, each_below}
use Rattle.mely_weave.proofs.weave.Weave.is_any_halted.Goals as goal

pub loop-worker-init : goal.loop-worker-init
loop-worker-init g c k w low at = absurd (omega (arith, low))

pub returns-then-is_halted : goal.returns-then-is_halted
returns-then-is_halted g c =
    let there : slice_get c.args.self.now.workers c.loop-worker.worker-index ≡ Some c.worker-item.result = rw (← c.self.view_is)
    (subst (λ (l : List (WorkerState _ _)). slice_get l c.loop-worker.worker-index ≡ Some c.worker-item.result) c.deref-worker-items.ensures.value
    (slice_get_read c.deref-worker-items.result.now (length c.deref-worker-items.result.now) c.loop-worker.worker-index c.worker-item.result refl c.loop-worker-test.true c.worker-item.is)) in
    record { core = c.loop-worker.worker-index; worker = c.worker-item.result; there = there; halted = sym c.if-is_halted.ensures }

pub loop-worker-preserved : goal.loop-worker-preserved
loop-worker-preserved g c =
    let there : slice_get c.args.self.now.workers c.loop-worker.worker-index ≡ Some c.worker-item.result = rw (← c.self.view_is)
    (subst (λ (l : List (WorkerState _ _)). slice_get l c.loop-worker.worker-index ≡ Some c.worker-item.result) c.deref-worker-items.ensures.value
    (slice_get_read c.deref-worker-items.result.now (length c.deref-worker-items.result.now) c.loop-worker.worker-index c.worker-item.result refl c.loop-worker-test.true c.worker-item.is)) in
    each_more (λ (w : WorkerState _ _). w.halted ≡ false) c.args.self.now.workers c.loop-worker.worker-index c.worker-item.result there (sym c.if-is_halted.ensures) c.loop-worker.invariant

pub returns : goal.returns
returns g c =
    let all : length c.args.self.now.workers ≤ c.loop-worker.worker-index = rw (← c.self.view_is)
    (subst (λ (l : List (WorkerState _ _)). length l ≤ c.loop-worker.worker-index) c.deref-worker-items.ensures.value c.loop-worker-test.false) in
    each_below (λ (w : WorkerState _ _). w.halted ≡ false) c.args.self.now.workers c.loop-worker.worker-index all c.loop-worker.invariant
