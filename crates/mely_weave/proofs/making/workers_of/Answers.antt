use Rattle.std.proofs.Common.{◌≡◌, ◌++◌, ◌∷◌, Some, [], length, ap, ◌∙◌, sym, arith, length-append, append_assoc}
use Rattle.std.proofs.lemmas.Option.{none-some}
use Rattle.std.specs.Prelude.{slice_get}
use Rattle.std.specs.Vec.Iter.{into_iter_items}
use Rattle.mely_worker.specs.IdleWorker.{IdleWorkerState, resumed_worker}
use Rattle.mely_weave.specs.Making.{initial_worker}
use Rattle.mely_weave.proofs.Wholes.DealLemmas.{each_push, seam_at}
use Rattle.mely_weave.proofs.making.workers_of.Goals as goal

pub loop-worker-init : goal.loop-worker-init
loop-worker-init g c =
    let is = c.into_iter-worker-iterator.ensures.into_iter_gives in
    let items = is.0 in
    let len = is.1 in
    let ok = c.in_ok-rested.rested.ok.0 in
    let as_many = ap length items in
    let empty = c.in_ok-workers.ensures.items in
    record {
      count = as_many ∙ c.in_ok-rested.ensures.many;
      rests = λ core rest at. c.in_ok-rested.ensures.first core rest (ap (λ xs. slice_get xs core) (sym items) ∙ at);
      left = len ∙ ok ∙ sym as_many;
      room = let none = c.in_ok-workers.ensures.len in let exact = c.in_ok-workers.ensures.exact in let asked = c.len.ensures in omega (arith, none, exact, asked, ok, as_many);
      many = ap length empty;
      first = λ core w at. absurd (none-some w (ap (λ xs. slice_get xs core) (sym empty) ∙ at));
    }

pub loop-worker-preserved : goal.loop-worker-preserved
loop-worker-preserved g c =
    let at = c.loop-worker.invariant in
    let worker = c.in-Some.worker in
    let steps : into_iter_items c.loop-worker.worker-iterator ≡ worker ∷ into_iter_items c.next.new.self = c.in-Some.ensures.steps.0 in
    let short = ap length steps in
    let left = at.left in
    let gone = c.in-Some.ensures.steps.1 in
    let pushed = c.push_reserved.ensures.items in
    let many = at.many in
    let longer = length-append c.loop-worker.yielded (worker ∷ []) in
    let same : (c.loop-worker.yielded ++ worker ∷ []) ++ into_iter_items c.next.new.self ≡ c.loop-worker.yielded ++ into_iter_items c.loop-worker.worker-iterator =
    append_assoc c.loop-worker.yielded (worker ∷ []) _ ∙ ap (λ rest. c.loop-worker.yielded ++ rest) (sym steps) in
    let here : slice_get (c.loop-worker.yielded ++ into_iter_items c.loop-worker.worker-iterator) (length c.loop-worker.yielded) ≡ Some worker =
    ap (λ rest. slice_get (c.loop-worker.yielded ++ rest) (length c.loop-worker.yielded)) steps ∙ seam_at c.loop-worker.yielded worker (into_iter_items c.next.new.self) in
    let first : c.wake.result ≡ initial_worker c.args.setup.now (length c.loop-worker.yielded) = c.wake.ensures ∙ ap (λ (r : IdleWorkerState g.row.P.Denot). resumed_worker r) (at.rests (length c.loop-worker.yielded) worker here) in
    record {
      count = ap length same ∙ at.count;
      rests = λ core rest is. at.rests core rest (ap (λ xs. slice_get xs core) (sym same) ∙ is);
      left = omega (arith, left, short, gone);
      room = let room = at.room in let kept = c.push_reserved.ensures.capacity in let len = c.push_reserved.ensures.len in omega (arith, room, kept, len, short);
      many = ap length pushed ∙ length-append c.loop-worker.workers.items (c.wake.result ∷ []) ∙ omega (arith, many, longer);
      first = rw pushed (each_push (λ core w. w ≡ initial_worker c.args.setup.now core) c.loop-worker.workers.items c.wake.result (length c.loop-worker.yielded) many at.first first);
    }
