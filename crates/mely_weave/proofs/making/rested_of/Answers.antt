use Rattle.std.proofs.Common.{◌≡◌, ◌∷◌, [], length, ap, ◌∙◌, arith, length-append}
use Rattle.mely_weave.specs.Making.{initial_idle_worker}
use Rattle.mely_weave.proofs.Wholes.DealLemmas.{each_push}
use Rattle.mely_weave.proofs.Wholes.MakeLemmas.{rests_first}
use Rattle.mely_weave.proofs.making.rested_of.Goals as goal

pub loop-core-preserved : goal.loop-core-preserved
loop-core-preserved g c =
    let at = c.loop-core.invariant in
    let pushed = c.push_reserved.ensures.items in
    let rest : c.rest.result ≡ initial_idle_worker c.args.setup.now c.loop-core.core = rests_first c.args.setup.now c.loop-core.core c.rest.result c.batch.result c.in_ok-order.order.items c.cores-in-loop-core.result c.group.result (c.rest.ensures ∙ c.in_ok-worker.ensures) c.batch.ensures.value c.in_ok-order.ensures c.cores-in-loop-core.ensures.value c.group.ensures.value in
    record {
      room = let room = at.room in let kept = c.push_reserved.ensures.capacity in omega (arith, room, kept);
      len = let len = at.len in let more = c.push_reserved.ensures.len in omega (arith, len, more);
      many = ap length pushed ∙ length-append c.loop-core.rested.items (c.rest.result ∷ []) ∙ let many = at.many in omega (arith, many);
      first = rw pushed (each_push (λ core r. r ≡ initial_idle_worker c.args.setup.now core) c.loop-core.rested.items c.rest.result c.loop-core.core at.many at.first rest);
    }
