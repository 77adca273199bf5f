use Rattle.std.proofs.Common.{◌≡◌, ◌+◌, ◌++◌, ◌∷◌, [], suc, length, ap, ◌∙◌, sym, arith, length-append, append_assoc}
use Rattle.std.proofs.lemmas.List.{reverse-append, reverse-reverse, length-reverse}
use Rattle.std.specs.Prelude.{slice_get, flat_map, reverse}
use Rattle.mely_worker.specs.Worker.{WorkerState}
use Rattle.mely_weave.proofs.parts.collect_lost.Goals as goal
use Rattle.mely_weave.proofs.parts.collect_lost.Goals.{In-Some}

pub loop-worker-init : goal.loop-worker-init
loop-worker-init g c =
    let back : reverse c.reverse.new.self.items ≡ c.args.workers.items = ap reverse c.reverse.ensures.items ∙ reverse-reverse c.args.workers.items in
    let as_many : length c.reverse.new.self.items ≡ length c.args.workers.items = ap length c.reverse.ensures.items ∙ length-reverse c.args.workers.items in
    record {
      free = λ core w at. c.requires.free core w (ap (λ ws. slice_get ws core) (sym back) ∙ at);
      room = rw as_many (let ok = c.args.lost.now.ok.0 in let none = ap length c.requires.empty in let room = c.requires.room in omega (arith, ok, none, room));
      moved = ap (λ xs. xs ++ flat_map (λ w. w.lost) (reverse c.reverse.new.self.items)) c.requires.empty ∙ ap (flat_map (λ (w : WorkerState g.row.S.Denot g.row.P.Denot). w.lost)) back;
    }

-- the worker that is taken is the first that is left
front : (g : _) (c : In-Some g) → reverse c.loop-worker.workers.items ≡ c.in-Some.worker ∷ reverse c.pop.new.self.items
front g c = ap reverse c.in-Some.ensures.items ∙ reverse-append c.pop.new.self.items (c.in-Some.worker ∷ [])

pub into_lost-requires : goal.into_lost-requires
into_lost-requires g c =
    let first = front g (goal.at.into_lost-requires g c).In-Some in
    (c.loop-worker.invariant.free 0 c.in-Some.worker (ap (λ ws. slice_get ws 0) first)).0

pub move_all-requires : goal.move_all-requires
move_all-requires g c =
    let first = front g (goal.at.move_all-requires g c).In-Some in
    let batch = (c.loop-worker.invariant.free 0 c.in-Some.worker (ap (λ ws. slice_get ws 0) first)).1 in
    let as_many : length c.loop-worker.workers.items ≡ length c.pop.new.self.items + 1 = ap length c.in-Some.ensures.items ∙ length-append c.pop.new.self.items (c.in-Some.worker ∷ []) in
    let room = rw as_many at c.loop-worker.invariant.room in
    let few = c.into_lost.ensures.few in
    let value = ap length c.into_lost.ensures.value in
    omega (arith, room, few, value, batch)

pub loop-worker-preserved : goal.loop-worker-preserved
loop-worker-preserved g c =
    let at = c.loop-worker.invariant in
    let worker = c.in-Some.worker in
    let first = front g (goal.at.loop-worker-preserved g c).In-Some in
    let batch = (at.free 0 worker (ap (λ ws. slice_get ws 0) first)).1 in
    let as_many : length c.loop-worker.workers.items ≡ length c.pop.new.self.items + 1 = ap length c.in-Some.ensures.items ∙ length-append c.pop.new.self.items (worker ∷ []) in
    let lost_of = λ (w : WorkerState g.row.S.Denot g.row.P.Denot). w.lost in
    record {
      free = λ core w there. at.free (suc core) w (ap (λ ws. slice_get ws (suc core)) first ∙ there);
      room =
          let room = rw as_many at at.room in
          let few = c.into_lost.ensures.few in
          let value = ap length c.into_lost.ensures.value in
          let kept = c.move_all.ensures.room in
          let len = c.move_all.ensures.len in
          omega (arith, room, few, value, batch, kept, len);
      moved =
          ap (λ xs. xs ++ flat_map lost_of (reverse c.pop.new.self.items)) c.move_all.ensures.items
          ∙ append_assoc c.loop-worker.lost.items c.into_lost.result.items (flat_map lost_of (reverse c.pop.new.self.items))
          ∙ ap (λ xs. c.loop-worker.lost.items ++ (xs ++ flat_map lost_of (reverse c.pop.new.self.items))) c.into_lost.ensures.value
          ∙ ap (λ ws. c.loop-worker.lost.items ++ flat_map lost_of ws) (sym first)
          ∙ at.moved;
    }
