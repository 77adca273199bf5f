use Rattle.std.proofs.Common.{◌≡◌, ◌+◌, ◌-◌, ◌∷◌, length, arith, sym, ap, ◌∙◌}
use Rattle.std.proofs.lemmas.Grind.{common_steps}
use Rattle.mely_queue.proofs.FrontsLemmas.{drop_first, append_first}
use Rattle.mely_queue.proofs.colour_queue.move_front.Goals as goal
use Rattle.mely_queue.proofs.colour_queue.move_front.Goals.{in-Some, in_default}

pub loop-preserved : goal.loop-preserved
loop-preserved g c =
    let n = c.args.count - c.loop.counter in
    let m = c.args.count - (c.loop.counter + 1) in
    let fewer : n ≡ m + 1 = omega arith in
    elim c.match-pop_front.branch [
      | in-Some w ↦
          let split : c.loop.from.items ≡ w.in-Some.item ∷ c.pop_front.new.self.items = w.in-Some.ensures.items in
          let shorter : length c.loop.from.items ≡ length c.pop_front.new.self.items + 1 = ap length split ∙ omega arith in
          record {
            there = omega arith;
            room = rw w.to-is (omega arith);
            moved = rw (w.to-is, w.push_reserved.ensures.items, append_first w.in-Some.item c.loop.to.items c.loop.from.items c.pop_front.new.self.items n m fewer split) c.loop.invariant.moved;
            left = sym (drop_first w.in-Some.item c.loop.from.items c.pop_front.new.self.items n m fewer split) ∙ c.loop.invariant.left;
          }
      | in_default w ↦ let none = w.in_default.ensures.cases in let never : ⊥ = grind (arith, common_steps) in absurd never
    ]
