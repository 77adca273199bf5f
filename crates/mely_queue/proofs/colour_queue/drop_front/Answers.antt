use Rattle.std.proofs.Common.{◌≡◌, ◌+◌, ◌-◌, ◌∷◌, length, arith, sym, ap, ◌∙◌}
use Rattle.std.proofs.lemmas.Grind.{common_steps}
use Rattle.mely_queue.proofs.FrontsLemmas.{drop_first, sum_first}
use Rattle.mely_queue.proofs.colour_queue.drop_front.Goals as goal
use Rattle.mely_queue.proofs.colour_queue.drop_front.Goals.{in-Some, in_default}

pub loop-preserved : goal.loop-preserved
loop-preserved c =
    let n = c.args.count - c.loop.counter in
    let m = c.args.count - (c.loop.counter + 1) in
    let fewer : n ≡ m + 1 = omega arith in
    elim c.match-pop_front.branch [
      | in-Some w ↦
          let split : c.loop.from.items ≡ w.in-Some.weight ∷ c.pop_front.new.self.items = w.in-Some.ensures.items in
          let sums = sum_first w.in-Some.weight c.loop.from.items c.pop_front.new.self.items n m fewer split in
          let shorter : length c.loop.from.items ≡ length c.pop_front.new.self.items + 1 = ap length split ∙ omega arith in
          record {
            there = omega arith;
            taken = omega arith;
            left = sym (drop_first w.in-Some.weight c.loop.from.items c.pop_front.new.self.items n m fewer split) ∙ c.loop.invariant.left;
            small = omega arith;
          }
      | in_default w ↦ let none = w.in_default.ensures.cases in let never : ⊥ = grind (arith, common_steps) in absurd never
    ]
