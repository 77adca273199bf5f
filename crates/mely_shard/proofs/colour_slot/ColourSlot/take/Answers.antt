use Rattle.std.proofs.Common.{◌≡◌, length, take, min, sym, ap, ◌∙◌, refl, arith, length-take}
use Rattle.mely_shard.proofs.colour_slot.ColourSlot.take.Goals as goal

pub overflow_cast-self : goal.overflow_cast-self
overflow_cast-self g c =
    let is = c.min-count.ensures in
    let few = c.requires.batch.1 in
    omega (arith, is, few)

pub returns-clause-ok : goal.returns-clause-ok
returns-clause-ok g c =
    let waiting = c.args.self.now.queue.events in
    let first : c.replace-events.result.items ≡ take c.args.batch waiting = ap (λ v. v.items) c.replace-events.ensures.value ∙ c.in_ok-take_into.ensures.first in
    let count : c.min-count.result ≡ min c.args.batch (length waiting) = c.min-count.ensures ∙ ap (min c.args.batch) c.len.ensures.len in
    record {
      home = c.in-Some.state;
      was = sym c.take.ensures.value ∙ c.in-Some.is;
      made = c.new-2.ensures ∙ rw (first, length-take c.args.batch waiting) refl;
      left = rw (c.in_ok-take_into.ensures.rest, c.take.ensures.after, count) refl;
    }
