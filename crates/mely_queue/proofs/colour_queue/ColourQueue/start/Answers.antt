use Rattle.std.proofs.Common.{refl}
use Rattle.mely_queue.proofs.FrontsLemmas.{kept_after_take}
use Rattle.mely_queue.proofs.colour_queue.ColourQueue.start.Goals as goal

pub invariant_of-self : goal.invariant_of-self
invariant_of-self g c =
    let there = rw (← c.self.view_is) at c.requires.there in
    rw (c.move_front.ensures.left, c.drop_front.ensures.value, c.drop_front.ensures.left)
    (kept_after_take c.self.inside.events.items c.self.inside.weights.items c.self.inside.started c.self.inside.finished c.self.inside.time_left c.args.count c.self.invariant there)

pub returns-clause-rest : goal.returns-clause-rest
returns-clause-rest g c = rw (← c.self.view_is, c.move_front.ensures.left, c.drop_front.ensures.left) refl
