use Rattle.std.proofs.Common.{◌<◌, List, sym, ap, subst, ◌∙◌}
use Rattle.mely_event.specs.declared.mark.Mark.{Mark}
use Rattle.mely_steal.specs.StealQueue.{StealQueueState}
use Rattle.mely_steal.specs.StealTable.{marks_of}
use Rattle.mely_steal.proofs.StealLemmas.{without-pinned}
use Rattle.mely_steal.proofs.steal_queue.StealQueue.remove.Goals as goal

pub returns-clause-pinned : goal.returns-clause-pinned
returns-clause-pinned c lt =
    let t = c.self.inside.table in
    let Pinned : StealQueueState → Type 0 = λ v. c.args.colour.0 < v.pinned in
    let stays = without-pinned t.pinned c.args.colour (marks_of t.marks t.entries) c.self.invariant.worthy.loose (subst Pinned (sym c.self.view_is) lt) in
    let like : List Mark → StealQueueState = λ xs. record { marks = xs; colours = t.colours; cost = t.cost; pinned = t.pinned } in
    c.remove.ensures.worthy ∙ (ap like stays ∙ c.self.view_is)
