use Rattle.std.proofs.Common.{◌≡◌, ◌<◌, ◌≤◌, ◌↔◌, [], IsNone, IfSome, subst}
use Rattle.mely_event.specs.declared.mark.Mark.{Mark}
use Rattle.mely_steal.specs.StealQueue.{StealQueueState}
use Rattle.mely_steal.specs.StealTable.{marks_of}
use Rattle.mely_steal.proofs.StealLemmas.{pick_of-empty, pick_of-IfSome}
use Rattle.mely_steal.proofs.steal_queue.StealQueue.pick.Goals as goal

pub returns-clause-none : goal.returns-clause-none
returns-clause-none c =
    let t = c.self.inside.table in
    let Empty : StealQueueState → Type 0 = λ v. IsNone c.pick.result ↔ (v.marks ≡ []) in
    subst Empty c.self.view_is (pick_of-empty t.cost (marks_of t.marks t.entries) c.pick.result c.self.invariant.worthy.worthy c.pick.ensures.value)

pub returns-clause-paying : goal.returns-clause-paying
returns-clause-paying c =
    let t = c.self.inside.table in
    let Paying : Mark → Type 0 = λ m. t.cost < m.worth in
    let Mine : StealQueueState → Type 0 = λ v. IfSome c.pick.result (λ m. v.cost < m.worth) in
    subst Mine c.self.view_is (pick_of-IfSome t.cost Paying (marks_of t.marks t.entries) c.pick.result c.self.invariant.worthy.worthy c.pick.ensures.value)

pub returns-clause-unpinned : goal.returns-clause-unpinned
returns-clause-unpinned c =
    let t = c.self.inside.table in
    let Loose : Mark → Type 0 = λ m. t.pinned ≤ m.colour.0 in
    let Mine : StealQueueState → Type 0 = λ v. IfSome c.pick.result (λ m. v.pinned ≤ m.colour.0) in
    subst Mine c.self.view_is (pick_of-IfSome t.cost Loose (marks_of t.marks t.entries) c.pick.result c.self.invariant.worthy.loose c.pick.ensures.value)
