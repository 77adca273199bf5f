use Rattle.std.proofs.Common.{◌≡◌, None, Some, sym, ap, subst, ◌∙◌}
use Rattle.mely_event.specs.declared.mark.Mark.{Mark}
use Rattle.mely_steal.specs.Marks.{mark_of}
use Rattle.mely_core.specs.CoreQueue.{CoreQueueState}
use Rattle.mely_core.proofs.ChainLemmas.{mark_of-in, mark_of-out}
use Rattle.mely_core.proofs.core_queue.CoreQueue.of.Goals as goal

pub returns-then-contains : goal.returns-then-contains
returns-then-contains c =
    let q = c.self.inside in
    let Has : CoreQueueState → Type 0 = λ v. Some c.mark.result ≡ mark_of c.args.colour v.chain in
    subst Has c.self.view_is (ap (λ (m : Mark). Some m) c.mark.ensures.value ∙ sym (mark_of-in q.worthy.marks c.args.colour q.chain.list (sym c.if-contains.ensures.value)))

pub returns-else-contains : goal.returns-else-contains
returns-else-contains c =
    let q = c.self.inside in
    let Has : CoreQueueState → Type 0 = λ v. None ≡ mark_of c.args.colour v.chain in
    subst Has c.self.view_is (sym (mark_of-out q.worthy.marks c.args.colour q.chain.list (sym c.if-contains.ensures.value)))
