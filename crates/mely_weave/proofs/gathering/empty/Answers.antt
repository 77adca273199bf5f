use Rattle.std.proofs.Common.{◌∙◌, ap}
use Rattle.mely_core.specs.CoreQueue.{CoreQueueState}
use Rattle.mely_weave.proofs.Marks.ReadyMarksLemmas.{emptied}
use Rattle.mely_weave.proofs.gathering.empty.Goals as goal

pub returns-clause-empty : goal.returns-clause-empty
returns-clause-empty c =
    let none = c.in_default.ensures in
    emptied c.pop.new.self c.args.chain.now.colours c.args.chain.now.cost c.args.chain.now.pinned c.pop.ensures.together (ap (λ (q : CoreQueueState). q.chain) none.rest ∙ none.front) (none.same.colours ∙ c.loop.invariant.colours) (none.same.cost ∙ c.loop.invariant.cost) (none.same.pinned ∙ c.loop.invariant.pinned)
