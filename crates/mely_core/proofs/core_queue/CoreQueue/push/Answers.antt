use Rattle.std.proofs.Common.{◌≡◌, ◌<◌, ◌∷◌, ◌++◌, None, [], arith, sym, ap, subst, ◌∙◌}
use Rattle.std.proofs.lemmas.Grind.{common_steps}
use Rattle.mely_steal.specs.Marks.{mark_of}
use Rattle.mely_steal.specs.StealQueue.{after_entry}
use Rattle.mely_steal.specs.ColourList.{ColourListState}
use Rattle.mely_core.specs.CoreQueue.{CoreQueueState, chain_of}
use Rattle.mely_core.proofs.ChainLemmas.{Becomes, marks_by, none-out, push-holds}
use Rattle.mely_core.proofs.core_queue.CoreQueue.push.Goals as goal

pub push-requires-clause-absent : goal.push-requires-clause-absent
push-requires-clause-absent c =
    let q = c.self.inside in
    let none : mark_of c.args.mark.colour (marks_by q.worthy.marks q.chain.list) ≡ None = grind (arith, common_steps) in
    none-out q.worthy.marks c.args.mark.colour q.chain.list none

pushed : (c : goal.After-enter) → Becomes c.self.inside.chain.list c.self.inside.worthy c.push.new.self.list c.enter.new.self
    (marks_by c.self.inside.worthy.marks c.self.inside.chain.list ++ c.args.mark ∷ []) (after_entry c.self.inside.worthy.cost c.self.inside.worthy.pinned c.args.mark (chain_of c.self.inside.chain.list c.self.inside.worthy).worthy)
pushed c =
    let q = c.self.inside in
    let m = c.args.mark in
    let none : mark_of m.colour (marks_by q.worthy.marks q.chain.list) ≡ None = grind (arith, common_steps) in
    let Below : CoreQueueState → Type 0 = λ v. m.colour.0 < v.colours in
    push-holds q.chain.list c.push.new.self.list q.worthy c.enter.new.self m c.self.invariant.0 (ap (λ (x : ColourListState). x.list) c.push.ensures.after)
    (subst Below (sym c.self.view_is) c.requires) none c.enter.ensures.marks c.enter.ensures.worthy

pub invariant_of-self : goal.invariant_of-self
invariant_of-self c = ((pushed c).holds, ap (λ (x : ColourListState). x.colours) c.push.ensures.after ∙ (c.self.invariant.1 ∙ sym c.enter.ensures.same.colours))

pub returns-clause-ok : goal.returns-clause-ok
returns-clause-ok c =
    let m = c.args.mark in
    let Pushed : CoreQueueState → Type 0 = λ v. chain_of c.push.new.self.list c.enter.new.self ≡ record v { chain = v.chain ++ m ∷ []; worthy = after_entry v.cost v.pinned m v.worthy } in
    subst Pushed c.self.view_is (pushed c).is

pub returns-clause-together : goal.returns-clause-together
returns-clause-together c = (pushed c).holds
