use Rattle.std.proofs.Common.{◌≡◌, ◌∷◌, [], sym, ap, subst, ◌∙◌}
use Rattle.mely_event.specs.declared.mark.Mark.{Mark}
use Rattle.mely_steal.specs.Marks.{without}
use Rattle.mely_steal.specs.Links.{without_place}
use Rattle.mely_steal.specs.ColourList.{ColourListState}
use Rattle.mely_steal.specs.StealTable.{worthy_of, mark_in}
use Rattle.mely_core.specs.CoreQueue.{CoreQueueState, chain_of}
use Rattle.mely_core.proofs.ChainLemmas.{Becomes, marks_by, front-none, front-holds, leave-holds}
use Rattle.mely_core.proofs.core_queue.CoreQueue.pop.Goals as goal

pub returns-in_err-colour-clause-front : goal.returns-in_err-colour-clause-front
returns-in_err-colour-clause-front c =
    let q = c.self.inside in
    let empty = front-none q.worthy.marks q.chain.list c.first.result c.in_err-colour.was c.first.ensures.value in
    let Empty : CoreQueueState → Type 0 = λ v. v.chain ≡ [] in
    rw c.from_residual.ensures (subst Empty c.self.view_is empty)

-- the list without the colour
listed : (c : goal.After-remove-2) → c.remove.new.self.list ≡ without_place c.in_ok-colour.colour.0 c.self.inside.chain.list
listed c = ap (λ (x : ColourListState). x.list) c.remove.ensures.after

left : (c : goal.After-remove-2) → Becomes c.self.inside.chain.list c.self.inside.worthy c.remove.new.self.list c.remove-2.new.self
    (without c.in_ok-colour.colour (marks_by c.self.inside.worthy.marks c.self.inside.chain.list)) (without c.in_ok-colour.colour (chain_of c.self.inside.chain.list c.self.inside.worthy).worthy)
left c =
    let q = c.self.inside in
    leave-holds q.chain.list c.remove.new.self.list q.worthy c.remove-2.new.self c.in_ok-colour.colour c.self.invariant.0 (listed c) c.remove-2.ensures.marks c.remove-2.ensures.worthy

pub invariant_of-self : goal.invariant_of-self
invariant_of-self c = ((left c).holds, ap (λ (x : ColourListState). x.colours) c.remove.ensures.after ∙ (c.self.invariant.1 ∙ sym c.remove-2.ensures.same.colours))

pub returns-clause-front : goal.returns-clause-front
returns-clause-front c =
    let q = c.self.inside in
    let colour = c.in_ok-colour.colour in
    let front : marks_by q.worthy.marks q.chain.list ≡ mark_in q.worthy.marks colour.0 ∷ marks_by q.worthy.marks (without_place colour.0 q.chain.list) =
    front-holds q.worthy.marks q.chain.list c.first.result colour c.self.invariant.0.apart c.in_ok-colour.was c.first.ensures.value in
    let rest : marks_by q.worthy.marks (without_place colour.0 q.chain.list) ≡ marks_by c.remove-2.new.self.marks c.remove.new.self.list =
    ap (λ t. marks_by t (without_place colour.0 q.chain.list)) (sym c.remove-2.ensures.marks) ∙ ap (marks_by c.remove-2.new.self.marks) (sym (listed c)) in
    let Front : CoreQueueState → Type 0 = λ v. v.chain ≡ c.mark-mark.result ∷ marks_by c.remove-2.new.self.marks c.remove.new.self.list in
    subst Front c.self.view_is
    (front ∙ (ap (λ k. k ∷ marks_by q.worthy.marks (without_place colour.0 q.chain.list)) (sym c.mark-mark.ensures.value) ∙ ap (λ ys. c.mark-mark.result ∷ ys) rest))

pub returns-clause-rest : goal.returns-clause-rest
returns-clause-rest c =
    let q = c.self.inside in
    let colour = c.in_ok-colour.colour in
    let same : colour ≡ c.mark-mark.result.colour = sym (ap (λ (m : Mark). m.colour) c.mark-mark.ensures.value) in
    let w : worthy_of c.remove-2.new.self ≡ record (worthy_of q.worthy) { marks = without c.mark-mark.result.colour (worthy_of q.worthy).marks } =
    c.remove-2.ensures.worthy ∙ ap (λ x. record (worthy_of q.worthy) { marks = without x (worthy_of q.worthy).marks }) same in
    let now = chain_of c.remove.new.self.list c.remove-2.new.self in
    let Rest : CoreQueueState → Type 0 = λ v. now ≡ record v { chain = now.chain; worthy = without c.mark-mark.result.colour v.worthy } in
    subst Rest c.self.view_is (λ i. record { chain = now.chain; worthy = (w i).marks; colours = (w i).colours; cost = (w i).cost; pinned = (w i).pinned })

pub returns-clause-together : goal.returns-clause-together
returns-clause-together c = (left c).holds
