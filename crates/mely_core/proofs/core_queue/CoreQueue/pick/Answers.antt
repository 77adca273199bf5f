use Rattle.std.proofs.Common.{◌≡◌, ◌<◌, ◌≤◌, Some, All, refl, sym, ap, subst, ◌∙◌}
use Rattle.std.proofs.lemmas.Bool.{true≢false}
use Rattle.mely_steal.specs.Marks.{mark_of, without}
use Rattle.mely_steal.specs.ColourList.{ColourListState}
use Rattle.mely_steal.proofs.StealLemmas.{pick_of-none}
use Rattle.mely_core.specs.CoreQueue.{CoreQueueState, chain_of}
use Rattle.mely_core.proofs.ChainLemmas.{Becomes, marks_by, leave-holds, picked-there, none-worthy, no-pick}
use Rattle.mely_core.proofs.core_queue.CoreQueue.pick.Goals as goal

-- no mark of the chain may be stolen
abbrev IsIdle : CoreQueueState → Type 0
IsIdle v = All (λ m. v.pinned ≤ m.colour.0 → m.worth ≤ v.cost) v.chain

pub returns-in_err-picked-clause-none : goal.returns-in_err-picked-clause-none
returns-in_err-picked-clause-none c =
    let q = c.self.inside in
    let held = c.self.invariant.0 in
    let worthy = (chain_of q.chain.list q.worthy).worthy in
    let idle = none-worthy q.worthy.cost q.worthy.pinned (marks_by q.worthy.marks q.chain.list) worthy held.same held.apart (pick_of-none q.worthy.cost worthy held.worthy.worthy (sym c.in_err-picked.ensures.value)) in
    rw c.from_residual.ensures (λ _. subst IsIdle c.self.view_is idle, λ _. refl)

left : (c : goal.After-remove) → Becomes c.self.inside.chain.list c.self.inside.worthy c.remove.new.self.list c.pick.new.self
    (without c.in_ok-picked.picked.colour (marks_by c.self.inside.worthy.marks c.self.inside.chain.list)) (without c.in_ok-picked.picked.colour (chain_of c.self.inside.chain.list c.self.inside.worthy).worthy)
left c =
    let q = c.self.inside in
    leave-holds q.chain.list c.remove.new.self.list q.worthy c.pick.new.self c.in_ok-picked.picked.colour c.self.invariant.0 (ap (λ (x : ColourListState). x.list) c.remove.ensures.after) c.in_ok-picked.ensures.marks c.in_ok-picked.ensures.worthy

pub invariant_of-self-2 : goal.invariant_of-self-2
invariant_of-self-2 c = ((left c).holds, ap (λ (x : ColourListState). x.colours) c.remove.ensures.after ∙ (c.self.invariant.1 ∙ sym c.in_ok-picked.ensures.same.colours))

pub returns-clause-none : goal.returns-clause-none
returns-clause-none c =
    let q = c.self.inside in
    let held = c.self.invariant.0 in (
      λ never. absurd (true≢false never),
      λ all. absurd (no-pick q.worthy.cost q.worthy.pinned (marks_by q.worthy.marks q.chain.list) (chain_of q.chain.list q.worthy).worthy c.in_ok-picked.picked held.same held.worthy.apart (subst IsIdle (sym c.self.view_is) all) (sym c.in_ok-picked.ensures.value)),
    )

there : (c : goal.After-remove) → (mark_of c.in_ok-picked.picked.colour (marks_by c.self.inside.worthy.marks c.self.inside.chain.list) ≡ Some c.in_ok-picked.picked) × (c.self.inside.worthy.cost < c.in_ok-picked.picked.worth) × (c.self.inside.worthy.pinned ≤ c.in_ok-picked.picked.colour.0)
there c =
    let q = c.self.inside in
    let held = c.self.invariant.0 in
    picked-there q.worthy.cost q.worthy.pinned (marks_by q.worthy.marks q.chain.list) (chain_of q.chain.list q.worthy).worthy c.in_ok-picked.picked held.same held.worthy.apart (sym c.in_ok-picked.ensures.value)

pub returns-clause-chained : goal.returns-clause-chained
returns-clause-chained c =
    let mark = c.in_ok-picked.picked in
    let Chained : CoreQueueState → Type 0 = λ v. mark_of mark.colour v.chain ≡ Some mark in
    subst Chained c.self.view_is (there c).0

pub returns-clause-paying : goal.returns-clause-paying
returns-clause-paying c = let Paying : CoreQueueState → Type 0 = λ v. v.cost < c.in_ok-picked.picked.worth in subst Paying c.self.view_is (there c).1

pub returns-clause-unpinned : goal.returns-clause-unpinned
returns-clause-unpinned c = let Loose : CoreQueueState → Type 0 = λ v. v.pinned ≤ c.in_ok-picked.picked.colour.0 in subst Loose c.self.view_is (there c).2

pub returns-clause-rest : goal.returns-clause-rest
returns-clause-rest c =
    let colour = c.in_ok-picked.picked.colour in
    let Left : CoreQueueState → Type 0 = λ v. chain_of c.remove.new.self.list c.pick.new.self ≡ record v { chain = without colour v.chain; worthy = without colour v.worthy } in
    subst Left c.self.view_is (left c).is

pub returns-clause-together : goal.returns-clause-together
returns-clause-together c = (left c).holds
