use Rattle.std.proofs.Common.{◌≡◌, ◌<◌, Some, Option, None, MatchOption, max, eqb, sym, ap, subst, ◌∙◌}
use Rattle.std.proofs.lemmas.Bool.{cond-true, eq-eqb}
use Rattle.mely_event.specs.declared.mark.Mark.{Mark}
use Rattle.mely_steal.specs.Marks.{mark_of, after_replacement}
use Rattle.mely_steal.specs.StealQueue.{after_mark_change}
use Rattle.mely_steal.proofs.MarkLemmas.{mark_of-same, mark_of-colour}
use Rattle.mely_core.specs.CoreQueue.{CoreQueueState, chain_of, after_report, told_of}
use Rattle.mely_core.proofs.ChainLemmas.{Becomes, marks_by, told-holds}
use Rattle.mely_core.proofs.core_queue.CoreQueue.retell.Goals as goal
use Rattle.mely_core.proofs.core_queue.CoreQueue.retell.Goals.{After-max}

-- the mark that was found is of the colour
found : (c : After-max) → c.in-Some.mark.colour.0 ≡ c.args.colour.0
found c = mark_of-colour c.args.colour c.args.self.now.chain c.in-Some.mark (sym c.in-Some.ensures)

pub change-requires : goal.change-requires
change-requires c =
    let Below : CoreQueueState → Type 0 = λ v. c.in-Some.mark.colour.0 < v.colours in
    subst Below (sym c.self.view_is) (rw (found (goal.at.change-requires c).After-max) c.requires)

-- the mark that the report makes
abbrev told : goal.After-change → Mark
told c = record { colour = c.in-Some.mark.colour; started = c.in-Some.mark.started; worth = c.max.result }

holds : (c : goal.After-change) → c.in-Some.mark.colour.0 ≡ c.args.colour.0
    → Becomes c.self.inside.chain.list c.self.inside.worthy c.self.inside.chain.list c.change.new.self
    (after_replacement (told c) (marks_by c.self.inside.worthy.marks c.self.inside.chain.list)) (after_mark_change c.self.inside.worthy.cost c.self.inside.worthy.pinned (told c) (chain_of c.self.inside.chain.list c.self.inside.worthy).worthy)
holds c same =
    let q = c.self.inside in
    let mark = c.in-Some.mark in
    let Below : CoreQueueState → Type 0 = λ v. mark.colour.0 < v.colours in
    let There : CoreQueueState → Type 0 = λ v. mark_of mark.colour v.chain ≡ Some mark in
    let there : mark_of mark.colour c.args.self.now.chain ≡ Some mark = mark_of-same mark.colour c.args.colour c.args.self.now.chain same ∙ sym c.in-Some.ensures in
    told-holds q.chain.list q.worthy c.change.new.self (told c) mark c.self.invariant.0 (subst Below (sym c.self.view_is) (rw same c.requires)) (subst There (sym c.self.view_is) there) c.change.ensures.marks c.change.ensures.worthy

pub invariant_of-self : goal.invariant_of-self
invariant_of-self c = ((holds c (found (goal.at.invariant_of-self c).After-max)).holds, c.self.invariant.1 ∙ sym c.change.ensures.same.colours)

pub returns-in-Some-clause-told : goal.returns-in-Some-clause-told
returns-in-Some-clause-told c =
    let mark = c.in-Some.mark in
    let now = chain_of c.self.inside.chain.list c.change.new.self in
    let is : told_of c.args.colour c.args.started c.args.worth c.args.self.now.chain ≡ Some (told c) =
    ap (after_report c.args.started c.args.worth) (sym c.in-Some.ensures)
    ∙ (cond-true (eqb mark.started c.args.started) (Some (record mark { worth = max mark.worth c.args.worth })) None (eq-eqb mark.started c.args.started c.if-mark-started.true)
    ∙ ap (λ w. Some (record mark { worth = w })) (sym c.max.ensures)) in
    let Told : CoreQueueState → Type 0 = λ v. now ≡ record v { chain = after_replacement (told c) v.chain; worthy = after_mark_change v.cost v.pinned (told c) v.worthy } in
    let At : Option Mark → Type 0 = λ o. MatchOption o (now ≡ c.args.self.now) (λ m. now ≡ record c.args.self.now { chain = after_replacement m c.args.self.now.chain; worthy = after_mark_change c.args.self.now.cost c.args.self.now.pinned m c.args.self.now.worthy }) in
    subst At (sym is) (subst Told c.self.view_is (holds c (found (goal.at.returns-in-Some-clause-told c).After-max)).is)

pub returns-in-Some-clause-together : goal.returns-in-Some-clause-together
returns-in-Some-clause-together c = (holds c (found (goal.at.returns-in-Some-clause-together c).After-max)).holds
