use Rattle.std.proofs.Common.{◌≡◌, ◌<◌, List, sym, ap, subst, ◌∙◌}
use Rattle.mely_steal.specs.StealQueue.{after_mark_change}
use Rattle.mely_steal.specs.Entering.{ClassesState, Ranked, moved_to}
use Rattle.mely_steal.specs.StealTable.{StealTableState, AreStealable, marks_of, worthy_of}
use Rattle.mely_steal.proofs.StealableLemmas.{stealing_class, change-stealable}
use Rattle.mely_steal.proofs.steal_table.StealTable.change.Goals as goal

-- what stands once the mark is written
settled : (c : goal.After-move_to) → (marks_of c.set.new.self c.move_to.new.classes.entries ≡ after_mark_change c.self.inside.cost c.self.inside.pinned c.args.mark (marks_of c.self.inside.marks c.self.inside.classes.entries))
    × AreStealable (record { marks = c.set.new.self; entries = c.move_to.new.classes.entries; colours = c.self.inside.colours; cost = c.self.inside.cost; pinned = c.self.inside.pinned })
settled c =
    let t = c.self.inside in
    let m = c.args.mark in
    let Below : StealTableState → Type 0 = λ v. m.colour.0 < v.colours in
    let done = change-stealable t.marks c.set.new.self t.classes.entries t.colours t.cost t.pinned m c.self.invariant.0 c.set.ensures (subst Below (sym c.self.view_is) c.requires) in
    let is : c.move_to.new.classes.entries ≡ moved_to (stealing_class t.cost t.pinned m) m.colour.0 t.classes.entries =
    ap (λ (r : ClassesState). r.entries) c.move_to.ensures ∙ ap (λ k. moved_to k m.colour.0 t.classes.entries) c.stealing_class-class.ensures in
    let Done : List Ranked → Type 0 = λ g. (marks_of c.set.new.self g ≡ after_mark_change t.cost t.pinned m (marks_of t.marks t.classes.entries))
    × AreStealable (record { marks = c.set.new.self; entries = g; colours = t.colours; cost = t.cost; pinned = t.pinned }) in
    subst Done (sym is) done

pub invariant_of-self : goal.invariant_of-self
invariant_of-self c = ((settled c).1, c.set.ensures.long ∙ c.self.invariant.1, ap (λ (r : ClassesState). r.places) c.move_to.ensures ∙ c.self.invariant.2)

pub returns-clause-worthy : goal.returns-clause-worthy
returns-clause-worthy c =
    let t = c.self.inside in
    let Entered : StealTableState → Type 0 = λ v. worthy_of (record { marks = c.set.new.self; entries = c.move_to.new.classes.entries; colours = t.colours; cost = t.cost; pinned = t.pinned })
    ≡ record { marks = after_mark_change v.cost v.pinned c.args.mark (marks_of v.marks v.entries); colours = v.colours; cost = v.cost; pinned = v.pinned } in
    subst Entered c.self.view_is (λ i. record { marks = (settled c).0 i; colours = t.colours; cost = t.cost; pinned = t.pinned })

pub returns-clause-stealable : goal.returns-clause-stealable
returns-clause-stealable c = (settled c).1
