use Rattle.std.proofs.Common.{◌≡◌, sym, ap, subst, ◌∙◌}
use Rattle.mely_steal.specs.Marks.{without}
use Rattle.mely_steal.specs.Entering.{ClassesState, entries_without}
use Rattle.mely_steal.specs.StealTable.{StealTableState, marks_of, worthy_of}
use Rattle.mely_steal.proofs.TableMarksLemmas.{without-entries}
use Rattle.mely_steal.proofs.StealableLemmas.{leave-stealable}
use Rattle.mely_steal.proofs.steal_table.StealTable.remove.Goals as goal

pub invariant_of-self : goal.invariant_of-self
invariant_of-self c =
    let t = c.self.inside in
    rw c.remove.ensures (leave-stealable t.marks t.classes.entries t.colours t.cost t.pinned c.args.colour c.self.invariant.0, c.self.invariant.1, c.self.invariant.2)

pub returns-clause-worthy : goal.returns-clause-worthy
returns-clause-worthy c =
    let t = c.self.inside in
    let g = c.remove.new.self.entries in
    let is : g ≡ entries_without c.args.colour.0 t.classes.entries = ap (λ (r : ClassesState). r.entries) c.remove.ensures in
    let marks : marks_of t.marks g ≡ without c.args.colour (marks_of t.marks t.classes.entries) = ap (marks_of t.marks) is ∙ sym (without-entries t.marks c.args.colour t.classes.entries) in
    let Left : StealTableState → Type 0 = λ v. worthy_of (record { marks = t.marks; entries = g; colours = t.colours; cost = t.cost; pinned = t.pinned })
    ≡ record { marks = without c.args.colour (marks_of v.marks v.entries); colours = v.colours; cost = v.cost; pinned = v.pinned } in
    subst Left c.self.view_is (λ i. record { marks = marks i; colours = t.colours; cost = t.cost; pinned = t.pinned })

pub returns-clause-stealable : goal.returns-clause-stealable
returns-clause-stealable c = (invariant_of-self c).0
