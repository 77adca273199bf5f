use Rattle.std.proofs.Common.{◌≡◌, ◌<◌, None, Some, sym, ap, subst, ◌∙◌}
use Rattle.std.specs.Option.{option_map}
use Rattle.mely_event.specs.declared.colour.Colour.{Colour}
use Rattle.mely_event.specs.declared.mark.Mark.{Mark}
use Rattle.mely_steal.specs.Marks.{without}
use Rattle.mely_steal.specs.StealQueue.{pick_of}
use Rattle.mely_steal.specs.Entering.{ClassesState, entries_without}
use Rattle.mely_steal.specs.StealTable.{StealTableState, mark_in, marks_of, worthy_of}
use Rattle.mely_steal.proofs.StealLemmas.{pick_of-All}
use Rattle.mely_steal.proofs.TableMarksLemmas.{pick-entries, without-entries}
use Rattle.mely_steal.proofs.StealableLemmas.{leave-stealable}
use Rattle.mely_steal.proofs.steal_table.StealTable.pick.Goals as goal
use Rattle.mely_steal.proofs.steal_table.StealTable.pick.Goals.{In_ok-colour}

-- the colour that was found first
abbrev first_colour : In_ok-colour → Colour
first_colour c = record { 0 = c.in_ok-colour.colour }

pub returns-in_err-colour-clause-value : goal.returns-in_err-colour-clause-value
returns-in_err-colour-clause-value c =
    let t = c.self.inside in
    let none : pick_of t.cost (marks_of t.marks t.classes.entries) ≡ None =
    pick-entries t.cost t.marks t.classes.entries c.self.invariant.0.classed ∙ ap (option_map (mark_in t.marks)) (sym c.first_of_highest.ensures.value ∙ c.in_err-colour.was) in
    let Picks : StealTableState → Type 0 = λ v. None ≡ pick_of v.cost (marks_of v.marks v.entries) in
    c.from_residual.ensures ∙ subst Picks c.self.view_is (sym none)

pub of-mark-requires : goal.of-mark-requires
of-mark-requires c = rw (c.self.invariant.1, sym c.self.invariant.2) c.in_ok-colour.ensures.within

pub remove-requires : goal.remove-requires
remove-requires c = c.in_ok-colour.ensures.within

pub invariant_of-self : goal.invariant_of-self
invariant_of-self c =
    let t = c.self.inside in
    rw c.remove.ensures (leave-stealable t.marks t.classes.entries t.colours t.cost t.pinned (first_colour (goal.at.invariant_of-self c).In_ok-colour) c.self.invariant.0, c.self.invariant.1, c.self.invariant.2)

picked : (c : goal.After-remove) → Some c.of-mark.result ≡ pick_of c.self.inside.cost (marks_of c.self.inside.marks c.self.inside.classes.entries)
picked c =
    let t = c.self.inside in
    sym (pick-entries t.cost t.marks t.classes.entries c.self.invariant.0.classed ∙ (ap (option_map (mark_in t.marks)) (sym c.first_of_highest.ensures.value ∙ c.in_ok-colour.was) ∙ ap (λ (m : Mark). Some m) (sym c.of-mark.ensures)))

pub returns-clause-value : goal.returns-clause-value
returns-clause-value c =
    let Picks : StealTableState → Type 0 = λ v. Some c.of-mark.result ≡ pick_of v.cost (marks_of v.marks v.entries) in
    subst Picks c.self.view_is (picked c)

pub returns-clause-colour : goal.returns-clause-colour
returns-clause-colour c =
    let t = c.self.inside in
    let Below : Mark → Type 0 = λ m. m.colour.0 < t.colours in
    let Mine : StealTableState → Type 0 = λ v. c.of-mark.result.colour.0 < v.colours in
    subst Mine c.self.view_is (pick_of-All t.cost Below (marks_of t.marks t.classes.entries) c.of-mark.result c.self.invariant.0.worthy.below (sym (picked c)))

pub returns-clause-worthy : goal.returns-clause-worthy
returns-clause-worthy c =
    let t = c.self.inside in
    let g = c.remove.new.self.entries in
    let colour = first_colour (goal.at.returns-clause-worthy c).In_ok-colour in
    let same : colour ≡ c.of-mark.result.colour = sym (ap (λ (m : Mark). m.colour) c.of-mark.ensures) in
    let is : g ≡ entries_without c.in_ok-colour.colour t.classes.entries = ap (λ (r : ClassesState). r.entries) c.remove.ensures in
    let marks : marks_of t.marks g ≡ without c.of-mark.result.colour (marks_of t.marks t.classes.entries) =
    ap (marks_of t.marks) is ∙ (sym (without-entries t.marks colour t.classes.entries) ∙ ap (λ x. without x (marks_of t.marks t.classes.entries)) same) in
    let Left : StealTableState → Type 0 = λ v. worthy_of (record { marks = t.marks; entries = g; colours = t.colours; cost = t.cost; pinned = t.pinned })
    ≡ record { marks = without c.of-mark.result.colour (marks_of v.marks v.entries); colours = v.colours; cost = v.cost; pinned = v.pinned } in
    subst Left c.self.view_is (λ i. record { marks = marks i; colours = t.colours; cost = t.cost; pinned = t.pinned })

pub returns-clause-stealable : goal.returns-clause-stealable
returns-clause-stealable c = (invariant_of-self c).0
