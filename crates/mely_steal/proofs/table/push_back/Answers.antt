use Rattle.std.proofs.Common.{◌≡◌, ◌≢◌, ◌<◌, ◌+◌, ◌++◌, ◌∷◌, [], ℕ, length, arith, refl, sym, ap, ◌∙◌, inl, inr}
use Rattle.mely_steal.specs.Links.{list_at, places_of, IsStrung, MovesOnly}
use Rattle.mely_steal.proofs.TableLemmas.{length-strung, last-strung, strung-push, spares-frame}
use Rattle.mely_steal.proofs.table.push_back.Goals as goal
use Rattle.mely_steal.proofs.table.push_back.Goals.{Start, Else-ends-eq0}

-- a place that is in a list isn't the one that is added
other : (c : Start) (y : ℕ) → 0 < list_at c.args.links.now y → c.args.place ≢ y
other c y pos i = let none : list_at c.args.links.now y ≡ 0 = ap (list_at c.args.links.now) (sym i) ∙ c.requires.free in absurd (omega (arith, none, pos))

-- the last place of a list that isn't empty
its_last : (c : Else-ends-eq0) → (c.args.ends.now.last < length c.args.links.now) × (list_at c.args.links.now c.args.ends.now.last ≡ c.args.list)
its_last c =
    let e = c.args.ends.now in
    last-strung c.args.list c.args.links.now e.first e.last e.len c.if-ends-eq0.false c.requires.strung

pub set_after-requires : goal.set_after-requires
set_after-requires c = rw c.set_link-else-ends-eq0.ensures.moves.long (its_last (goal.at.set_after-requires c).Else-ends-eq0).0

pub overflow_add-ends : goal.overflow_add-ends
overflow_add-ends c =
    let long = length-strung c.args.list c.args.links.now c.args.ends.now c.requires.strung in
    let small = c.requires.small in
    omega arith

pub returns-then-ends-eq0-clause-spares : goal.returns-then-ends-eq0-clause-spares
returns-then-ends-eq0-clause-spares c =
    let s = (goal.at.returns-then-ends-eq0-clause-spares c).Start in
    let set = c.set_link.ensures in
    spares-frame c.args.list c.args.place c.args.list c.args.links.now c.set_link.new.links (inr refl) (inl c.requires.free) set.moves
    (λ y lt pos ne. (set.afters y (other s y pos), set.befores y (other s y pos)))

-- the place is in the list, and no other place changes lists
moved : (c : goal.After-ends-else-ends-eq0-1) → MovesOnly c.args.place c.args.list c.args.links.now c.set_after.new.links
moved c =
    let all = c.set_link-else-ends-eq0.ensures in
    let one = c.set_after.ensures in
    record { long = one.long ∙ all.moves.long; here = one.lists c.args.place ∙ all.moves.here; others = λ y ne. one.lists y ∙ all.moves.others y ne }

pushed : (c : goal.After-ends-else-ends-eq0-1) → (places_of c.set_after.new.links (record { first = c.args.ends.now.first; last = c.args.place; len = c.args.ends.now.len + 1 }) ≡ places_of c.args.links.now c.args.ends.now ++ c.args.place ∷ [])
    × IsStrung c.args.list c.set_after.new.links (record { first = c.args.ends.now.first; last = c.args.place; len = c.args.ends.now.len + 1 })
pushed c =
    let e = c.args.ends.now in
    let all = c.set_link-else-ends-eq0.ensures in
    let one = c.set_after.ensures in
    strung-push c.args.list c.args.links.now c.set_after.new.links e.first e.last e.len c.args.place c.if-ends-eq0.false c.requires.strung c.requires.number c.requires.below c.requires.free (moved c)
    one.here (one.befores c.args.place ∙ all.before) (λ y ne last. one.others y last ∙ all.afters y ne) (λ y ne. one.befores y ∙ all.befores y ne)

pub returns-else-ends-eq0-clause-listed : goal.returns-else-ends-eq0-clause-listed
returns-else-ends-eq0-clause-listed c = (pushed c).0

pub returns-else-ends-eq0-clause-strung : goal.returns-else-ends-eq0-clause-strung
returns-else-ends-eq0-clause-strung c = (pushed c).1

pub returns-else-ends-eq0-clause-spares : goal.returns-else-ends-eq0-clause-spares
returns-else-ends-eq0-clause-spares c =
    let at = goal.at.returns-else-ends-eq0-clause-spares c in
    let L = c.args.links.now in
    let all = c.set_link-else-ends-eq0.ensures in
    let one = c.set_after.ensures in
    spares-frame c.args.list c.args.place c.args.list L c.set_after.new.links (inr refl) (inl c.requires.free)
    (moved c)
    (λ y lt pos ne.
    (one.others y (λ i. ne (ap (list_at L) (sym i) ∙ (its_last at.Else-ends-eq0).1)) ∙ all.afters y (other at.Start y pos), one.befores y ∙ all.befores y (other at.Start y pos)))
