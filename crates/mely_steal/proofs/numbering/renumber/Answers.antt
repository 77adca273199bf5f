use Rattle.std.proofs.Common.{◌<◌, ◌≤◌, arith, ◌∙◌}
use Rattle.mely_steal.specs.Entering.{HasNumbers, KeepsEntries, StandInOrder, ends_at, entries_of}
use Rattle.mely_steal.proofs.RenumberLemmas.{renumbering-start, renumbering-step, renumbering-end, renumbering-small, first-within, three-numbered, IsOldest, oldest-of, decided}
use Rattle.mely_steal.proofs.numbering.renumber.Goals as goal
use Rattle.mely_steal.proofs.numbering.renumber.Goals.{At-colours, After-older-oldest, Then-list-eq0}

pub colours-init : goal.colours-init
colours-init c = renumbering-start c.args.links.now c.args.ends.now c.args.numbers.now c.args.next c.requires.stand

-- the first place of each list that isn't empty has a number
numbered : (c : At-colours) → HasNumbers c.colours.left c.colours.numbers
numbered c =
    three-numbered c.args.links.now c.colours.left c.args.numbers.now c.colours.numbers (entries_of c.args.links.now c.args.ends.now c.args.numbers.now) c.colours.number c.colours.invariant
    (c.colours.auto.numbers ∙ c.requires.stand.numbered)

-- the lists have no more places than three lists may
small : (c : At-colours) → c.colours.number ≤ 196608
small c = renumbering-small c.args.links.now c.args.ends.now c.colours.left c.args.numbers.now c.colours.numbers c.args.next c.colours.number c.requires.stand c.colours.invariant

-- which list was found: where any isn't empty it isn't, and its first place has the smallest number
oldest : (c : After-older-oldest) → (c.older-oldest.result < 3)
    × IsOldest c.colours.left c.colours.numbers c.older-oldest.result
oldest c = oldest-of c.colours.left c.colours.numbers c.older.result c.older-oldest.result c.older.ensures c.older-oldest.ensures

pub older-requires-clause-numbered : goal.older-requires-clause-numbered
older-requires-clause-numbered c = numbered (goal.at.older-requires-clause-numbered c).At-colours

pub older-oldest-requires-clause-numbered : goal.older-oldest-requires-clause-numbered
older-oldest-requires-clause-numbered c = numbered (goal.at.older-oldest-requires-clause-numbered c).At-colours

-- what stands where the list that was found is empty, so that all are
ended : (c : Then-list-eq0) → IsOldest c.colours.left c.colours.numbers c.older-oldest.result
    → KeepsEntries c.args.links.now c.args.ends.now c.args.numbers.now c.colours.numbers × StandInOrder c.args.links.now c.args.ends.now c.colours.numbers c.colours.number
ended c first =
    renumbering-end c.args.links.now c.args.ends.now c.colours.left c.args.numbers.now c.colours.numbers c.args.next c.colours.number c.requires.stand c.colours.invariant
    (c.colours.auto.numbers ∙ c.requires.stand.numbered)
    (λ j lt. decided (ends_at c.colours.left j).len (λ ne. (first j lt ne).0 c.if-list-eq0.true))

pub returns-then-list-eq0-clause-stand : goal.returns-then-list-eq0-clause-stand
returns-then-list-eq0-clause-stand c = let at = goal.at.returns-then-list-eq0-clause-stand c in (ended at.Then-list-eq0 (oldest at.After-older-oldest).1).1

pub returns-then-list-eq0-clause-same : goal.returns-then-list-eq0-clause-same
returns-then-list-eq0-clause-same c = let at = goal.at.returns-then-list-eq0-clause-same c in (ended at.Then-list-eq0 (oldest at.After-older-oldest).1).0

pub returns-then-list-eq0-clause-room : goal.returns-then-list-eq0-clause-room
returns-then-list-eq0-clause-room c = omega (arith, small (goal.at.returns-then-list-eq0-clause-room c).At-colours)

pub bounds-numbers-colour : goal.bounds-numbers-colour
bounds-numbers-colour c =
    let many = c.colours.array_long in
    numbered (goal.at.bounds-numbers-colour c).At-colours c.older-oldest.result (omega (arith, many, (oldest (goal.at.bounds-numbers-colour c).After-older-oldest).0)) c.if-list-eq0.false

pub bounds-links-colour : goal.bounds-links-colour
bounds-links-colour c =
    first-within c.args.links.now c.colours.left c.args.numbers.now c.colours.numbers (entries_of c.args.links.now c.args.ends.now c.args.numbers.now) c.colours.number c.older-oldest.result c.colours.invariant
    (oldest (goal.at.bounds-links-colour c).After-older-oldest).0 c.if-list-eq0.false

pub overflow_add-number : goal.overflow_add-number
overflow_add-number c = omega (arith, small (goal.at.overflow_add-number c).At-colours)

pub colours-preserved : goal.colours-preserved
colours-preserved c =
    let stand = c.requires.stand in
    let found = oldest (goal.at.colours-preserved c).After-older-oldest in
    renumbering-step c.args.links.now c.colours.left c.args.numbers.now c.colours.numbers (entries_of c.args.links.now c.args.ends.now c.args.numbers.now) c.colours.number c.older-oldest.result c.colours.invariant
    stand.merge.ascending stand.merge.classed (c.colours.auto.numbers ∙ stand.numbered) found.0 c.if-list-eq0.false (λ j lt ne. (found.1 j lt ne).1)
