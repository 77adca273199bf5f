use Rattle.std.proofs.Common.{◌+◌}
use Rattle.mely_steal.specs.Entering.{ends_at, entries_of}
use Rattle.mely_steal.proofs.RenumberLemmas.{Renumbering}
use Rattle.mely_steal.proofs.numbering.renumber.Given as goal

abbrev pub invariant-colours : goal.invariant-colours
invariant-colours l = Renumbering l.links l.left l.fn.numbers l.numbers (entries_of l.links l.ends l.fn.numbers) l.number

abbrev pub decreases-colours : goal.decreases-colours
decreases-colours l = (ends_at l.left 0).len + ((ends_at l.left 1).len + (ends_at l.left 2).len)
