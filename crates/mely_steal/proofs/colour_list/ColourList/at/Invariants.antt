use Rattle.std.proofs.Common.{◌≡◌}
use Rattle.mely_steal.specs.Links.{after_at}
use Rattle.mely_steal.proofs.LinkLemmas.{walked}
use Rattle.mely_steal.proofs.colour_list.ColourList.at.Given as goal

abbrev pub invariant-places : goal.invariant-places
invariant-places l = l.colour ≡ walked (after_at l.self-inside.links.items) l.counter l.self-inside.ends.first
