use Rattle.std.specs.List.{AllByRecursion}
use Rattle.sws_link.specs.MemWorlds.{IsInitialMemLink}
use Rattle.test_top.proofs.tests.chat.links_of.Given as goal

abbrev pub invariant-guests : goal.invariant-guests
invariant-guests g l = AllByRecursion IsInitialMemLink l.links.items
