use Rattle.std.specs.List.{AllByRecursion}
use Rattle.sws_link.specs.MemWorlds.{IsInitialMemLink}
use Rattle.test_top.proofs.tests.replaying.links_of.Given as goal

abbrev pub invariant-clients : goal.invariant-clients
invariant-clients g l = AllByRecursion IsInitialMemLink l.links.items
