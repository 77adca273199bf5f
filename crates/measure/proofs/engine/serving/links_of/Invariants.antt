use Rattle.std.proofs.Common.{◌≡◌, length}
use Rattle.std.specs.List.{AllByRecursion}
use Rattle.sws_link.specs.MemWorlds.{IsInitialMemLink}
use Rattle.measure.proofs.engine.serving.links_of.Given as goal

abbrev pub invariant-links : goal.invariant-links
invariant-links l = record {
  many : length l.links.items ≡ l._number;
  initial : AllByRecursion IsInitialMemLink l.links.items;
}
