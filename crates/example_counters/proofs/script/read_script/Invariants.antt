use Rattle.std.proofs.Common.{◌≡◌, length}
use Rattle.std.specs.List.{AllByRecursion}
use Rattle.sws_link.specs.MemWorlds.{IsInitialMemLink}
use Rattle.example_counters.proofs.script.read_script.Given as goal

abbrev pub invariant-clients : goal.invariant-clients
invariant-clients l = record {
  many : length l.links.items ≡ l.client;
  initial : AllByRecursion IsInitialMemLink l.links.items;
}
