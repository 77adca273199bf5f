use Rattle.std.proofs.Common.{◌≡◌, ◌≤◌, ◌+◌, length}
use Rattle.example_redis.specs.Stored.{entries_there}
use Rattle.example_redis.proofs.store.count_there.Given as goal

abbrev pub invariant-entries : goal.invariant-entries
invariant-entries l = record {
  counted : l.count + length (entries_there l.now l.kept-iterator) ≡ length (entries_there l.now l.values.entries);
  few : l.count + length l.kept-iterator ≤ length l.values.entries;
}
