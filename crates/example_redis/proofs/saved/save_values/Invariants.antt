use Rattle.std.proofs.Common.{◌≡◌, ◌++◌}
use Rattle.example_redis.specs.Saved.{saved_entries}
use Rattle.example_redis.proofs.saved.save_values.Given as goal

abbrev pub invariant-entries : goal.invariant-entries
invariant-entries l = l.out.items ++ saved_entries l.now l.key-iterator ≡ l.fn.out.items ++ saved_entries l.now l.fn.values.entries
