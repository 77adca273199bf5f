use Rattle.std.proofs.Common.{◌≡◌, ◌++◌, map}
use Rattle.example_redis.specs.Globs.{part_of}
use Rattle.example_redis.specs.Stored.{names_there}
use Rattle.example_redis.proofs.store.list_parts.Given as goal

abbrev pub invariant-entries : goal.invariant-entries
invariant-entries l = map (λ key. key.items) l.keys.items ++ names_there l.now (map part_of l.parts) l.key-iterator
    ≡ names_there l.now (map part_of l.parts) l.values.entries
