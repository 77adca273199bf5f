use Rattle.std.proofs.Common.{◌≡◌, ◌++◌, Some, length, map}
use Rattle.std.specs.Vec.Iter.{into_iter_items, into_iter_len}
use Rattle.example_map.proofs.mapping.take_each.Given as goal

abbrev pub invariant-values : goal.invariant-values
invariant-values g l = record {
  split : l.yielded ++ into_iter_items l.value-iterator ≡ l.fn.values.items;
  left : into_iter_len l.value-iterator ≡ length (into_iter_items l.value-iterator);
  outs : map (λ out. Some out) l.outs.items ≡ l.yielded;
}
