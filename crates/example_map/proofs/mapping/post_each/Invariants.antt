use Rattle.std.proofs.Common.{◌≡◌, ◌++◌, length}
use Rattle.std.specs.Vec.Iter.{into_iter_items, into_iter_len}
use Rattle.example_map.specs.Mapped.{numbered}
use Rattle.example_map.proofs.mapping.post_each.Given as goal

abbrev pub invariant-items : goal.invariant-items
invariant-items g l = record {
  split : l.yielded ++ into_iter_items l.item-iterator ≡ l.fn.items.items;
  left : into_iter_len l.item-iterator ≡ length (into_iter_items l.item-iterator);
  many : l.number ≡ length l.yielded;
  posts : l.posts.items ≡ numbered 0 l.yielded;
}
