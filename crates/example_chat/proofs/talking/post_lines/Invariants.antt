use Rattle.std.proofs.Common.{◌≡◌, ◌++◌, length}
use Rattle.std.specs.Vec.Iter.{into_iter_items, into_iter_len}
use Rattle.example_chat.specs.Chats.{said}
use Rattle.example_chat.proofs.talking.post_lines.Given as goal

abbrev pub invariant-lines : goal.invariant-lines
invariant-lines l = record {
  split : l.yielded ++ into_iter_items l.line-iterator ≡ l.fn.lines.items;
  left : into_iter_len l.line-iterator ≡ length (into_iter_items l.line-iterator);
  many : l.number ≡ length l.yielded;
  posts : l.posts.items ≡ said 0 l.yielded;
}
