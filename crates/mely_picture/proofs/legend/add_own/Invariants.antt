use Rattle.std.proofs.Common.{◌≡◌, ◌≤◌, ◌+◌, length}
use Rattle.mely_picture.specs.Marks.{with_new}
use Rattle.mely_picture.specs.Pictures.{own_colours}
use Rattle.mely_picture.proofs.legend.add_own.Given as goal

abbrev pub invariant-loop-place : goal.invariant-loop-place
invariant-loop-place l = record {
  are : l.colours.items ≡ with_new l.fn.colours.items (own_colours l.shards l.count l.number l.place);
  few : length l.colours.items ≤ length l.fn.colours.items + l.place;
}
