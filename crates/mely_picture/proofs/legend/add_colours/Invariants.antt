use Rattle.std.proofs.Common.{◌≡◌, ◌≤◌, ◌+◌, length, drop}
use Rattle.mely_picture.specs.Marks.{with_new}
use Rattle.mely_picture.proofs.LegendLemmas.{taken}
use Rattle.mely_picture.proofs.legend.add_colours.Given as goal

abbrev pub invariant-loop-entry : goal.invariant-loop-entry
invariant-loop-entry l = record {
  are : with_new l.colours.items (taken (drop l.entry-index l.history)) ≡ with_new l.fn.colours.items (taken l.history);
  few : length l.colours.items ≤ length l.fn.colours.items + l.entry-index;
}
