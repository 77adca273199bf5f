use Rattle.std.proofs.Common.{◌≡◌, ◌≤◌, ◌*◌, [], drop, length}
use Rattle.mely_picture.specs.Marks.{with_new}
use Rattle.mely_picture.specs.Shown.{plots_colours}
use Rattle.mely_picture.proofs.legend.shown_colours.Given as goal

abbrev pub invariant-loop-number : goal.invariant-loop-number
invariant-loop-number l = record {
  are : with_new l.colours.items (plots_colours l.setup l.number (drop l.number l.plots)) ≡ with_new [] (plots_colours l.setup 0 l.plots);
  few : length l.colours.items ≤ 65536 * l.number;
}
