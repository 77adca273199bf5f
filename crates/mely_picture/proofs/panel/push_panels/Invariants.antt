use Rattle.std.proofs.Common.{◌≡◌, ◌≤◌, ◌+◌, ◌*◌, ◌++◌, drop}
use Rattle.mely_picture.specs.Shown.{plots_from}
use Rattle.mely_picture.proofs.panel.push_panels.Given as goal

abbrev pub invariant-loop-number : goal.invariant-loop-number
invariant-loop-number l = record {
  text : l.text.items ++ plots_from l.setup l.top l.number (drop l.number l.plots) ≡ l.fn.text.items ++ plots_from l.setup l.fn.top 0 l.plots;
  low : l.top ≤ l.fn.top + 4194304 * l.number;
}
