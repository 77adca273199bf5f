use Rattle.std.proofs.Common.{◌≡◌, ◌++◌, drop}
use Rattle.mely_picture.specs.Texts.{legend_from}
use Rattle.mely_picture.proofs.legend.push_legend.Given as goal

abbrev pub invariant-loop-at : goal.invariant-loop-at
invariant-loop-at l = l.text.items ++ legend_from l.at (drop l.at l.colours) ≡ l.fn.text.items ++ legend_from 0 l.colours
