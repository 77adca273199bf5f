use Rattle.std.proofs.Common.{◌≡◌, ◌++◌}
use Rattle.mely_picture.specs.Texts.{rows_text}
use Rattle.mely_picture.proofs.panel.push_rows.Given as goal

abbrev pub invariant-loop-core : goal.invariant-loop-core
invariant-loop-core l = l.text.items ≡ l.fn.text.items ++ rows_text l.top l.entries l.core
