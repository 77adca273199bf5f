-- With the lines of the cores that are left, the text is that of all.
use Rattle.std.proofs.Common.{◌≡◌, ◌++◌, drop}
use Rattle.sws_top.specs.Checked.{core_lines}
use Rattle.sws_top.proofs.checked.push_cores.Given as goal

abbrev pub invariant-loop-core : goal.invariant-loop-core
invariant-loop-core l =
    l.text.items ++ core_lines l.core (drop l.core l.reports) ≡ l.fn.text.items ++ core_lines 0 l.reports
