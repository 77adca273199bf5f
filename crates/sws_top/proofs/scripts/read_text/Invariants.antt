-- The bytes so far were read of the source, which has not failed.
use Rattle.std.proofs.Common.{◌≡◌, ◌-◌, vec_len}
use Rattle.sws_top.specs.Scripts.{IsReadOf}
use Rattle.sws_top.proofs.scripts.read_text.Given as goal

abbrev pub invariant-pieces : goal.invariant-pieces
invariant-pieces g l =
    IsReadOf l.text.items (g.R.Source.left l.fn.source) (g.R.Source.left l.source)
    × (g.R.Source.faults l.source ≡ g.R.Source.faults l.fn.source)

abbrev pub decreases-pieces : goal.decreases-pieces
decreases-pieces g l = 16777217 - vec_len l.text
