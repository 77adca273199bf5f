use Rattle.std.specs.Prelude.{◌-◌, length}
use Rattle.sws_request.proofs.CuttingLemmas.{IsScanned}
use Rattle.sws_request.proofs.head.find_end.Given as goal

abbrev pub invariant-loop-feed : goal.invariant-loop-feed
invariant-loop-feed l = IsScanned l.bytes l.fn.begun l.start l.begun

abbrev pub decreases-loop-feed : goal.decreases-loop-feed
decreases-loop-feed l = length l.bytes - l.start
