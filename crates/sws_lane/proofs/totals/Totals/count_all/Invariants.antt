use Rattle.std.proofs.Common.{take}
use Rattle.sws_lane.specs.Totals.{AddsUp}
use Rattle.sws_lane.proofs.totals.Totals.count_all.Given as goal

abbrev pub invariant-connections : goal.invariant-connections
invariant-connections g l = AddsUp l.fn.self (take l.one-index l.served) l.self
