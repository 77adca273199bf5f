use Rattle.std.proofs.Common.{◌≡◌, drop}
use Rattle.sws_site.specs.ContentTypes.{type_or}
use Rattle.sws_site.specs.OwnTypes.{rows_of}
use Rattle.sws_site.proofs.own_types.own_type_or.Given as goal

abbrev pub invariant-loop-known : goal.invariant-loop-known
invariant-loop-known l = type_or (rows_of (drop l.known-index l.rows)) l.otherwise l.extension ≡ type_or (rows_of l.rows) l.otherwise l.extension
