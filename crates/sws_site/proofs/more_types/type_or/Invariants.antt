use Rattle.std.proofs.Common.{◌≡◌, map, drop}
use Rattle.sws_site.specs.ContentTypes.{type_or}
use Rattle.sws_site.proofs.more_types.type_or.Given as goal

abbrev pub invariant-loop-known : goal.invariant-loop-known
invariant-loop-known l = type_or (map (λ row. (row.0.now, row.1.now)) (drop l.known-index l.rows)) l.otherwise l.extension ≡ type_or (map (λ row. (row.0.now, row.1.now)) l.rows) l.otherwise l.extension
