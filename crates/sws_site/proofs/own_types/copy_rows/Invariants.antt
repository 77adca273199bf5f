use Rattle.std.proofs.Common.{◌≡◌, take}
use Rattle.sws_site.specs.OwnTypes.{rows_of}
use Rattle.sws_site.proofs.own_types.copy_rows.Given as goal

abbrev pub invariant-loop-extension : goal.invariant-loop-extension
invariant-loop-extension l = rows_of l.copied.items ≡ rows_of (take l.extension-index l.rows)
