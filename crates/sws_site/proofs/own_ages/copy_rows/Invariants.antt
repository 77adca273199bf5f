use Rattle.std.proofs.Common.{◌≡◌, take}
use Rattle.sws_site.specs.OwnAges.{ages_of}
use Rattle.sws_site.proofs.own_ages.copy_rows.Given as goal

abbrev pub invariant-loop-end : goal.invariant-loop-end
invariant-loop-end l = ages_of l.copied.items ≡ ages_of (take l.end-index l.rows)
