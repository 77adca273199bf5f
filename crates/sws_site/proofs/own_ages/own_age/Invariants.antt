use Rattle.std.proofs.Common.{◌≡◌, drop}
use Rattle.sws_site.specs.OwnAges.{ages_of, own_age}
use Rattle.sws_site.proofs.own_ages.own_age.Given as goal

abbrev pub invariant-loop-known : goal.invariant-loop-known
invariant-loop-known l = own_age (ages_of (drop l.known-index l.rows)) l.end ≡ own_age (ages_of l.rows) l.end
