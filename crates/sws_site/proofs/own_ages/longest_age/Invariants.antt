use Rattle.std.proofs.Common.{◌≡◌, ◌≤◌, ◌-◌, length, drop}
use Rattle.sws_site.specs.OwnAges.{ages_of, longest_age}
use Rattle.sws_site.proofs.own_ages.longest_age.Given as goal

abbrev pub invariant-ends : goal.invariant-ends
invariant-ends l = record {
  within : l.start ≤ length l.name;
  left : longest_age (ages_of l.rows) (drop l.start l.name) ≡ longest_age (ages_of l.rows) l.name;
}

abbrev pub decreases-ends : goal.decreases-ends
decreases-ends l = length l.name - l.start
