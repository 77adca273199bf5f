-- What has come of all lanes, in sums.
use Rattle.std.specs.Prelude.{List, fold}
use Rattle.sws_lane.specs.Totals.{both_totals, no_totals}
use Rattle.sws_lane.specs.declared.totals.Totals.{Totals}

-- the sum of what these have as their totals, one after another
abbrev pub sum_of : {A : Type 0} → (A → Totals) → List A → Totals
sum_of totals_of all = fold (λ sum one. both_totals sum (totals_of one)) no_totals all
