use Rattle.std.proofs.Common.{◌≡◌, ◌≤◌, ◌+◌, ◌*◌, take, length, drop}
use Rattle.std.specs.List.{sum_by}
use Rattle.mely_history.specs.History.{registered_of, weight}
use Rattle.mely_history.proofs.colour_counts.pass_over.Given as goal

abbrev pub invariant-loop-place : goal.invariant-loop-place
invariant-loop-place l = record {
  few : l.passed ≤ l.count;
  passed : length (registered_of (take l.place l.entries) l.colour) ≡ length (registered_of (take l.from l.entries) l.colour) + l.passed;
  weighed : l.sum ≡ sum_by (weight l.setup) (drop (length (registered_of (take l.from l.entries) l.colour)) (registered_of (take l.place l.entries) l.colour));
  small : l.sum ≤ 4294967295 * l.passed;
}
