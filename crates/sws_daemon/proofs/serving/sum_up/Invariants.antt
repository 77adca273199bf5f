use Rattle.std.proofs.Common.{◌≡◌, take}
use Rattle.sws_daemon.specs.Sums.{sum_of}
use Rattle.sws_daemon.proofs.serving.sum_up.Given as goal

abbrev pub invariant-lanes : goal.invariant-lanes
invariant-lanes g l = l.totals ≡ sum_of (λ job. job.lane.totals) (take l.job-index l.jobs)
