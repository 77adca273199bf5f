-- What has come of connections, in sums of 64 bits.
use Rattle.std.specs.Prelude.{◌≡◌, ℕ, ◌+◌, ◌≤◌, min, Bool, true, false, List, Option, None, Some, is_some, sum_by, count_by}
use Rattle.sws_link.specs.Counts.{full_count}
use Rattle.sws_steps.specs.declared.End.{End}
use Rattle.sws_steps.specs.declared.End.TheVariants as ending
use Rattle.sws_handlers.specs.declared.ended.Served.{Served}
use Rattle.sws_lane.specs.declared.totals.Totals.{Totals}

-- a number that is kept in 64 bits, and stays at the greatest of these
abbrev pub capped : ℕ → ℕ
capped number = min number full_count

-- each number has 64 bits
pub record AreKept (totals : Totals) : Type 0 where
  pub generations : totals.generations ≤ full_count
  pub connections : totals.connections ≤ full_count
  pub done : totals.done ≤ full_count
  pub idle : totals.idle ≤ full_count
  pub fault : totals.fault ≤ full_count
  pub read : totals.read ≤ full_count
  pub written : totals.written ≤ full_count

-- nothing yet
abbrev pub no_totals : Totals
no_totals = record {
  generations = 0;
  connections = 0;
  done = 0;
  idle = 0;
  fault = 0;
  read = 0;
  written = 0;
}

-- one generation, of which no connection was counted
abbrev pub one_generation : Totals
one_generation = record no_totals { generations = 1 }

-- these and others in one
abbrev pub both_totals : Totals → Totals → Totals
both_totals a b = record {
  generations = capped (a.generations + b.generations);
  connections = capped (a.connections + b.connections);
  done = capped (a.done + b.done);
  idle = capped (a.idle + b.idle);
  fault = capped (a.fault + b.fault);
  read = capped (a.read + b.read);
  written = capped (a.written + b.written);
}

-- a connection was answered to its end
abbrev pub is_done : Option End → Bool
is_done None = false
is_done (Some ending.Done) = true
is_done (Some ending.Idle) = false
is_done (Some ending.Fault) = false
is_done (Some ending.Memory) = false

-- it ended since its link was not ready too often in succession
abbrev pub is_idle : Option End → Bool
is_idle None = false
is_idle (Some ending.Done) = false
is_idle (Some ending.Idle) = true
is_idle (Some ending.Fault) = false
is_idle (Some ending.Memory) = false

-- it ended since its link failed
abbrev pub is_fault : Option End → Bool
is_fault None = false
is_fault (Some ending.Done) = false
is_fault (Some ending.Idle) = false
is_fault (Some ending.Fault) = true
is_fault (Some ending.Memory) = false

-- the connections were added to the totals: how many have a link, how many ended in each way, and
-- how many bytes were read and written
pub record AddsUp {L : Type 0} (before : Totals) (served : List (Served L))
    (now : Totals) : Type 0 where
  pub generations : now.generations ≡ before.generations
  pub connections : now.connections
      ≡ capped (before.connections + count_by (λ s. is_some s.link) served)
  pub done : now.done ≡ capped (before.done + count_by (λ s. is_done s.end) served)
  pub idle : now.idle ≡ capped (before.idle + count_by (λ s. is_idle s.end) served)
  pub fault : now.fault ≡ capped (before.fault + count_by (λ s. is_fault s.end) served)
  pub read : now.read ≡ capped (before.read + sum_by (λ s. s.read) served)
  pub written : now.written ≡ capped (before.written + sum_by (λ s. s.written) served)
