-- The schedule of a run.
use Rattle.std.specs.Prelude.{ℕ, List, replicate, flat_map}

-- a schedule spelled out: the core of each step, where the schedule names a core and how many steps
abbrev pub spelled_out : List (ℕ × ℕ) → List ℕ
spelled_out schedule = flat_map (λ part. replicate part.1 part.0) schedule
