-- What the program's words may say.
use Rattle.std.specs.Prelude.{◌≤◌, ⊤}
use Rattle.example_redis.specs.declared.words.Listening.{Listening}
use Rattle.example_redis.specs.declared.words.Words.{Words}
use Rattle.example_redis.specs.declared.words.Words.TheVariants.{Port, Input, Wrong}
use Rattle.example_redis.specs.declared.limits.TheConstants.{MOST_CLIENTS}

-- no more clients than a run has, and 1 to 64 workers
pub record IsInRange (listening : Listening) : Type 0 where
  pub clients : listening.clients ≤ MOST_CLIENTS
  pub some : 1 ≤ listening.workers
  pub workers : listening.workers ≤ 64

abbrev pub IsAllowed : Words → Type 0
IsAllowed (Port listening) = IsInRange listening
IsAllowed Input = ⊤
IsAllowed Wrong = ⊤
