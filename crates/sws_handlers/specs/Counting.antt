-- How often a number stands in a list, and how many colours there are.
use Rattle.std.specs.Prelude.{ℕ, Bool, ◌+◌, ◌==◌, List, count_by}
use Rattle.sws_steps.specs.Logs.{bit as bit_of}
pub use Rattle.sws_steps.specs.Logs.{bit}

-- a colour for polling, for accepting and for each link, and with the log one more
abbrev pub colours_over : ℕ → Bool → ℕ
colours_over total log = total + 2 + bit_of log

-- how often the number stands in the list
abbrev pub times : ℕ → List ℕ → ℕ
times i numbers = count_by (λ n. n == i) numbers
