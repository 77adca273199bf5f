-- How many connections an address has.
use Rattle.std.specs.Prelude.{ℕ, List, length, filter, nat_eq}

-- how often it stands in a list of the addresses of all connections
abbrev pub count_of : ℕ → List ℕ → ℕ
count_of address here = length (filter (nat_eq address) here)
