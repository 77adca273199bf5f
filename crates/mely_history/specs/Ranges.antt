-- The most that each number of a setup may be; the least is 1, but 0 for the pinned colours.
use Rattle.std.specs.Prelude.{ℕ}

-- the most cores
abbrev pub core_limit : ℕ
core_limit = 64

-- the most shards
abbrev pub shard_limit : ℕ
shard_limit = 64

-- the most colours: a colour is a number of 16 bits
abbrev pub colour_limit : ℕ
colour_limit = 65536

-- the highest batch: so many events a turn has at most
abbrev pub batch_limit : ℕ
batch_limit = 1000

-- the most cores of one group
abbrev pub group_limit : ℕ
group_limit = 64
