-- The limits of a script and of its schedule, and of the numbers of their lines.
use Rattle.std.specs.Prelude.{ℕ}

-- the most bytes of a text
abbrev pub byte_limit : ℕ
byte_limit = 16777216

-- the most steps of a schedule
abbrev pub step_limit : ℕ
step_limit = 10000000

-- the most steps that one line of a schedule says
abbrev pub run_limit : ℕ
run_limit = 1000000

-- the most bytes that a line `step` lets one write take
abbrev pub write_limit : ℕ
write_limit = 65536

-- the most bytes that are written before the writes fail, where a line `cut` says so
abbrev pub cut_limit : ℕ
cut_limit = 1000000000

-- the most bytes that a line `send` sends
abbrev pub send_limit : ℕ
send_limit = 4096

-- the most bytes that a line `fill` sends
abbrev pub fill_limit : ℕ
fill_limit = 65536

-- the most times that the link isn't ready by a line `pause`
abbrev pub pause_limit : ℕ
pause_limit = 1000
