-- How long the value of a key is there. Moments are in milliseconds since 1970.
-- The commands as in https://redis.io/docs/latest/commands/expire/ and /set/
use Rattle.std.specs.Prelude.{◌+◌, ◌*◌, ◌^◌, pos, ℕ, ℤ, List, Bool, false, Option, Some, None, Result, Ok, Err, int_lt, nat_le, nat_lt, option_and_then, option_map, unsigned_abs, if◌then◌else◌}
use Rattle.example_redis.specs.declared.life.Clock.{Clock}
use Rattle.example_redis.specs.declared.life.Clock.TheVariants.{Seconds, Millis, UnixSeconds, UnixMillis}
use Rattle.example_redis.specs.declared.life.Kept.{Kept}
use Rattle.example_redis.specs.declared.life.Length.{Length}
use Rattle.example_redis.specs.declared.life.Length.TheVariants.{Lasts, Over, Wide}
use Rattle.example_redis.specs.declared.life.Term.{Term}
use Rattle.example_redis.specs.declared.life.Term.TheVariants.{Ever, Same, For, Until}
use Rattle.example_redis.specs.declared.verb.Verb.{Verb}

-- a value, and from when on it isn't there, if it is to go
pub record Entry : Type 0 where
  pub bytes : List ℕ
  pub until : Option ℕ

-- it is there before that moment, and not at it
abbrev pub is_over : ℕ → Option ℕ → Bool
is_over now None = false
is_over now (Some until) = nat_le until now

-- a value as it is seen at a moment
abbrev pub there_at : ℕ → Option Entry → Option Entry
there_at now None = None
there_at now (Some entry) = if is_over now entry.until then None else Some entry

-- from when on a value isn't there: also where there is no value, never
abbrev pub until_in : Option Entry → Option ℕ
until_in value = option_and_then (λ entry. entry.until) value

-- how many milliseconds one of a clock has
abbrev pub scale_of : Clock → ℕ
scale_of Seconds = 1000
scale_of Millis = 1
scale_of UnixSeconds = 1000
scale_of UnixMillis = 1

-- a number in milliseconds: of 64 bits, where it isn't positive it is over
abbrev pub length_of : Clock → ℤ → Length
length_of clock number = let millis = unsigned_abs number * scale_of clock in
    if nat_lt (2 ^ 63) millis then Wide
    else if int_lt (pos 0) number then Lasts millis else Over

abbrev pub term_of : Verb → Clock → ℕ → Term
term_of verb Seconds millis = For millis verb
term_of verb Millis millis = For millis verb
term_of verb UnixSeconds millis = Until millis
term_of verb UnixMillis millis = Until millis

-- From when on a value isn't there: SET has the deadline of the value before forgotten, but with
-- KEEPTTL. There is no moment beyond 63 bits.
abbrev pub until_of : ℕ → Option ℕ → Term → Result (Option ℕ) Verb
until_of now before Ever = Ok None
until_of now before Same = Ok before
until_of now before (Until moment) = Ok (Some moment)
until_of now before (For millis verb) = if nat_lt (now + millis) (2 ^ 63)
    then Ok (Some (now + millis)) else Err verb

-- ---- as the code has it

abbrev pub entry_of : Kept → Entry
entry_of kept = record { bytes = kept.bytes.items; until = kept.until }

-- a value, where there is one
abbrev pub entry_in : Option Kept → Option Entry
entry_in value = option_map entry_of value
