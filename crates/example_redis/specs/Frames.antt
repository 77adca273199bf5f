-- Where a request ends, and which words it has.
-- RESP, the Redis serialization protocol, "Sending commands to a Redis server" and "Inline
-- commands": https://redis.io/docs/latest/develop/reference/protocol-spec/
use Rattle.std.specs.Prelude.{◌==◌, ◌+◌, ◌-◌, ◌*◌, ℕ, List, [], ◌∷◌, ◌++◌, Option, None, Some, nat_le, nat_lt, if◌then◌else◌, refl}
use Rattle.std.specs.Char.{is_ascii_digit, is_ascii_whitespace}
use Rattle.std.proofs.Common.{ap}
use Rattle.mely_net.specs.declared.cut.Cut.{Cut}
use Rattle.mely_net.specs.declared.cut.Cut.TheVariants as cut
use Rattle.mely_net.specs.Cutting.{IsSteady, Stands}
use Rattle.example_redis.specs.declared.frame.Fault.{Fault}
use Rattle.example_redis.specs.declared.frame.Fault.TheVariants as fault
use Rattle.example_redis.specs.declared.frame.Place.{Place}
use Rattle.example_redis.specs.declared.frame.Place.TheVariants.{Start, Line, Count, CountEnd, Word, Size, SizeEnd, Bytes, BytesEnd}
use Rattle.example_redis.specs.declared.frame.Next.{Next}
use Rattle.example_redis.specs.declared.frame.Next.TheVariants.{Goes, Whole, Wrong}
use Rattle.example_redis.specs.declared.frame.Role.{Role}
use Rattle.example_redis.specs.declared.frame.Role.TheVariants.{Between, Inside, Behind, Space}
use Rattle.example_redis.specs.declared.limits.TheConstants.{MOST_LINE, MOST_VALUE, MOST_WORDS}

-- ---- a number, digit by digit

-- the number with one more digit, if it has no zero in front and is within the bound
abbrev pub grown : Option ℕ → ℕ → ℕ → Option ℕ
grown None digit most = Some digit
grown (Some before) digit most = if before == 0 then None
    else if nat_le (before * 10 + digit) most then Some (before * 10 + digit) else None

-- a number with a further digit has no zero in front, and isn't greater than the most
abbrev pub with_digit_of : Option ℕ → ℕ → ℕ → Option ℕ
with_digit_of number byte most =
    if is_ascii_digit byte then grown number (byte - 48) most else None

-- a number goes on, or ends with a carriage return
abbrev pub counted : (ℕ → Place) → Fault → Option ℕ → Next
counted goes fault None = Wrong fault
counted goes fault (Some number) = Goes (goes number)

abbrev pub number_next : (Option ℕ → Place) → (ℕ → Place) → Fault → Option ℕ → ℕ → ℕ → Next
number_next goes ends fault number byte most = if byte == 13 then counted ends fault number
    else counted (λ longer. goes (Some longer)) fault (with_digit_of number byte most)

-- ---- what a byte is, behind the first ones of a request

abbrev pub next_of : Place → ℕ → Next
next_of Start byte = if byte == 42 then Goes (Count None)
    else if byte == 10 then Whole else Goes (Line 1)
next_of (Line count) byte = if byte == 10 then Whole
    else if nat_lt count MOST_LINE then Goes (Line (count + 1)) else Wrong fault.LongLine
next_of (Count number) byte = number_next Count CountEnd fault.Count number byte MOST_WORDS
next_of (CountEnd words) byte = if byte == 10 then if words == 0 then Whole else Goes (Word words)
    else Wrong fault.Count
next_of (Word words) byte = if byte == 36 then Goes (Size words None)
    else Wrong (fault.NoWord byte)
next_of (Size words number) byte =
    number_next (Size words) (SizeEnd words) fault.Size number byte MOST_VALUE
next_of (SizeEnd words size) byte = if byte == 10 then Goes (Bytes words size)
    else Wrong fault.Size
next_of (Bytes words left) byte = if nat_lt 0 left then Goes (Bytes words (left - 1))
    else if byte == 13 then Goes (BytesEnd words) else Wrong fault.NoEnd
next_of (BytesEnd words) byte = if byte == 10
    then if nat_lt 1 words then Goes (Word (words - 1)) else Whole else Wrong fault.NoEnd

-- what a byte of an inline command is to its words
abbrev pub role_in_line : ℕ → Role
role_in_line byte = if is_ascii_whitespace byte then Space else Inside

-- and what a byte of any request is
abbrev pub role_of : Place → ℕ → Role
role_of Start byte = if byte == 42 then Between else role_in_line byte
role_of (Line count) byte = role_in_line byte
role_of (Count number) byte = Between
role_of (CountEnd words) byte = Between
role_of (Word words) byte = Between
role_of (Size words number) byte = Between
role_of (SizeEnd words size) byte = Between
role_of (Bytes words left) byte = if nat_lt 0 left then Inside else Behind
role_of (BytesEnd words) byte = Between

-- ---- where a request ends

-- a cut behind so many further bytes
abbrev pub longer : ℕ → Cut → Cut
longer count cut.More = cut.More
longer count (cut.Frame size) = cut.Frame (count + size)
longer count cut.Fault = cut.Fault

-- a frame ends with the byte with which the request ends, or that belongs to none
abbrev pub cut_by : Next → (Place → Cut) → Cut
cut_by (Goes place) more = longer 1 (more place)
cut_by Whole more = cut.Frame 1
cut_by (Wrong fault) more = cut.Frame 1

abbrev pub cut_from : Place → List ℕ → Cut
cut_from place [] = cut.More
cut_from place (byte ∷ bytes) = cut_by (next_of place byte) (λ next. cut_from next bytes)

abbrev pub cut_of : List ℕ → Cut
cut_of bytes = cut_from Start bytes

longer-stands : (count : ℕ) (one now : Cut) → Stands one now
    → Stands (longer count one) (longer count now)
longer-stands count cut.More now stands = tt
longer-stands count (cut.Frame size) now stands = ap (longer count) stands
longer-stands count cut.Fault now stands = ap (longer count) stands

cut_by-stands : (next : Next) (one now : Place → Cut)
    → ((place : Place) → Stands (one place) (now place))
    → Stands (cut_by next one) (cut_by next now)
cut_by-stands (Goes place) one now stands = longer-stands 1 (one place) (now place) (stands place)
cut_by-stands Whole one now stands = refl
cut_by-stands (Wrong fault) one now stands = refl

cut_from-stands : (bytes more : List ℕ) (place : Place)
    → Stands (cut_from place bytes) (cut_from place (bytes ++ more))
cut_from-stands [] more place = tt
cut_from-stands (byte ∷ bytes) more place =
    cut_by-stands (next_of place byte) (λ next. cut_from next bytes)
    (λ next. cut_from next (bytes ++ more)) (λ next. cut_from-stands bytes more next)

-- what comes behind doesn't change where the first request ends
pub cut_of-steady : IsSteady cut_of
cut_of-steady bytes more = cut_from-stands bytes more Start

-- ---- which words a request has

-- the words that are whole, and the one that is read
pub record Words : Type 0 where
  pub whole : List (List ℕ)
  pub word : List ℕ

abbrev pub no_words : Words
no_words = record { whole = []; word = [] }

abbrev pub with_word : Words → Words
with_word words = record { whole = words.whole ++ words.word ∷ []; word = [] }

abbrev pub if_any : List ℕ → Words → Words
if_any [] words = words
if_any (byte ∷ bytes) words = with_word words

abbrev pub words_after : Role → ℕ → Words → Words
words_after Between byte words = words
words_after Inside byte words = record words { word = words.word ++ byte ∷ [] }
words_after Behind byte words = with_word words
words_after Space byte words = if_any words.word words

-- a request, by its words; or why it is none
pub data Saying : Type 0 where
  Says : List (List ℕ) → Saying
  Errs : Fault → Saying
  Stops : Saying

abbrev pub heard_by : Next → Words → (Place → Words → Saying) → Saying
heard_by (Goes place) words more = more place words
heard_by Whole words more = Says words.whole
heard_by (Wrong fault) words more = Errs fault

abbrev pub heard_from : Place → Words → List ℕ → Saying
heard_from place words [] = Stops
heard_from place words (byte ∷ bytes) = heard_by (next_of place byte)
    (words_after (role_of place byte) byte words) (λ next after. heard_from next after bytes)

abbrev pub heard_of : List ℕ → Saying
heard_of frame = heard_from Start no_words frame
