-- Which keys a pattern matches.
-- The patterns as in https://redis.io/docs/latest/commands/keys/
use Rattle.std.specs.Prelude.{◌==◌, ◌&&◌, ◌||◌, ℕ, Bool, true, false, List, [], ◌∷◌, ◌++◌, nat_le, not, if◌then◌else◌}
use Rattle.example_redis.specs.declared.glob.Deed.{Deed}
use Rattle.example_redis.specs.declared.glob.Deed.TheVariants as deed
use Rattle.example_redis.specs.declared.glob.Part as declared
use Rattle.example_redis.specs.declared.glob.Part.TheVariants as declared_part
use Rattle.example_redis.specs.declared.glob.Place.{Place}
use Rattle.example_redis.specs.declared.glob.Place.TheVariants as place

-- a part of a pattern: `*`, or one byte, that is in one of these ranges or, if so said, in none
pub data Part : Type 0 where
  Many : Part
  One : Bool → List (ℕ × ℕ) → Part

-- a range may have its larger end first
abbrev pub is_between : ℕ → ℕ × ℕ → Bool
is_between byte range = (nat_le range.0 byte && nat_le byte range.1)
    || (nat_le range.1 byte && nat_le byte range.0)

abbrev pub is_among : ℕ → List (ℕ × ℕ) → Bool
is_among byte [] = false
is_among byte (range ∷ ranges) = if is_between byte range then true else is_among byte ranges

abbrev pub is_star : Part → Bool
is_star Many = true
is_star (One other ranges) = false

-- one byte is this part; `*` is not of one byte
abbrev pub takes : Part → ℕ → Bool
takes Many byte = false
takes (One other ranges) byte = if other then not (is_among byte ranges) else is_among byte ranges

-- some rest of bytes is as is wanted: all of them, or what is behind the first one, and so on
abbrev pub some_rest : (List ℕ → Bool) → List ℕ → Bool
some_rest wanted [] = wanted []
some_rest wanted (byte ∷ bytes) = if wanted (byte ∷ bytes) then true else some_rest wanted bytes

-- a byte is this part, and what is behind it is as is wanted
abbrev pub one_and : Part → (List ℕ → Bool) → List ℕ → Bool
one_and part wanted [] = false
one_and part wanted (byte ∷ bytes) = if takes part byte then wanted bytes else false

abbrev pub begins_with : Part → (List ℕ → Bool) → List ℕ → Bool
begins_with Many wanted key = some_rest wanted key
begins_with (One other ranges) wanted key = one_and (One other ranges) wanted key

abbrev pub is_none : List ℕ → Bool
is_none [] = true
is_none (byte ∷ bytes) = false

-- the parts of a pattern match a key
abbrev pub matches : List Part → List ℕ → Bool
matches [] key = is_none key
matches (part ∷ parts) key = begins_with part (matches parts) key

-- ---- the parts of a pattern

-- what a byte of a class leads to: `]` ends it
abbrev pub place_within : ℕ → Place
place_within byte = if byte == 93 then place.Plain
    else if byte == 92 then place.Quoted else place.Behind byte

-- `\` has the next byte stand for itself, `[` begins a class, and `^` behind it turns it round; in a
-- class a byte, `-` and a byte are a range
abbrev pub place_behind : Place → ℕ → Place
place_behind place.Plain byte = if byte == 92 then place.Escaped
    else if byte == 91 then place.Opened else place.Plain
place_behind place.Escaped byte = place.Plain
place_behind place.Opened byte = if byte == 94 then place.Inside else place_within byte
place_behind place.Inside byte = place_within byte
place_behind place.Quoted byte = place.Inside
place_behind (place.Behind first) byte =
    if byte == 45 then place.Dashed first else place_within byte
place_behind (place.Dashed first) byte = place.Inside

abbrev pub deed_within : ℕ → Deed
deed_within byte = if byte == 93 then deed.Close
    else if byte == 92 then deed.Nothing else deed.Range byte byte

abbrev pub deed_at : Place → ℕ → Deed
deed_at place.Plain byte = if byte == 42 then deed.Many
    else if byte == 63 then deed.Any
    else if byte == 92 || byte == 91 then deed.Nothing else deed.Byte byte
deed_at place.Escaped byte = deed.Byte byte
deed_at place.Opened byte = if byte == 94 then deed.Other else deed_within byte
deed_at place.Inside byte = deed_within byte
deed_at place.Quoted byte = deed.Range byte byte
deed_at (place.Behind first) byte = if byte == 45 then deed.Nothing else deed_within byte
deed_at (place.Dashed first) byte = deed.Range first byte

-- the parts that are whole, and the ranges of the class that is read, which is turned round or not
pub record Reading : Type 0 where
  pub parts : List Part
  pub other : Bool
  pub ranges : List (ℕ × ℕ)

abbrev pub with_part : Part → Reading → Reading
with_part part reading = record reading { parts = reading.parts ++ part ∷ [] }

abbrev pub with_deed : Deed → Reading → Reading
with_deed deed.Nothing reading = reading
with_deed deed.Many reading = with_part Many reading
with_deed deed.Any reading = with_part (One true []) reading
with_deed (deed.Byte byte) reading = with_part (One false ((byte, byte) ∷ [])) reading
with_deed deed.Other reading = record reading { other = true }
with_deed (deed.Range first last) reading =
    record reading { ranges = reading.ranges ++ (first, last) ∷ [] }
with_deed deed.Close reading = record {
  parts = reading.parts ++ One reading.other reading.ranges ∷ [];
  other = false;
  ranges = [];
}

-- where a pattern ends, `\` stands for itself, so does `-`, and a class ends too
abbrev pub last_at : Place → Deed
last_at place.Escaped = deed.Byte 92
last_at place.Quoted = deed.Range 92 92
last_at (place.Dashed first) = deed.Range 45 45
last_at one = deed.Nothing

abbrev pub close_at : Place → Deed
close_at place.Plain = deed.Nothing
close_at place.Escaped = deed.Nothing
close_at one = deed.Close

abbrev pub parts_from : Place → Reading → List ℕ → List Part
parts_from place reading [] = (with_deed (close_at place) (with_deed (last_at place) reading)).parts
parts_from place reading (byte ∷ bytes) =
    parts_from (place_behind place byte) (with_deed (deed_at place byte) reading) bytes

abbrev pub no_parts : Reading
no_parts = record { parts = []; other = false; ranges = [] }

-- the parts of a pattern, read from its first byte on
abbrev pub parts_of : List ℕ → List Part
parts_of pattern = parts_from place.Plain no_parts pattern

-- ---- as the code has it

abbrev pub part_of : declared.Part → Part
part_of declared_part.Many = Many
part_of (declared_part.One other ranges) = One other ranges.items
