-- The ages that the owner of a site gives files by the ends of their names: for how many seconds they
-- may be kept (RFC 9111, section 5.2.2.1).
use Rattle.std.specs.Prelude.{◌≡◌, ℕ, ◌==◌, ◌&&◌, ◌||◌, Bool, not, nat_le, if◌then◌else◌, List, [], ◌∷◌, length, map, Vec, Option, Some, None, is_some, ⊤}
use Rattle.std.specs.List.{list_all}
use Rattle.std.specs.Option.{option_or}
use Rattle.std.specs.Str.{bytes_eq}
use Rattle.std.specs.declared.alloc.Global.{Global}
use Rattle.sws_site.specs.declared.age_faults.AgeFault.{AgeFault}
use Rattle.sws_site.specs.declared.age_faults.AgeFault.TheVariants.{BadEnd, GivenTwice, TooMany, Memory}

-- the ages as contracts see them: each behind the end of names that it is for
abbrev pub ages_of : List (Vec ℕ Global × ℕ) → List (List ℕ × ℕ)
ages_of rows = map (λ row. (row.0.items, row.1)) rows

-- the age of just this end, if one is given for it
abbrev pub own_age : List (List ℕ × ℕ) → List ℕ → Option ℕ
own_age [] end = None
own_age (row ∷ rows) end = if bytes_eq row.0 end then Some row.1 else own_age rows end

-- the age of the longest end that the name has, if it has one of these: the name itself is looked
-- for, then what is left of it without its first byte, and so on
abbrev pub longest_age : List (List ℕ × ℕ) → List ℕ → Option ℕ
longest_age ages [] = None
longest_age ages (byte ∷ bytes) = option_or (own_age ages (byte ∷ bytes)) (longest_age ages bytes)

-- ---- which ages are given

-- a byte that the name of a file may have: none but NUL and the slash are kept from it
abbrev pub is_name_byte : ℕ → Bool
is_name_byte byte = not (byte == 0 || byte == 47)

-- an end of names: such bytes, one or more
abbrev pub is_end : List ℕ → Bool
is_end bytes = not (length bytes == 0) && list_all is_name_byte bytes

-- for so many ends at most an age is given
abbrev pub age_count_limit : ℕ
age_count_limit = 64

-- the most seconds that 32 bits can say
abbrev pub age_limit : ℕ
age_limit = 4294967295

-- no age is longer
abbrev pub are_short_ages : List (List ℕ × ℕ) → Bool
are_short_ages ages = list_all (λ age. nat_le age.1 age_limit) ages

-- why an age can't be given for this end beside these, if it can't: it is no end of a name, it has
-- an age, or there are too many
abbrev pub age_fault : List (List ℕ × ℕ) → List ℕ → Option AgeFault
age_fault ages end =
    if not (is_end end) then Some BadEnd
    else (if is_some (own_age ages end) then Some GivenTwice
    else (if nat_le age_count_limit (length ages) then Some TooMany else None))

-- a refusal that names a cause is that of the end
abbrev pub IsAgeFault : Option AgeFault → AgeFault → Type 0
IsAgeFault cause BadEnd = cause ≡ Some BadEnd
IsAgeFault cause GivenTwice = cause ≡ Some GivenTwice
IsAgeFault cause TooMany = cause ≡ Some TooMany
IsAgeFault cause Memory = ⊤
