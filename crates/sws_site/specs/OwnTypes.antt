-- The media types that the owner of a site adds (RFC 9110, section 8.3.1).
use Rattle.std.specs.Prelude.{◌≡◌, ℕ, ◌+◌, ◌==◌, ◌&&◌, ◌||◌, Bool, not, nat_le, nat_lt, if◌then◌else◌, List, length, take, drop, map, Vec, codes, nat_eq, Option, Some, None, ⊤}
use Rattle.std.specs.Char.{is_ascii_alphanumeric}
use Rattle.std.specs.List.{list_all, position_or_len, starts_with}
use Rattle.sws_site.specs.declared.type_faults.TypeFault.{TypeFault}
use Rattle.sws_site.specs.declared.type_faults.TypeFault.TheVariants.{BadExtension, BadType, Memory}
use Rattle.std.specs.declared.alloc.Global.{Global}
use Rattle.sws_site.specs.HeaderFields.{is_token}

-- the rows as contracts see them
abbrev pub rows_of : List (Vec ℕ Global × Vec ℕ Global) → List (List ℕ × List ℕ)
rows_of rows = map (λ row. (row.0.items, row.1.items)) rows

-- where the first such byte stands, or how many bytes there are
abbrev pub place_of : ℕ → List ℕ → ℕ
place_of sought bytes = position_or_len (λ byte. byte == sought) bytes

-- two tokens, with this byte between them
abbrev pub is_pair : ℕ → List ℕ → Bool
is_pair between bytes =
    let place = place_of between bytes in
    is_token (take place bytes) && is_token (drop (place + 1) bytes)

-- the bytes without a space at their beginning
abbrev pub without_space : List ℕ → List ℕ
without_space bytes = if starts_with nat_eq bytes (codes " ") then drop 1 bytes else bytes

-- a type and a subtype with a slash between them; and behind a semicolon, and a space if that is
-- there, a parameter, if there is one: a name and a value with `=` between them
abbrev pub is_media_type : List ℕ → Bool
is_media_type bytes =
    let end = place_of 59 bytes in
    is_pair 47 (take end bytes)
    && (end == length bytes || is_pair 61 (without_space (drop (end + 1) bytes)))

-- an extension of names: letters and digits, one or more
abbrev pub is_extension : List ℕ → Bool
is_extension bytes = not (length bytes == 0) && list_all is_ascii_alphanumeric bytes

-- the most bytes of a media type
abbrev pub type_limit : ℕ
type_limit = 80

-- all types have at most so many
abbrev pub are_short_types : List (List ℕ × List ℕ) → Bool
are_short_types rows = list_all (λ row. nat_le (length row.1) type_limit) rows

-- why a type can't be added, if it can't: its extension isn't letters and digits alone, or it is no
-- media type within the limit
abbrev pub type_fault : List ℕ → List ℕ → Option TypeFault
type_fault extension media_type =
    if not (is_extension extension) then Some BadExtension
    else (if nat_lt type_limit (length media_type) || not (is_media_type media_type)
    then Some BadType else None)

-- a refusal that names a cause is that of the type
abbrev pub IsTypeFault : Option TypeFault → TypeFault → Type 0
IsTypeFault cause BadExtension = cause ≡ Some BadExtension
IsTypeFault cause BadType = cause ≡ Some BadType
IsTypeFault cause Memory = ⊤
