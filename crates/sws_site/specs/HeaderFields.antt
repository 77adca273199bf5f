-- The header fields that the owner of a site adds (RFC 9110, sections 5.1 and 5.5).
use Rattle.std.specs.Prelude.{◌≡◌, ℕ, ◌+◌, ◌-◌, ◌==◌, ◌&&◌, ◌||◌, Bool, not, nat_le, nat_lt, if◌then◌else◌, List, [], ◌∷◌, ◌++◌, length, get_or, codes, Option, Some, None, ⊤}
use Rattle.std.specs.Char.{is_ascii_alphanumeric}
use Rattle.std.specs.List.{list_all, list_any}
use Rattle.std.specs.Str.{str_eq_ignore_ascii_case}
use Rattle.sws_site.specs.declared.header_faults.HeaderFault.{HeaderFault}
use Rattle.sws_site.specs.declared.header_faults.HeaderFault.TheVariants.{BadName, BadValue, SentAlready, TooLong, Memory}

-- a byte of a token (RFC 9110, section 5.6.2)
abbrev pub is_token_byte : ℕ → Bool
is_token_byte byte =
    is_ascii_alphanumeric byte || list_any (λ other. other == byte) (codes "!#$%&'*+-.^_`|~")

-- a token: one such byte or more
abbrev pub is_token : List ℕ → Bool
is_token word = not (length word == 0) && list_all is_token_byte word

-- a byte that is seen (RFC 5234, appendix B.1)
abbrev pub is_visible : ℕ → Bool
is_visible byte = nat_le 33 byte && nat_le byte 126

-- a byte of a value: one that is seen, a space or a tab
abbrev pub is_value_byte : ℕ → Bool
is_value_byte byte = is_visible byte || byte == 32 || byte == 9

-- a value: it begins and ends with a byte that is seen, so it is not empty
abbrev pub is_field_value : List ℕ → Bool
is_field_value value =
    list_all is_value_byte value && is_visible (get_or value 0 0)
    && is_visible (get_or value (length value - 1) 0)

-- the name is one of these, without regard to ASCII case (RFC 9110, section 5.1)
abbrev pub is_one_of : List (List ℕ) → List ℕ → Bool
is_one_of names name = list_any (λ other. str_eq_ignore_ascii_case name other) names

-- fields of the server, of another place, and of the connection or how a message ends
abbrev pub connection_names : List (List ℕ)
connection_names =
    codes "Server" ∷ codes "Date" ∷ codes "Location" ∷ codes "Connection" ∷ codes "Keep-Alive"
    ∷ codes "Upgrade" ∷ codes "Transfer-Encoding" ∷ codes "Trailer" ∷ []

-- fields of a file and its content
abbrev pub content_names : List (List ℕ)
content_names =
    codes "Last-Modified" ∷ codes "Allow" ∷ codes "Accept-Ranges" ∷ codes "Content-Range"
    ∷ codes "Content-Type" ∷ codes "Content-Length" ∷ codes "Content-Encoding" ∷ []

-- the server answers for fields of this name itself
abbrev pub is_sent_name : List ℕ → Bool
is_sent_name name = is_one_of connection_names name || is_one_of content_names name

-- the line of a field, with its end (RFC 9112, section 5)
abbrev pub header_text : List ℕ → List ℕ → List ℕ
header_text name value = ((name ++ codes ": ") ++ value) ++ codes "\r\n"

-- the most bytes that all lines have, with their ends
abbrev pub header_limit : ℕ
header_limit = 1024

-- why a field can't be added to these lines, if it can't: the first of these causes that it has:
-- its name is no token, its value isn't one of a field, the server answers for such a field itself,
-- or there would be too many bytes of lines
abbrev pub header_fault : List ℕ → List ℕ → List ℕ → Option HeaderFault
header_fault before name value =
    if not (is_token name) then Some BadName
    else (if not (is_field_value value) then Some BadValue
    else (if is_sent_name name then Some SentAlready
    else (if nat_lt header_limit (length before + length name + length value + 4) then Some TooLong
    else None)))

-- a refusal that names a cause is that of the field
abbrev pub IsHeaderFault : Option HeaderFault → HeaderFault → Type 0
IsHeaderFault cause BadName = cause ≡ Some BadName
IsHeaderFault cause BadValue = cause ≡ Some BadValue
IsHeaderFault cause SentAlready = cause ≡ Some SentAlready
IsHeaderFault cause TooLong = cause ≡ Some TooLong
IsHeaderFault cause Memory = ⊤
