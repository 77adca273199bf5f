-- The fields of a request (RFC 9110, section 5).
use Rattle.std.specs.Prelude.{ℕ, Bool, ◌==◌, ◌||◌, if◌then◌else◌, List, [], ◌∷◌, map, filter, reverse}
use Rattle.std.specs.List.{list_any, slice_split}
use Rattle.std.specs.Str.{str_eq_ignore_ascii_case}

-- a name and a value
abbrev pub Field : Type 0
Field = List ℕ × List ℕ

-- names are compared without regard to ASCII case (RFC 9110, section 5.1)
abbrev pub is_named : List ℕ → Field → Bool
is_named name field = str_eq_ignore_ascii_case field.0 name

-- the values of the fields of this name, in order
abbrev pub values_of : List ℕ → List Field → List (List ℕ)
values_of name fields = map (λ field. field.1) (filter (is_named name) fields)

-- there is a field of this name
abbrev pub has_field : List ℕ → List Field → Bool
has_field name fields = list_any (is_named name) fields

-- a space or a horizontal tab (RFC 9110, section 5.6.3)
abbrev pub is_blank : ℕ → Bool
is_blank byte = byte == 32 || byte == 9

-- the text without the blanks at its front
abbrev pub without_front : List ℕ → List ℕ
without_front [] = []
without_front (byte ∷ text) = if is_blank byte then without_front text else byte ∷ text

-- the text without the blanks at its ends
abbrev pub trim_blanks : List ℕ → List ℕ
trim_blanks text = reverse (without_front (reverse (without_front text)))

-- what stands between the commas of a list (RFC 9110, section 5.6.1)
abbrev pub parts_of : List ℕ → List (List ℕ)
parts_of value = slice_split (λ byte. byte == 44) value

-- without the blanks round it, this is the word, without regard to ASCII case
abbrev pub is_member : List ℕ → List ℕ → Bool
is_member word part = str_eq_ignore_ascii_case (trim_blanks part) word

-- the list has this member
abbrev pub has_member : List ℕ → List ℕ → Bool
has_member word value = list_any (is_member word) (parts_of value)
