-- Whether a file was not modified since the date that a request names (RFC 9110, section 13.1.3).
use Rattle.std.specs.Prelude.{ℕ, ◌≤◌, Bool, false, not, ◌&&◌, nat_le, List, [], ◌∷◌, codes, Option, Some, None}
use Rattle.std.specs.Option.{option_map_or}
use Rattle.httpdate.specs.declared.date.HttpDate.{HttpDate}
use Rattle.httpdate.specs.Date.{unix_secs, parse_secs, IsDateText}
use Rattle.sws_answer.specs.Fields.{Field, values_of, has_field}

-- the value is a date in one of the three forms, and it is not before the date
-- (RFC 9110, section 5.6.7)
abbrev pub is_not_before : HttpDate → List ℕ → Bool
is_not_before date value =
    option_map_or (λ secs. nat_le (unix_secs date) secs) (parse_secs value) false

-- the value is a text of a date in one of the three forms that is not before the date
-- (RFC 9110, section 5.6.7)
abbrev pub NamesDateFrom : HttpDate → List ℕ → Type 0
NamesDateFrom date value = (named : HttpDate) × IsDateText value named
    × (unix_secs date ≤ unix_secs named)

-- the value, where there is exactly one
abbrev pub one_of : List (List ℕ) → Option (List ℕ)
one_of [] = None
one_of (value ∷ []) = Some value
one_of (value ∷ next ∷ values) = None

-- a site of this date was not modified since the request's date; If-None-Match comes before it
abbrev pub is_unmodified : Option HttpDate → List Field → Bool
is_unmodified None fields = false
is_unmodified (Some date) fields =
    not (has_field (codes "if-none-match") fields)
    && option_map_or (is_not_before date)
    (one_of (values_of (codes "if-modified-since") fields)) false
