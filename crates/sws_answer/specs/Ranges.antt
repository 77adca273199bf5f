-- The part of a file that a request asks for (RFC 9110, section 14).
use Rattle.std.specs.Prelude.{ℕ, ◌<◌, ◌≤◌, ⊤, ◌+◌, ◌-◌, ◌==◌, ◌&&◌, ◌||◌, Bool, true, false, not, nat_lt, nat_le, min, if◌then◌else◌, List, take, drop, length, codes, Option, Some, None, option_map, option_and_then}
use Rattle.std.specs.List.{position_or_len}
use Rattle.std.specs.Option.{option_map_or}
use Rattle.std.specs.Str.{bytes_eq, str_eq_ignore_ascii_case, all_ascii_digits}
use Rattle.std.specs.Str.Parse.{digits_value}
use Rattle.sws_request.specs.Request.{Request}
use Rattle.httpdate.specs.declared.date.HttpDate.{HttpDate}
use Rattle.httpdate.specs.Date.{date_text}
use Rattle.sws_site.specs.Files.{File}
use Rattle.sws_site.specs.Site.{SiteState}
use Rattle.sws_answer.specs.declared.ranges.RangeSpec.{RangeSpec}
use Rattle.sws_answer.specs.declared.ranges.RangeSpec.TheVariants.{Between, Onward, Suffix}
use Rattle.sws_answer.specs.declared.ranges.Selection.{Selection}
use Rattle.sws_answer.specs.declared.ranges.Selection.TheVariants.{Whole, Part, Unsatisfied}
use Rattle.sws_answer.specs.Fields.{Field, values_of, has_field, trim_blanks}
use Rattle.sws_answer.specs.Conditions.{one_of}

-- ---- what is asked

-- a number of 1 to 18 decimal digits, of which the first ones may be 0
abbrev pub number_in : List ℕ → Option ℕ
number_in digits =
    if all_ascii_digits digits && not (length digits == 0) && nat_le (length digits) 18 then Some
    (digits_value 10 digits) else None

-- from one byte to another that is not before it
abbrev pub range_between : ℕ → ℕ → Option RangeSpec
range_between first last = if nat_le first last then Some (Between first last) else None

-- what stands before and behind the dash says a range (RFC 9110, section 14.1.1)
abbrev pub spec_of : List ℕ → List ℕ → Option RangeSpec
spec_of before behind =
    if length before == 0 then option_map Suffix (number_in behind)
    else (if length behind == 0 then option_map Onward (number_in before)
    else option_and_then (λ first.
    option_and_then (λ last. range_between first last) (number_in behind)) (number_in before))

-- b'-'
abbrev pub is_dash : ℕ → Bool
is_dash byte = byte == 45

-- one range, with a dash in it
abbrev pub spec_in : List ℕ → Option RangeSpec
spec_in text =
    let dash = position_or_len is_dash text in
    if nat_lt dash (length text) then spec_of (take dash text) (drop (dash + 1) text) else None

-- a value that says one range of bytes, without regard to ASCII case and to blanks round it (RFC
-- 9110, sections 14.1.2 and 14.2)
abbrev pub spec_in_value : List ℕ → Option RangeSpec
spec_in_value value =
    let text = trim_blanks value in
    if str_eq_ignore_ascii_case (take 6 text) (codes "bytes=") then spec_in (drop 6 text) else None

-- the value is the date, byte for byte as responses have it (RFC 9110, section 13.1.5)
abbrev pub is_text_of : Option HttpDate → List ℕ → Bool
is_text_of None value = false
is_text_of (Some date) value = bytes_eq value (date_text date)

-- the one condition on a range names the date of the site, where the site reads such conditions
-- (RFC 9110, section 13.1.5)
abbrev pub is_date_named : SiteState → List Field → Bool
is_date_named site fields =
    site.options.reads_if_range
    && option_map_or (is_text_of site.date) (one_of (values_of (codes "if-range") fields)) false

-- no condition on a range is given, or the one that is given holds
abbrev pub is_range_kept : SiteState → List Field → Bool
is_range_kept site fields = not (has_field (codes "if-range") fields) || is_date_named site fields

-- the request may ask the site for a range: by GET, and with no condition on it that fails
abbrev pub may_ask_range : SiteState → Request → Bool
may_ask_range site asked =
    bytes_eq asked.method (codes "GET") && is_range_kept site asked.fields

-- the range that it asks for, if it does so, with one field Range; all else is ignored
abbrev pub asked_range : SiteState → Request → Option RangeSpec
asked_range site asked =
    if may_ask_range site asked
    then option_and_then spec_in_value (one_of (values_of (codes "range") asked.fields))
    else None

-- ---- what is sent for it

-- from a byte that the file has
abbrev pub part_from : ℕ → ℕ → ℕ → Selection
part_from len first last = if nat_lt first len then Part first (min last (len - 1)) else Unsatisfied

-- what is sent of a file of so many bytes; the last bytes of an empty file are the file
abbrev pub selection_of : ℕ → RangeSpec → Selection
selection_of len (Between first last) = part_from len first last
selection_of len (Onward first) = part_from len first (len - 1)
selection_of len (Suffix count) =
    if count == 0 then Unsatisfied else (if len == 0 then Whole else Part (len - count) (len - 1))

-- what the range selects of a file of so many bytes; without one it is the whole file
abbrev pub selection_by : ℕ → Option RangeSpec → Selection
selection_by len None = Whole
selection_by len (Some spec) = selection_of len spec

-- what the request selects of a file of the site of so many bytes
abbrev pub selection_in : SiteState → Request → ℕ → Selection
selection_in site asked len = selection_by len (asked_range site asked)

-- what the request selects of the file that it names, if it names one
abbrev pub selection_for : SiteState → Request → Option File → Selection
selection_for site asked None = Whole
selection_for site asked (Some file) = selection_in site asked (length file.1)

-- a part of the file is selected
abbrev pub is_part : Selection → Bool
is_part Whole = false
is_part (Part first last) = true
is_part Unsatisfied = false

-- the file has no byte of the range
abbrev pub is_unsatisfied : Selection → Bool
is_unsatisfied Whole = false
is_unsatisfied (Part first last) = false
is_unsatisfied Unsatisfied = true

-- a part that is selected lies within the file
abbrev pub IsWithin : ℕ → Selection → Type 0
IsWithin len Whole = ⊤
IsWithin len (Part first last) = (first ≤ last) × (last < len)
IsWithin len Unsatisfied = ⊤
