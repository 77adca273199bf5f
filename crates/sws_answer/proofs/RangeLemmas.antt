-- Ranges of a file.
use Rattle.std.specs.Prelude.{◌≡◌, ◌≢◌, ℕ, ◌+◌, ◌-◌, ◌*◌, ◌^◌, ◌<◌, get_or, ◌≤◌, ◌==◌, Bool, true, false, nat_lt, nat_le, min, if◌then◌else◌, List, take, drop, slice_range, length, codes, Option, Some, None, ⊤, option_map, option_and_then}
use Rattle.std.specs.Str.{str_eq_ignore_ascii_case, all_ascii_digits}
use Rattle.std.specs.Str.Parse.{digits_value}
use Rattle.std.specs.Char.{digit_value}
use Rattle.std.proofs.lemmas.Str.Parse.{IsNumeralModel, numerals_by_value, tells_all_ascii_digits, digit_at, digits_value_short, digits_value-take-le}
use Rattle.std.proofs.lemmas.Str.{digit_value_digit}
use Rattle.std.proofs.lemmas.Int.Digits.{digits_value_more}
use Rattle.std.specs.List.{position_or_len}
use Rattle.std.specs.Option.{ForSome}
use Rattle.std.proofs.Common.{refl, sym, ap, ◌∙◌, arith, lit≤, lit<, length-drop, ltb-true, leb-true}
use Rattle.std.proofs.lemmas.Bool.{eq-eqb}
use Rattle.std.proofs.lemmas.List.{length-take}
use Rattle.sws_request.specs.Request.{Request}
use Rattle.httpdate.specs.declared.date.HttpDate.{HttpDate}
use Rattle.sws_site.specs.declared.statuses.Status.TheVariants.{PartialContent, RangeNotSatisfiable}
use Rattle.sws_site.specs.declared.heads.ContentRange.TheVariants.{Selected, NoSuch}
use Rattle.sws_site.specs.declared.options.SiteOptions.{SiteOptions}
use Rattle.sws_site.specs.ResponseHeads.{ResponseHead, head_text}
use Rattle.sws_site.specs.Fixed.{plain_text}
use Rattle.sws_site.specs.Options.{no_age}
use Rattle.sws_site.specs.Limits.{size_limit}
use Rattle.sws_site.specs.Files.{File}
use Rattle.sws_site.specs.Site.{SiteState}
use Rattle.sws_site.proofs.HeadLengthsLemmas.{head_text-short}
use Rattle.sws_answer.specs.declared.ranges.RangeSpec.{RangeSpec}
use Rattle.sws_answer.specs.declared.ranges.RangeSpec.TheVariants.{Between, Onward, Suffix}
use Rattle.sws_answer.specs.declared.ranges.Selection.TheVariants.{Whole, Part, Unsatisfied}
use Rattle.sws_answer.specs.Fields.{values_of, trim_blanks}
use Rattle.sws_answer.specs.Conditions.{one_of}
use Rattle.sws_answer.specs.Ranges.{number_in, range_between, spec_of, is_dash, spec_in_value, may_ask_range, asked_range, part_from, selection_of, selection_by, selection_in, selection_for, IsWithin}

-- ---- numbers

own : IsNumeralModel (λ ds. all_ascii_digits ds ≡ true) (digits_value 10)
own = numerals_by_value _ tells_all_ascii_digits

-- what one digit more does to the number of those before it
pub record NextDigit (digits : List ℕ) (place value digit : ℕ) : Type 0 where
  pub low : 48 ≤ digit
  pub high : digit ≤ 57
  pub next : digits_value 10 (take (place + 1) digits) ≡ value * 10 + (digit - 48)
  pub small : value * 10 + (digit - 48) < 10 ^ 18

pub next_digit : (digits : List ℕ) (place value : ℕ) → all_ascii_digits digits ≡ true → length digits ≤ 18 → place < length digits
    → value ≡ digits_value 10 (take place digits) → NextDigit digits place value (get_or digits place 0)
next_digit digits place value all few within is =
    let digit = digit_at digits place (own.to digits all) within in
    let low : 48 ≤ get_or digits place 0 = digit.0 in
    let high : get_or digits place 0 ≤ 57 = digit.1 in
    let next : digits_value 10 (take (place + 1) digits) ≡ value * 10 + (get_or digits place 0 - 48) =
    digits_value_more 10 digits place within
    ∙ ap (λ n. n * 10 + digit_value (get_or digits place 0)) (sym is)
    ∙ ap (λ n. value * 10 + n) (let e = digit_value_digit (get_or digits place 0) digit in let f : digit_value (get_or digits place 0) ≡ get_or digits place 0 - 48 = omega arith in f) in
    let most : digits_value 10 digits < 10 ^ 18 = digits_value_short own digits 18 all few in
    let part : digits_value 10 (take (place + 1) digits) ≤ digits_value 10 digits = digits_value-take-le 10 digits (place + 1) (lit≤ tt) in
    record { low = low; high = high; next = next; small = omega arith }

-- a range does not end before it begins
IsOrdered : RangeSpec → Type 0
IsOrdered (Between first last) = first ≤ last
IsOrdered (Onward first) = ⊤
IsOrdered (Suffix count) = ⊤

AreOrdered : Option RangeSpec → Type 0
AreOrdered None = ⊤
AreOrdered (Some spec) = IsOrdered spec

if-ordered : (t : Bool) (this that : Option RangeSpec) → AreOrdered this → AreOrdered that → AreOrdered (if t then this else that)
if-ordered true this that a b = a
if-ordered false this that a b = b

then-ordered : {A : Type 0} (given : Option A) (f : A → Option RangeSpec) → ((x : A) → AreOrdered (f x)) → AreOrdered (option_and_then f given)
unfolding AreOrdered
then-ordered None f each = tt
then-ordered (Some x) f each = each x

between-ordered : (first last : ℕ) → AreOrdered (range_between first last)
unfolding AreOrdered IsOrdered
between-ordered first last = by_test (nat_le first last) refl
  where
    by_test : (t : Bool) → nat_le first last ≡ t → AreOrdered (if t then Some (Between first last) else None)
    by_test true e = leb-true first last e
    by_test false e = tt

suffix-ordered : (given : Option ℕ) → AreOrdered (option_map Suffix given)
unfolding AreOrdered IsOrdered
suffix-ordered None = tt
suffix-ordered (Some count) = tt

onward-ordered : (given : Option ℕ) → AreOrdered (option_map Onward given)
unfolding AreOrdered IsOrdered
onward-ordered None = tt
onward-ordered (Some first) = tt

none-ordered : AreOrdered None
unfolding AreOrdered
none-ordered = tt

spec_of-ordered : (before behind : List ℕ) → AreOrdered (spec_of before behind)
spec_of-ordered before behind =
    if-ordered (length before == 0) _ _ (suffix-ordered (number_in behind)) (
    if-ordered (length behind == 0) _ _ (onward-ordered (number_in before)) (
    then-ordered (number_in before) _ (λ first. then-ordered (number_in behind) _ (λ last. between-ordered first last))))

spec_in_value-ordered : (value : List ℕ) → AreOrdered (spec_in_value value)
spec_in_value-ordered value =
    let text = drop 6 (trim_blanks value) in
    let dash = position_or_len is_dash text in
    if-ordered (str_eq_ignore_ascii_case (take 6 (trim_blanks value)) (codes "bytes=")) _ _
    (if-ordered (nat_lt dash (length text)) _ _ (spec_of-ordered (take dash text) (drop (dash + 1) text)) none-ordered)
    none-ordered

asked_range-ordered : (site : SiteState) (asked : Request) → AreOrdered (asked_range site asked)
asked_range-ordered site asked =
    if-ordered (may_ask_range site asked) _ _
    (then-ordered (one_of (values_of (codes "range") asked.fields)) _ spec_in_value-ordered) none-ordered

-- ---- what is selected lies within the file

part_from-within : (len first last : ℕ) → (first < len → first ≤ last) → IsWithin len (part_from len first last)
part_from-within len first last ordered = by_test (nat_lt first len) refl
  where
    by_test : (t : Bool) → nat_lt first len ≡ t → IsWithin len (if t then Part first (min last (len - 1)) else Unsatisfied)
    by_test true e = let lt : first < len = ltb-true first len e in let le = ordered lt in (omega arith, omega arith)
    by_test false e = tt

not_nil : (n : ℕ) → (n == 0) ≡ false → n ≢ 0
not_nil n e h = let t = eq-eqb n 0 h in absurd (cc)

suffix-within : (len count : ℕ) → IsWithin len (selection_of len (Suffix count))
suffix-within len count = by_count (count == 0) refl
  where
    by_len : count ≢ 0 → (t : Bool) → (len == 0) ≡ t → IsWithin len (if t then Whole else Part (len - count) (len - 1))
    by_len some true e = tt
    by_len some false e = let more = not_nil len e in (omega arith, omega arith)

    by_count : (t : Bool) → (count == 0) ≡ t → IsWithin len (if t then Unsatisfied else (if len == 0 then Whole else Part (len - count) (len - 1)))
    by_count true e = tt
    by_count false e = by_len (not_nil count e) (len == 0) refl

selection_by-within : (len : ℕ) (spec : Option RangeSpec) → AreOrdered spec → IsWithin len (selection_by len spec)
unfolding AreOrdered IsOrdered
selection_by-within len None ordered = tt
selection_by-within len (Some (Between first last)) ordered = part_from-within len first last (λ h. ordered)
selection_by-within len (Some (Onward first)) ordered = part_from-within len first (len - 1) (λ h. omega arith)
selection_by-within len (Some (Suffix count)) ordered = suffix-within len count

pub selection_in-within : (site : SiteState) (asked : Request) (len : ℕ) → IsWithin len (selection_in site asked len)
selection_in-within site asked len = selection_by-within len (asked_range site asked) (asked_range-ordered site asked)

pub selection_for-within : (site : SiteState) (asked : Request) (file : File) → IsWithin (length file.1) (selection_for site asked (Some file))
selection_for-within site asked file = selection_in-within site asked (length file.1)

-- a part of some bytes is no longer than they are
pub length-part-le : (bytes : List ℕ) (first last limit : ℕ) → length bytes ≤ limit → length (slice_range bytes first last) ≤ limit
length-part-le bytes first last limit short = omega (arith, length-take (last - first) (drop first bytes), length-drop first bytes)

-- ---- the heads that say what is sent of a file

abbrev pub part_head : SiteOptions → Bool → ℕ → ℕ → Option HttpDate → Option ℕ → List ℕ → List ℕ → ResponseHead
part_head options closes first last date max_age media_type bytes =
    record {
      status = PartialContent;
      location = None;
      closes = closes;
      says_kept = options.keeps_alive;
      date = date;
      max_age = max_age;
      range = Some (Selected first last (length bytes));
      media_type = media_type;
      len = length (slice_range bytes first (last + 1));
      headers = options.added.headers;
    }

pub part_head-same : (options : SiteOptions) (closes : Bool) (first last : ℕ) (date other : Option HttpDate) (max_age age : Option ℕ) (media_type media bytes contents : List ℕ) → date ≡ other → max_age ≡ age → media_type ≡ media
    → bytes ≡ contents → head_text (part_head options closes first last date max_age media_type bytes) ≡ head_text (part_head options closes first last other age media contents)
part_head-same options closes first last date other max_age age media_type media bytes contents d a k b = cc

pub part_head-short : (options : SiteOptions) (closes : Bool) (first last : ℕ) (date : Option HttpDate) (max_age : Option ℕ) (media_type bytes : List ℕ) → ForSome max_age (λ seconds. seconds < 2 ^ 32)
    → length media_type ≤ 80 → length bytes ≤ size_limit → first ≤ last → last < length bytes → length (head_text (part_head options closes first last date max_age media_type bytes)) ≤ 1360
part_head-short options closes first last date max_age media_type bytes age short few ordered within =
    let part = length-part-le bytes first (last + 1) size_limit few in
    head_text-short (part_head options closes first last date max_age media_type bytes) short (omega arith) (omega arith, omega arith, omega arith, omega arith) age options.added.short_headers

abbrev pub no_part_head : SiteOptions → Bool → Option HttpDate → ℕ → ResponseHead
no_part_head options closes date len =
    record { status = RangeNotSatisfiable; location = None; closes = closes; says_kept = options.keeps_alive; date = date; max_age = None; range = Some (NoSuch len); media_type = plain_text; len = 26; headers = options.added.headers }

pub no_part_head-short : (options : SiteOptions) (closes : Bool) (date : Option HttpDate) (len : ℕ) → len ≤ size_limit → length (head_text (no_part_head options closes date len)) ≤ 1360
no_part_head-short options closes date len few = head_text-short (no_part_head options closes date len) (lit≤ tt) (lit< tt) (omega arith, lit≤ tt) no_age options.added.short_headers
