-- Numbers in words.
use Rattle.std.specs.Prelude.{option_and_then, if◌then◌else◌}
use Rattle.std.proofs.Common.{◌≡◌, ℕ, zero, suc, ◌<◌, ◌≤◌, ◌^◌, ◌==◌, ◌&&◌, not, Bool, true, false, nat_le, List, length, Option, Some, None, refl, sym, ap, ◌∙◌, arith, ne_eqb, leb-true, le-leb}
use Rattle.std.proofs.lemmas.Bool.{lt-leb}
use Rattle.std.specs.Str.{all_ascii_digits}
use Rattle.std.specs.Str.Parse.{IsNumeral, digits_value, without_leading_plus}
use Rattle.std.proofs.lemmas.Str.Parse.{IsNumeralModel, numerals_by_value, tells_all_ascii_digits}
use Rattle.sws_words.specs.Orders.{within}

own : IsNumeralModel (λ ds. all_ascii_digits ds ≡ true) (digits_value 10)
own = numerals_by_value (λ ds. all_ascii_digits ds ≡ true) tells_all_ascii_digits

-- the test of `number_in`
abbrev is_numeral : List ℕ → Bool
is_numeral digits = all_ascii_digits digits && not (length digits == 0)

passes : (digits : List ℕ) → IsNumeral 10 digits → is_numeral digits ≡ true
passes digits (some, all) =
    ap (λ t. t && not (length digits == 0)) (own.from digits all)
    ∙ ap not (ne_eqb (length digits) 0 (λ e. omega arith))

numeral : (digits : List ℕ) → is_numeral digits ≡ true → IsNumeral 10 digits
numeral digits e = by_test (all_ascii_digits digits) (length digits) refl refl e
  where
    by_test : (all : Bool) (n : ℕ) → all ≡ all_ascii_digits digits → n ≡ length digits → (all && not (n == 0)) ≡ true → IsNumeral 10 digits
    by_test false n a l t = cc
    by_test true zero a l t = cc
    by_test true (suc n) a l t = (omega arith, own.to digits (sym a))

-- the number, where it lies in the range
abbrev in_range : ℕ → ℕ → ℕ → Option ℕ
in_range least most n = if nat_le least n && nat_le n most then Some n else None

within_by : (least most : ℕ) (word : List ℕ) (t : Bool) → t ≡ is_numeral (without_leading_plus word)
    → within least most word ≡ option_and_then (in_range least most) (if t then Some (digits_value 10 (without_leading_plus word)) else None)
unfolding within
within_by least most word t e = ap (λ t. option_and_then (in_range least most) (if t then Some (digits_value 10 (without_leading_plus word)) else None)) (sym e)

-- the word is a number of 64 bits, as `parse` has it
abbrev pub IsNumber : List ℕ → Type 0
IsNumber word = IsNumeral 10 (without_leading_plus word) × (digits_value 10 (without_leading_plus word) < 2 ^ 64)

parsed_within : (least most : ℕ) (word : List ℕ) (n : ℕ) → IsNumber word × (n ≡ digits_value 10 (without_leading_plus word)) → within least most word ≡ in_range least most n
parsed_within least most word n (is, value) =
    within_by least most word true (sym (passes (without_leading_plus word) is.0)) ∙ ap (in_range least most) (sym value)

and_false : (a b : Bool) → b ≡ false → (a && b) ≡ false
and_false true b e = e
and_false false b e = refl

pub not_parsed : (least most : ℕ) (word : List ℕ) → most < 2 ^ 64 → ¬ (IsNumber word) → None ≡ within least most word
not_parsed least most word few not_number = sym (by_test (is_numeral (without_leading_plus word)) refl)
  where
    value : ℕ
    value = digits_value 10 (without_leading_plus word)

    by_range : (t : Bool) → t ≡ nat_le value most → is_numeral (without_leading_plus word) ≡ true → in_range least most value ≡ None
    by_range false e is = ap (λ t. if t then Some value else None) (and_false (nat_le least value) (nat_le value most) (sym e))
    by_range true e is =
        let below = leb-true value most (sym e) in
        absurd (not_number (numeral (without_leading_plus word) is, omega arith))

    by_test : (t : Bool) → t ≡ is_numeral (without_leading_plus word) → within least most word ≡ None
    by_test false e = within_by least most word false e
    by_test true e = within_by least most word true e ∙ by_range (nat_le value most) refl (sym e)

pub is_within : (least most : ℕ) (word : List ℕ) (n : ℕ) → IsNumber word × (n ≡ digits_value 10 (without_leading_plus word)) → least ≤ n → n ≤ most
    → Some n ≡ within least most word
is_within least most word n parses above below =
    sym (parsed_within least most word n parses ∙ rw (le-leb least n above, le-leb n most below) refl)

pub too_small : (least most : ℕ) (word : List ℕ) (n : ℕ) → IsNumber word × (n ≡ digits_value 10 (without_leading_plus word)) → n < least
    → None ≡ within least most word
too_small least most word n parses below =
    sym (parsed_within least most word n parses ∙ rw (lt-leb least n below) refl)

pub too_great : (least most : ℕ) (word : List ℕ) (n : ℕ) → IsNumber word × (n ≡ digits_value 10 (without_leading_plus word)) → most < n
    → None ≡ within least most word
too_great least most word n parses above =
    sym (parsed_within least most word n parses ∙ ap (λ t. if t then Some n else None) (and_false (nat_le least n) (nat_le n most) (lt-leb n most above)))
