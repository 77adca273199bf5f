-- Laws of the decimal digits of numbers, for the crates that read numbers of a text.
use Rattle.std.proofs.Common.{◌≡◌, ℕ, ◌-◌, ◌^◌, ◌<◌, ◌≤◌, ◌⊎◌, List, length, get_or, ◌∙◌, sym, ap, subst, inl, inr, lit<, arith}
use Rattle.std.proofs.Math.Nat.{pow-le-pow_right}
use Rattle.std.proofs.lemmas.Bool.{cases_order}
use Rattle.std.proofs.lemmas.Bool.Decides.{nat_tests}
use Rattle.std.specs.Char.{digit_value, IsAsciiDigit, IsNotAsciiDigit}
use Rattle.std.specs.Fmt.{decimal}
use Rattle.std.specs.Str.Parse.{AllDigits, digits_value}
use Rattle.std.proofs.lemmas.Fmt.{decimal_is_IsNumeral, decimal_digit, first_decimal, length-decimal-le, decimal-digits_value, digits_value-decimal}
use Rattle.std.proofs.lemmas.Int.Digits.{digits_value-lt}
use Rattle.std.proofs.lemmas.Str.Parse.{digit_at, numerals_by_value, tells_digits}

-- the digits of a number, at most so many, without leading zeros
pub record AreDigits (most : ℕ) (word : List ℕ) : Type 0 where
  pub some : 0 < length word
  pub few : length word ≤ most
  pub digits : AllDigits 10 word
  pub no_zero : get_or word 0 0 ≡ 48 → length word ≡ 1

leading : (n : ℕ) → n < 2 ^ 64 → get_or (decimal n) 0 0 ≡ 48 → length (decimal n) ≡ 1
leading n small zero = by_size (cases_order 0 n)
  where
    by_size : (0 ≡ n) ⊎ ((0 < n) ⊎ (n < 0)) → length (decimal n) ≡ 1
    by_size (inl e) = subst (λ k. length (decimal k) ≡ 1) e (ap length (decimal_digit 0 (lit< tt)))
    by_size (inr (inl lt)) = absurd (let first = first_decimal n lt small in omega arith)
    by_size (inr (inr lt)) = absurd (omega arith)

pub decimal_digits : (most n : ℕ) → 0 < most → n < 10 ^ most → n < 2 ^ 64 → AreDigits most (decimal n)
decimal_digits most n some few small =
    let numeral = decimal_is_IsNumeral n small in
    record {
      some = numeral.0.0;
      few = length-decimal-le most n some few small;
      digits = numeral.0.1;
      no_zero = leading n small;
    }

-- a word that has not the digits of a number is none
pub no_number : (most : ℕ) (word : List ℕ) (n : ℕ) → (AreDigits most word → ⊥) → word ≡ decimal n → 0 < most → n < 10 ^ most → n < 2 ^ 64 → ⊥
no_number most word n not is some few small = not (subst (AreDigits most) (sym is) (decimal_digits most n some few small))

pub no_digit : {most : ℕ} (word : List ℕ) (i : ℕ) → i < length word → IsNotAsciiDigit (get_or word i 0) → AreDigits most word → ⊥
no_digit word i lt not are = let at = digit_at word i are.digits lt in omega (arith, at, not)

-- the value of some digits is below the power of ten
pub value_small : (digits : List ℕ) (k : ℕ) → length digits ≤ k → AllDigits 10 digits → digits_value 10 digits < 10 ^ k
value_small digits k few all = let less = digits_value-lt 10 digits all in let more : 10 ^ length digits ≤ 10 ^ k = pow-le-pow_right (lit< tt) few in omega arith

-- digits without leading zeros are those of their value
pub decimal_value : {most : ℕ} (word : List ℕ) → AreDigits most word → digits_value 10 word < 2 ^ 64 → word ≡ decimal (digits_value 10 word)
decimal_value word are small = sym (decimal-digits_value (numerals_by_value (AllDigits 10) tells_digits) word are.digits are.some are.no_zero small)

-- the value of a digit
pub digit_is : (byte : ℕ) → IsAsciiDigit byte → (digit_value byte < 10) × (digit_value byte ≡ byte - 48)
digit_is byte is = (grind (arith, nat_tests), grind (arith, nat_tests))

-- the value of the digits of a number is the number
pub value_of : (word : List ℕ) (n : ℕ) → word ≡ decimal n → n < 2 ^ 64 → n ≡ digits_value 10 word
value_of word n is small = sym (ap (digits_value 10) is ∙ digits_value-decimal (numerals_by_value (AllDigits 10) tells_digits) n small)
