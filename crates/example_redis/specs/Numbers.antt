-- Which values are numbers.
use Rattle.std.specs.Prelude.{◌&&◌, ◌^◌, ℕ, ℤ, Bool, List, Option, Some, None, nat_lt, if◌then◌else◌}
use lib.Signed.{mag}
use Rattle.std.specs.Fmt.{signed_decimal}
use Rattle.std.specs.Str.{bytes_eq}
use Rattle.std.specs.Str.Parse.{signed_digits_value}

-- A text is a number if it is how that number is written: without a plus sign, zeros in front, or
-- anything else. A number has 64 bits: its magnitude, of -(n + 1) as of n, is below 2 ^ 63.
abbrev pub is_number : List ℕ → ℤ → Bool
is_number text number = nat_lt (mag number) (2 ^ 63) && bytes_eq (signed_decimal number) text

abbrev pub number_of : List ℕ → Option ℤ
number_of text = let number = signed_digits_value 10 text in
    if is_number text number then Some number else None
