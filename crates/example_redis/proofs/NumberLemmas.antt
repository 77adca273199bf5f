-- Which texts are numbers.
use Rattle.std.proofs.Common.{◌≡◌, ◌<◌, ◌^◌, ℕ, List, Some, None, Bool, false, ◌∙◌, ap, arith, sym, if◌then◌else◌}
use Rattle.std.specs.Prelude.{Result, Ok, Err, ℤ}
use Rattle.std.proofs.lemmas.Grind.{common_steps}
use Rattle.std.proofs.lemmas.Slice.Eq.{bytes_eq-Decides}
use Rattle.std.proofs.lemmas.Str.{IsUtf8-from_ascii}
use Rattle.std.specs.Str.{IsUtf8}
use lib.Signed.{mag}
use mir.Syntax.{w64}
use Rattle.std.specs.Fmt.{signed_decimal}
use Rattle.std.specs.Str.Parse.{ParsesSigned, signed_digits_value}
use Rattle.std.proofs.lemmas.Fmt.{parse-signed_decimal, IsAscii-signed}
use Rattle.example_redis.specs.Numbers.{is_number, number_of}

-- a text is no such number
abbrev IsNot : List ℕ → ℤ → Type 0
IsNot text number = text ≡ signed_decimal number → mag number < 2 ^ 63 → ⊥

is_not : (text : List ℕ) (number : ℤ) → IsNot text number → is_number text number ≡ false
is_not text number none = grind (arith, common_steps, bytes_eq-Decides (signed_decimal number) text)

pub no_number : (text : List ℕ) → ((number : ℤ) → IsNot text number) → None ≡ number_of text
no_number text none = ap (λ (b : Bool). if b then Some (signed_digits_value 10 text) else None) (sym (is_not text (signed_digits_value 10 text) (none (signed_digits_value 10 text))))

pub no_text : (text : List ℕ) → (IsUtf8 text → ⊥) → None ≡ number_of text
no_text text none = no_number text (λ number is small. none (rw is (IsUtf8-from_ascii (signed_decimal number) (IsAscii-signed number small))))

ok_not_err : {E : Type 0} (answer : Result ℤ E) (number : ℤ) (error : E) → answer ≡ Ok number → answer ≡ Err error → ⊥
ok_not_err answer number error one other = cc

pub not_read : {E : Type 0} (text word : List ℕ) (answer : Result ℤ E) (error : E) → word ≡ text → answer ≡ Err error → ParsesSigned w64 10 word answer → None ≡ number_of text
not_read text word answer error same fails parses = no_number text (λ number is small. ok_not_err answer number error (parse-signed_decimal w64 number word answer (record { sfits = small }) small (same ∙ is) parses) fails)
