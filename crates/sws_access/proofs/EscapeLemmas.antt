-- Bytes as a log shows them.
use Rattle.std.specs.Prelude.{nat_le, nat_lt, not, ◌&&◌, ◌==◌, ◌≢◌, ◌^◌, if◌then◌else◌}
use Rattle.std.specs.List.{AllByRecursion}
use Rattle.std.proofs.Common.{◌≡◌, ℕ, ◌+◌, ◌/◌, ◌%◌, ◌<◌, ◌≤◌, Bool, true, false, List, [], ◌∷◌, ◌++◌, refl, sym, ap, ◌∙◌, subst, arith, leb-true, ltb-true}
use Rattle.sws_access.specs.Escapes.{IsHarmless, digit_of, escape_of, escaped, is_plain}

-- a digit is harmless
digit-harmless : (number : ℕ) → number < 16 → IsHarmless (digit_of number)
digit-harmless number few = by_test (nat_lt number 10) refl
  where
    by_test : (t : Bool) → t ≡ nat_lt number 10 → IsHarmless (if t then 48 + number else 55 + number)
    by_test true e =
        let low = ltb-true number 10 (sym e) in
        record { least = omega arith; most = omega (arith, low); no_quote = λ is. omega (arith, is) }
    by_test false e = record { least = omega arith; most = omega (arith, few); no_quote = λ is. omega (arith, is) }

-- so is a byte that stands for itself
plain-harmless : (byte : ℕ) → is_plain byte ≡ true → IsHarmless byte
plain-harmless byte plain = by_tests (nat_le 32 byte) (nat_le byte 126) (byte == 34) (byte == 92) refl refl refl plain
  where
    by_tests : (a b c d : Bool) → a ≡ nat_le 32 byte → b ≡ nat_le byte 126 → c ≡ (byte == 34) → (a && b) && (not c && not d) ≡ true → IsHarmless byte
    by_tests true true false d low high other all = record {
      least = leb-true 32 byte (sym low);
      most = leb-true byte 126 (sym high);
      no_quote = λ is. let no : false ≡ true = other ∙ ap (λ n. n == 34) is in cc;
    }
    by_tests true true true d low high other all = absurd (let no : false ≡ true = all in cc)
    by_tests true false c d low high other all = absurd (let no : false ≡ true = all in cc)
    by_tests false b c d low high other all = absurd (let no : false ≡ true = all in cc)

-- and so is what stands for any byte
escape-harmless : (byte : ℕ) → byte < 2 ^ 8 → AllByRecursion IsHarmless (escape_of byte)
escape-harmless byte few = by_test (is_plain byte) refl
  where
    by_test : (t : Bool) → t ≡ is_plain byte
        → AllByRecursion IsHarmless (if t then byte ∷ [] else 92 ∷ 120 ∷ digit_of (byte / 16) ∷ digit_of (byte % 16) ∷ [])
    by_test true e = (plain-harmless byte (sym e), tt)
    by_test false e = (
      record { least = omega arith; most = omega arith; no_quote = λ is. omega (arith, is) },
      (
        record { least = omega arith; most = omega arith; no_quote = λ is. omega (arith, is) },
        (digit-harmless (byte / 16) (omega (arith, few)), (digit-harmless (byte % 16) (omega arith), tt)),
      ),
    )

all-append : (P : ℕ → Type 0) (xs ys : List ℕ) → AllByRecursion P xs → AllByRecursion P ys → AllByRecursion P (xs ++ ys)
all-append P [] ys all more = more
all-append P (x ∷ xs) ys all more = (all.0, all-append P xs ys all.1 more)

pub escaped-harmless : (bytes : List ℕ) → AllByRecursion (λ byte. byte < 2 ^ 8) bytes → AllByRecursion IsHarmless (escaped bytes)
escaped-harmless [] all = tt
escaped-harmless (byte ∷ bytes) all = all-append IsHarmless (escape_of byte) (escaped bytes) (escape-harmless byte all.0) (escaped-harmless bytes all.1)
