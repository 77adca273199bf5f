-- How long texts are: at most four bytes for one, and none is shorter than the one that is written.
use Rattle.std.proofs.Common.{◌≡◌, ℕ, ◌+◌, ◌*◌, ◌≤◌, Bool, true, false, cond, eqb, leb, ◌&&◌, List, [], ◌∷◌, ◌++◌, length, refl, sym, ap, arith, length-append, true-eqb}
use Rattle.std.proofs.lemmas.Bool.Decides.{nat_tests}
use Rattle.std.specs.List.{flat_map, AllByRecursion}
use Rattle.sws_text.specs.declared.sign.Sign.{Sign}
use Rattle.sws_text.specs.declared.sign.Sign.TheVariants.{Plain, LineEnd, Feed, Return, Tab, Backslash, Tilde, Hex}
use Rattle.sws_text.specs.Signs.{bytes_of, spelling_of, IsSign}
use Rattle.sws_text.specs.Texts.{StandsFor, sign_of, signs_of, text_of}

-- ---- at most four bytes for one

sign_few : (sign : Sign) → length (spelling_of sign) ≤ 4 * length (bytes_of sign)
sign_few (Plain byte) = omega arith
sign_few LineEnd = omega arith
sign_few Feed = omega arith
sign_few Return = omega arith
sign_few Tab = omega arith
sign_few Backslash = omega arith
sign_few Tilde = omega arith
sign_few (Hex byte) = omega arith

signs_few : (signs : List Sign) → length (flat_map spelling_of signs) ≤ 4 * length (flat_map bytes_of signs)
signs_few [] = omega arith
signs_few (sign ∷ signs) =
    let first = sign_few sign in let others = signs_few signs in
    omega (arith, length-append (spelling_of sign) (flat_map spelling_of signs), length-append (bytes_of sign) (flat_map bytes_of signs))

pub StandsFor-few : (text bytes : List ℕ) → StandsFor text bytes → length text ≤ 4 * length bytes
StandsFor-few text bytes stands =
    let few = signs_few stands.signs in let long = ap length stands.text_is in let of = ap length stands.bytes_are in omega arith

-- ---- the shortest

-- what is written for one byte
abbrev size_of : ℕ → ℕ
size_of byte = length (spelling_of (sign_of byte))

size_of-most : (byte : ℕ) → size_of byte ≤ 4
size_of-most byte = by_tests (eqb byte 10) (eqb byte 13) (eqb byte 9) (eqb byte 92) (eqb byte 126) (leb 32 byte && leb byte 126)
  where
    by_tests : (feed return tab backslash tilde plain : Bool)
        → length (spelling_of (cond feed Feed (cond return Return (cond tab Tab (cond backslash Backslash (cond tilde Tilde (cond plain (Plain byte) (Hex byte)))))))) ≤ 4
    by_tests true r t b d p = omega arith
    by_tests false true t b d p = omega arith
    by_tests false false true b d p = omega arith
    by_tests false false false true d p = omega arith
    by_tests false false false false true p = omega arith
    by_tests false false false false false true = omega arith
    by_tests false false false false false false = omega arith

size_of-some : (byte : ℕ) → 1 ≤ size_of byte
size_of-some byte = by_tests (eqb byte 10) (eqb byte 13) (eqb byte 9) (eqb byte 92) (eqb byte 126) (leb 32 byte && leb byte 126)
  where
    by_tests : (feed return tab backslash tilde plain : Bool)
        → 1 ≤ length (spelling_of (cond feed Feed (cond return Return (cond tab Tab (cond backslash Backslash (cond tilde Tilde (cond plain (Plain byte) (Hex byte))))))))
    by_tests true r t b d p = omega arith
    by_tests false true t b d p = omega arith
    by_tests false false true b d p = omega arith
    by_tests false false false true d p = omega arith
    by_tests false false false false true p = omega arith
    by_tests false false false false false true = omega arith
    by_tests false false false false false false = omega arith

pub sign_of-plain : (byte : ℕ) → IsSign (Plain byte) → sign_of byte ≡ Plain byte
sign_of-plain byte is = grind (arith, nat_tests)

-- how long what is written for bytes is
abbrev written : List ℕ → ℕ
written bytes = length (flat_map spelling_of (signs_of bytes))

written_feed : (bytes : List ℕ) → written (10 ∷ bytes) ≡ 2 + written bytes
written_feed [] = refl
written_feed (b ∷ bytes) = omega arith

-- one byte more adds at most its own sign
written-more : (byte : ℕ) (bytes : List ℕ) → written (byte ∷ bytes) ≤ size_of byte + written bytes
written-more byte [] = omega (arith, length-append (spelling_of (sign_of byte)) [])
written-more byte (next ∷ bytes) = by_tests (eqb byte 13) (eqb next 10) refl refl
  where
    by_tests : (s t : Bool) → s ≡ eqb byte 13 → t ≡ eqb next 10
        → length (flat_map spelling_of (cond (s && t) (LineEnd ∷ signs_of bytes) (sign_of byte ∷ signs_of (next ∷ bytes)))) ≤ size_of byte + written (next ∷ bytes)
    by_tests true true is_a is_b =
        let some = size_of-some byte in
        let feed : written (10 ∷ bytes) ≡ written (next ∷ bytes) = ap (λ n. written (n ∷ bytes)) (sym (true-eqb next 10 is_b)) in
        let more = written_feed bytes in omega arith
    by_tests true false is_a is_b = omega (arith, length-append (spelling_of (sign_of byte)) (flat_map spelling_of (signs_of (next ∷ bytes))))
    by_tests false t is_a is_b = omega (arith, length-append (spelling_of (sign_of byte)) (flat_map spelling_of (signs_of (next ∷ bytes))))

sign_shortest : (sign : Sign) (bytes : List ℕ) → IsSign sign → written (bytes_of sign ++ bytes) ≤ length (spelling_of sign) + written bytes
sign_shortest (Plain byte) bytes is =
    let more = written-more byte bytes in
    let one : size_of byte ≡ 1 = ap (λ s. length (spelling_of s)) (sign_of-plain byte is) in omega arith
sign_shortest LineEnd bytes is = omega arith
sign_shortest Feed bytes is = let more = written-more 10 bytes in omega arith
sign_shortest Return bytes is = let more = written-more 13 bytes in omega arith
sign_shortest Tab bytes is = let more = written-more 9 bytes in omega arith
sign_shortest Backslash bytes is = let more = written-more 92 bytes in omega arith
sign_shortest Tilde bytes is = let more = written-more 126 bytes in omega arith
sign_shortest (Hex byte) bytes is = let more = written-more byte bytes in let most = size_of-most byte in omega arith

signs_shortest : (signs : List Sign) → AllByRecursion IsSign signs → written (flat_map bytes_of signs) ≤ length (flat_map spelling_of signs)
signs_shortest [] all = omega arith
signs_shortest (sign ∷ signs) all =
    let first = sign_shortest sign (flat_map bytes_of signs) all.0 in let others = signs_shortest signs all.1 in
    omega (arith, length-append (spelling_of sign) (flat_map spelling_of signs))

-- no text of the bytes is shorter than the one that is written
pub StandsFor-shortest : (text bytes : List ℕ) → StandsFor text bytes → length (text_of bytes) ≤ length text
unfolding text_of
StandsFor-shortest text bytes stands =
    let few = signs_shortest stands.signs stands.each in
    let long = ap length stands.text_is in
    let of : written bytes ≡ written (flat_map bytes_of stands.signs) = ap written stands.bytes_are in omega arith
