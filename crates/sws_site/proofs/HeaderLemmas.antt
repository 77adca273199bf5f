-- Lines and media types that are added to a site.
use Rattle.std.specs.Prelude.{codes, ◌&&◌}
use Rattle.std.specs.List.{list_all}
use Rattle.std.proofs.Common.{◌≡◌, ◌+◌, ◌≤◌, ℕ, Bool, true, false, List, [], ◌∷◌, ◌++◌, length, length-append, refl, ap, arith}
use Rattle.sws_site.specs.HeaderFields.{header_text}

length-header : (name value : List ℕ) → length (header_text name value) ≡ length name + length value + 4
length-header name value = omega (arith, length-append ((name ++ codes ": ") ++ value) (codes "\r\n"), length-append (name ++ codes ": ") value, length-append name (codes ": "))

-- a line that has room
pub header-fits : (new old line name value : List ℕ) → new ≡ old ++ line → line ≡ header_text name value → length old + length name + length value + 4 ≤ 1024 → length new ≤ 1024
header-fits new old line name value is_new is_line fits =
    omega (arith, ap length is_new, length-append old line, ap length is_line, length-header name value)

both : (a b : Bool) → a ≡ true → b ≡ true → (a && b) ≡ true
both true true p q = refl
both true false p q = q
both false b p q = p

parts : (a b : Bool) → (a && b) ≡ true → (a ≡ true) × (b ≡ true)
parts true b e = (refl, e)
parts false b e = absurd (cc)

-- one element more that passes a test
pub list_all-push : {A : Type 0} (test : A → Bool) (xs : List A) (x : A) → list_all test xs ≡ true → test x ≡ true → list_all test (xs ++ x ∷ []) ≡ true
list_all-push test [] x all one = both (test x) true one refl
list_all-push test (y ∷ xs) x all one =
    let front = parts (test y) (list_all test xs) all in
    both (test y) (list_all test (xs ++ x ∷ [])) front.0 (list_all-push test xs x front.1 one)
