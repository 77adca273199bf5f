-- Laws of texts: a text stands for one list of bytes, and a text is read sign by sign.
use Rattle.std.proofs.Common.{◌≡◌, ℕ, ◌<◌, List, [], ◌∷◌, ◌++◌, length, None, refl, sym, ap, ◌∙◌, arith, append_assoc, append-nil, length-append}
use Rattle.std.specs.List.{flat_map, AllByRecursion}
use Rattle.sws_text.specs.declared.sign.Sign.{Sign}
use Rattle.sws_text.specs.declared.sign.Sign.TheVariants.{Plain, LineEnd, Feed, Return, Tab, Backslash, Tilde, Hex}
use Rattle.sws_text.specs.Signs.{bytes_of, spelling_of, IsSign}
use Rattle.sws_text.specs.SignsIn.{sign_in}
use Rattle.sws_text.specs.Texts.{StandsFor}
use Rattle.sws_text.proofs.SignLemmas.{sign_in-spelling, sign_in-found, found_at, found_same, found_none}

abbrev spelled : List Sign → List ℕ
spelled signs = flat_map spelling_of signs

abbrev AreSigns : List Sign → Type 0
AreSigns signs = AllByRecursion IsSign signs

-- what is found in front is the first sign, and behind it are the others
front_is : (one other : Sign) (a b : List ℕ) → IsSign one → IsSign other → spelling_of one ++ a ≡ spelling_of other ++ b → (one ≡ other) × (a ≡ b)
front_is one other a b is_one is_other e =
    found_same one other a b (sym (sign_in-spelling one a is_one) ∙ ap sign_in e ∙ sign_in-spelling other b is_other)

-- nothing has no sign
no_sign : (sign : Sign) (rest text : List ℕ) → IsSign sign → sign_in text ≡ None → text ≡ spelling_of sign ++ rest → ⊥
no_sign sign rest text is none e = found_none sign rest (sym none ∙ ap sign_in e ∙ sign_in-spelling sign rest is)

signs_unique : (one other : List Sign) → AreSigns one → AreSigns other → spelled one ≡ spelled other → one ≡ other
signs_unique [] [] is_one is_other e = refl
signs_unique [] (y ∷ other) is_one is_other e = absurd (no_sign y (spelled other) [] is_other.0 refl e)
signs_unique (x ∷ one) [] is_one is_other e = absurd (no_sign x (spelled one) [] is_one.0 refl (sym e))
signs_unique (x ∷ one) (y ∷ other) is_one is_other e =
    let front = front_is x y (spelled one) (spelled other) is_one.0 is_other.0 e in
    ap (λ s. s ∷ one) front.0 ∙ ap (λ ss. y ∷ ss) (signs_unique one other is_one.1 is_other.1 front.1)

-- a text stands for one list of bytes
pub StandsFor-unique : (text one other : List ℕ) → StandsFor text one → StandsFor text other → one ≡ other
StandsFor-unique text one other a b =
    a.bytes_are ∙ ap (flat_map bytes_of) (signs_unique a.signs b.signs a.each b.each (sym a.text_is ∙ b.text_is)) ∙ sym b.bytes_are

-- the signs in front of a rest were read, and these stand for the bytes
pub record HasRead (text rest bytes : List ℕ) : Type 0 where
  pub signs : List Sign
  pub each : AreSigns signs
  pub text_is : text ≡ flat_map spelling_of signs ++ rest
  pub bytes_are : bytes ≡ flat_map bytes_of signs

snoc_map : (f : Sign → List ℕ) (signs : List Sign) (sign : Sign) → flat_map f (signs ++ sign ∷ []) ≡ flat_map f signs ++ f sign
snoc_map f [] sign = append-nil (f sign)
snoc_map f (x ∷ signs) sign = ap (λ t. f x ++ t) (snoc_map f signs sign) ∙ sym (append_assoc (f x) (flat_map f signs) (f sign))

snoc_signs : (signs : List Sign) (sign : Sign) → AreSigns signs → IsSign sign → AreSigns (signs ++ sign ∷ [])
snoc_signs [] sign all is = (is, tt)
snoc_signs (x ∷ signs) sign all is = (all.0, snoc_signs signs sign all.1 is)

pub HasRead-more : (text rest bytes : List ℕ) (sign : Sign) (after : List ℕ) → HasRead text rest bytes → sign_in rest ≡ found_at sign after
    → HasRead text after (bytes ++ bytes_of sign)
HasRead-more text rest bytes sign after read e =
    let found = sign_in-found rest sign after e in
    record {
      signs = read.signs ++ sign ∷ [];
      each = snoc_signs read.signs sign read.each found.well;
      text_is = read.text_is ∙ ap (λ r. flat_map spelling_of read.signs ++ r) found.is
          ∙ sym (append_assoc (flat_map spelling_of read.signs) (spelling_of sign) after) ∙ ap (λ t. t ++ after) (sym (snoc_map spelling_of read.signs sign));
      bytes_are = ap (λ b. b ++ bytes_of sign) read.bytes_are ∙ sym (snoc_map bytes_of read.signs sign);
    }

-- what is left is shorter
pub shorter : (rest : List ℕ) (sign : Sign) (after : List ℕ) → sign_in rest ≡ found_at sign after → length after < length rest
shorter rest sign after e =
    let found = sign_in-found rest sign after e in omega (arith, ap length found.is, length-append (spelling_of sign) after, spelled_long sign)
  where
    spelled_long : (sign : Sign) → 0 < length (spelling_of sign)
    spelled_long (Plain byte) = omega arith
    spelled_long LineEnd = omega arith
    spelled_long Feed = omega arith
    spelled_long Return = omega arith
    spelled_long Tab = omega arith
    spelled_long Backslash = omega arith
    spelled_long Tilde = omega arith
    spelled_long (Hex byte) = omega arith

stuck : (done all : List Sign) (rest : List ℕ) → AreSigns done → AreSigns all → sign_in rest ≡ None → 0 < length rest → spelled done ++ rest ≡ spelled all → ⊥
stuck [] [] rest is_done is_all none some e = omega (arith, ap length e)
stuck [] (y ∷ all) rest is_done is_all none some e = no_sign y (spelled all) rest is_all.0 none e
stuck (x ∷ done) [] rest is_done is_all none some e =
    no_sign x (spelled done ++ rest) [] is_done.0 refl (sym e ∙ append_assoc (spelling_of x) (spelled done) rest)
stuck (x ∷ done) (y ∷ all) rest is_done is_all none some e =
    let front = front_is x y (spelled done ++ rest) (spelled all) is_done.0 is_all.0 (sym (append_assoc (spelling_of x) (spelled done) rest) ∙ e) in
    stuck done all rest is_done.1 is_all.1 none some front.1

-- where no sign follows, it is no text
pub no_text : (text rest bytes other : List ℕ) → HasRead text rest bytes → sign_in rest ≡ None → 0 < length rest → StandsFor text other → ⊥
no_text text rest bytes other read none some stands =
    stuck read.signs stands.signs rest read.each stands.each none some (sym read.text_is ∙ stands.text_is)
