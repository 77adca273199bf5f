-- Where parts of a pattern lead to a `*`, only what is behind it is tried further.
use Rattle.std.proofs.Common.{◌≡◌, ◌<◌, ◌≤◌, ◌+◌, zero, suc, ℕ, Bool, true, false, List, [], ◌∷◌, ◌∙◌, ap, arith, add-one, drop, drop-cons, get_or, if◌then◌else◌, length, map, refl, subst, sym}
use Rattle.example_redis.specs.declared.glob.Part as declared
use Rattle.example_redis.specs.Globs.{Part, Many, One, is_none, is_star, matches, one_and, part_of, some_rest, takes}
use Rattle.example_redis.specs.Globbing.{Leads, parts_at}

true_or_false : (b : Bool) → b ≡ true → b ≡ false → ⊥
true_or_false b is isnt = let so = is in let not_so = isnt in cc

pub leads_first : (parts : List Part) (key : List ℕ) → Leads parts parts key key
leads_first parts key = record { same = refl; later = λ count is. is }

-- a byte of a key was taken
one_later : (part : Part) (parts : List Part) (rest : List ℕ) (count : ℕ) → one_and part (matches parts) (drop count rest) ≡ true → matches parts (drop (suc count) rest) ≡ true
one_later part parts [] count is = absurd (true_or_false false (none count is) refl)
  where
    none : (count : ℕ) → one_and part (matches parts) (drop count []) ≡ true → false ≡ true
    none zero is = is
    none (suc count) is = is
one_later part parts (byte ∷ rest) zero is = took (takes part byte) is
  where
    took : (b : Bool) → (if b then matches parts rest else false) ≡ true → matches parts rest ≡ true
    took true is = is
    took false is = absurd (true_or_false false is refl)
one_later part parts (byte ∷ rest) (suc count) is = one_later part parts rest count is

pub leads_on : (parts further : List Part) (part : Part) (key : List ℕ) (byte : ℕ) (rest : List ℕ) → is_star part ≡ false → takes part byte ≡ true → Leads parts (part ∷ further) key (byte ∷ rest) → Leads parts further key rest
leads_on parts further Many key byte rest star is leads = absurd (true_or_false true refl star)
leads_on parts further (One other ranges) key byte rest star is leads = record {
  same = leads.same ∙ ap (λ (b : Bool). if b then matches further rest else false) is;
  later = λ count at. one_later (One other ranges) further (byte ∷ rest) count (leads.later count at);
}

-- ---- what some rest is

or_true : (one other : Bool) → other ≡ true → (if one then true else other) ≡ true
or_true true other is = refl
or_true false other is = is

either_true : {G : Type 0} (one other : Bool) → (if one then true else other) ≡ true → (one ≡ true → G) → (other ≡ true → G) → G
either_true true other is first second = first refl
either_true false other is first second = second is

pub first_of : (wanted : List ℕ → Bool) (key : List ℕ) → wanted key ≡ true → some_rest wanted key ≡ true
first_of wanted [] is = is
first_of wanted (byte ∷ key) is = ap (λ (b : Bool). if b then true else some_rest wanted key) is

rest_of : (wanted : List ℕ → Bool) (key : List ℕ) (count : ℕ) → some_rest wanted (drop count key) ≡ true → some_rest wanted key ≡ true
rest_of wanted [] zero is = is
rest_of wanted [] (suc count) is = is
rest_of wanted (byte ∷ key) zero is = is
rest_of wanted (byte ∷ key) (suc count) is = or_true (wanted (byte ∷ key)) (some_rest wanted key) (rest_of wanted key count is)

by_rest : {G : Type 0} (wanted : List ℕ → Bool) (key : List ℕ) → ((count : ℕ) → wanted (drop count key) ≡ true → G) → some_rest wanted key ≡ true → G
by_rest wanted [] gives is = gives 0 is
by_rest wanted (byte ∷ key) gives is = either_true (wanted (byte ∷ key)) (some_rest wanted key) is (gives 0) (by_rest wanted key (λ count. gives (suc count)))

both_or_none : (one other : Bool) → (one ≡ true → other ≡ true) → (other ≡ true → one ≡ true) → one ≡ other
both_or_none true other on back = sym (on refl)
both_or_none false true on back = back refl
both_or_none false false on back = refl

-- parts that lead to a `*` match some rest of a key where what is behind that does
pub star_is_all : (parts further : List Part) (key rest : List ℕ) → Leads parts (Many ∷ further) key rest → some_rest (matches parts) key ≡ some_rest (matches further) rest
star_is_all parts further key rest leads = both_or_none (some_rest (matches parts) key) (some_rest (matches further) rest)
    (λ is. by_rest (matches parts) key (λ count at. rest_of (matches further) rest count (leads.later count at)) is)
    (λ is. first_of (matches parts) key (leads.same ∙ is))

pub step_of : (key : List ℕ) (byte : ℕ) → byte < length key → drop byte key ≡ get_or key byte 0 ∷ drop (byte + 1) key
step_of key byte low = rw (add-one, drop-cons key byte 0)

pub stuck_here : (wanted : List ℕ → Bool) (key : List ℕ) (byte : ℕ) → byte < length key → wanted (drop byte key) ≡ false → some_rest wanted (drop byte key) ≡ some_rest wanted (drop (byte + 1) key)
stuck_here wanted key byte low is = let step = step_of key byte low in
    ap (some_rest wanted) step ∙ ap (λ (b : Bool). if b then true else some_rest wanted (drop (byte + 1) key)) (ap wanted (sym step) ∙ is)

past : {A : Type 0} (items : List A) (place : ℕ) → length items ≤ place → drop place items ≡ []
past [] zero low = refl
past [] (suc place) low = refl
past (item ∷ items) zero low = absurd (omega (arith, low))
past (item ∷ items) (suc place) low = past items place (omega (arith, low))

-- ---- the parts and bytes at a spot

at_place : {A : Type 0} (items : List A) (place : ℕ) (one d : A) → place < length items → one ≡ get_or items place d → drop place items ≡ one ∷ drop (place + 1) items
at_place items place one d low is = (let step : drop place items ≡ get_or items place d ∷ drop (place + 1) items = rw (add-one, drop-cons items place d) in step) ∙ ap (λ x. x ∷ drop (place + 1) items) (sym is)

pub spot_on : (before : List Part) (key : List ℕ) (parts : List declared.Part) (part : ℕ) (bytes : List ℕ) (byte : ℕ) (one d : declared.Part) (what e : ℕ) → part < length parts → byte < length bytes → one ≡ get_or parts part d → what ≡ get_or bytes byte e → is_star (part_of one) ≡ false → takes (part_of one) what ≡ true → Leads before (parts_at parts part) key (drop byte bytes) → Leads before (parts_at parts (part + 1)) key (drop (byte + 1) bytes)
spot_on before key parts part bytes byte one d what e low here is_one is_what star is leads = leads_on before (parts_at parts (part + 1)) (part_of one) key what (drop (byte + 1) bytes) star is
    (subst (λ (l : List ℕ). Leads before (part_of one ∷ parts_at parts (part + 1)) key l) (at_place bytes byte what e here is_what)
    (subst (λ (l : List Part). Leads before l key (drop byte bytes)) (ap (map part_of) (at_place parts part one d low is_one)) leads))

pub none_left : (parts : List declared.Part) (part : ℕ) (bytes : List ℕ) (byte : ℕ) → length parts ≤ part → byte < length bytes → matches (parts_at parts part) (drop byte bytes) ≡ false
none_left parts part bytes byte all here = ap (λ (l : List declared.Part). matches (map part_of l) (drop byte bytes)) (past parts part all) ∙ ap is_none (step_of bytes byte here)
