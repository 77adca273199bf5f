-- Laws of numbering the entries anew.
use Rattle.std.proofs.Common.{◌≡◌, ◌≢◌, ◌<◌, ◌≤◌, ◌+◌, ◌-◌, ℕ, zero, suc, true, false, eqb, List, [], ◌∷◌, ◌++◌, length, set, inl, inr, arith, refl, sym, ap, subst, ◌∙◌, append_assoc, append-nil, length-set, length-append, get_or-set_same, get_or-set_other}
use Rattle.std.proofs.lemmas.Bool.{true≢false, cases_eq, both_ways, eqb-true, eq-eqb, ne_eqb, or_left, or_right, or_cases, or_from}
use Rattle.std.proofs.lemmas.List.{length_push, length-map}
use Rattle.mely_steal.specs.declared.links.Link.{Link}
use Rattle.mely_steal.specs.declared.links.Ends.{Ends}
use Rattle.mely_steal.specs.Links.{after_at, places_of, places_from}
use Rattle.mely_steal.specs.Entering.{Ranked, of_class, has_entry, ranks_of, number_at, no_ends, ends_at, entries_of, IsLeast, IsAscending, AreClassed, AreBelow, StandInOrder, HasNumbers, IsOlder}
use Rattle.mely_steal.proofs.LinkLemmas.{length-followed}
use Rattle.mely_steal.proofs.TableLemmas.{length-strung}
use Rattle.mely_steal.proofs.EnterLemmas.{class-here, class-later, has-class}
use Rattle.mely_steal.proofs.OrderLemmas.{IsClass, class-range, class-cases, at-class, list_of, strung-class, entries-class, entry-within, stands-as}

-- the entries are numbered from this number on
abbrev pub AreCounted : (ℕ → ℕ) → ℕ → List Ranked → Type 0
AreCounted n i [] = Unit {0}
AreCounted n i (x ∷ xs) = (n x.colour ≡ i) × AreCounted n (suc i) xs

-- no number is below this one
abbrev pub AreFrom : (ℕ → ℕ) → ℕ → List Ranked → Type 0
AreFrom n i [] = Unit {0}
AreFrom n i (x ∷ xs) = (i ≤ n x.colour) × AreFrom n i xs

-- how far the numbering has come: the entries before are counted, and those behind are
-- what is left of the lists
pub record Renumbering (L : List Link) (left : List Ends) (old now : List ℕ) (g : List Ranked) (i : ℕ) : Type 0 where
  pub many : length left ≡ 3
  pub before : List Ranked
  pub behind : List Ranked
  pub whole : g ≡ before ++ behind
  pub done : AreCounted (number_at now) 0 before
  pub count : length before ≡ i
  pub from : AreFrom (number_at now) i behind
  pub up : IsAscending (number_at now) behind
  pub within : (x : ℕ) → has_entry x behind ≡ true → x < length L
  pub classes : (k : ℕ) → IsClass k → of_class k behind ≡ ranks_of k (list_of L left k)

-- rising numbers are from any number that is below them
counted-least : (n : ℕ → ℕ) (x : Ranked) (i : ℕ) (g : List Ranked) → n x.colour < i → AreCounted n i g → IsLeast n x g
counted-least n x i [] lt c = tt
counted-least n x i (y ∷ g) lt c = let at : n y.colour ≡ i = c.0 in (omega arith, counted-least n x (suc i) g (omega arith) c.1)

counted-up : (n : ℕ → ℕ) (i : ℕ) (g : List Ranked) → AreCounted n i g → IsAscending n g
counted-up n i [] c = tt
counted-up n i (x ∷ g) c = let at : n x.colour ≡ i = c.0 in (counted-least n x (suc i) g (omega arith) c.1, counted-up n (suc i) g c.1)

counted-below : (n : ℕ → ℕ) (i next : ℕ) (g : List Ranked) → i + length g ≤ next → AreCounted n i g → AreBelow n next g
counted-below n i next [] le c = tt
counted-below n i next (x ∷ g) le c = let at : n x.colour ≡ i = c.0 in (omega arith, counted-below n (suc i) next g (omega arith) c.1)

counted-push : (n m : ℕ → ℕ) (i : ℕ) (g : List Ranked) (r : Ranked) → AreCounted n i g → ((x : ℕ) → has_entry x g ≡ true → m x ≡ n x) → m r.colour ≡ i + length g → AreCounted m i (g ++ r ∷ [])
counted-push n m i [] r c same at = (omega arith, tt)
counted-push n m i (x ∷ g) r c same at = (
  same x.colour (or_left (eqb x.colour x.colour) (has_entry x.colour g) (eq-eqb x.colour x.colour refl)) ∙ c.0,
  counted-push n m (suc i) g r c.1 (λ y h. same y (or_right (eqb x.colour y) (has_entry y g) h)) (omega arith),
)

least-same : (n m : ℕ → ℕ) (x : Ranked) (g : List Ranked) → m x.colour ≡ n x.colour → ((y : ℕ) → has_entry y g ≡ true → m y ≡ n y) → IsLeast n x g → IsLeast m x g
least-same n m x [] here same least = tt
least-same n m x (y ∷ g) here same least =
    let there = same y.colour (or_left (eqb y.colour y.colour) (has_entry y.colour g) (eq-eqb y.colour y.colour refl)) in
    (rw (here, there) least.0, least-same n m x g here (λ z h. same z (or_right (eqb y.colour z) (has_entry z g) h)) least.1)

ascending-same : (n m : ℕ → ℕ) (g : List Ranked) → ((y : ℕ) → has_entry y g ≡ true → m y ≡ n y) → IsAscending n g → IsAscending m g
ascending-same n m [] same up = tt
ascending-same n m (x ∷ g) same up = (
  least-same n m x g (same x.colour (or_left (eqb x.colour x.colour) (has_entry x.colour g) (eq-eqb x.colour x.colour refl))) (λ z h. same z (or_right (eqb x.colour z) (has_entry z g) h)) up.0,
  ascending-same n m g (λ z h. same z (or_right (eqb x.colour z) (has_entry z g) h)) up.1,
)

-- what is behind the least has greater numbers
from-least : (n m : ℕ → ℕ) (x : Ranked) (i : ℕ) (g : List Ranked) → i ≤ n x.colour → IsLeast n x g → ((y : ℕ) → has_entry y g ≡ true → m y ≡ n y) → AreFrom m (i + 1) g
from-least n m x i [] le least same = tt
from-least n m x i (y ∷ g) le least same =
    let there = same y.colour (or_left (eqb y.colour y.colour) (has_entry y.colour g) (eq-eqb y.colour y.colour refl)) in
    let lt : n x.colour < n y.colour = least.0 in
    (omega arith, from-least n m x i g le least.1 (λ z h. same z (or_right (eqb y.colour z) (has_entry z g) h)))

-- an entry with the least number is not there twice
least-absent : (n : ℕ → ℕ) (x : Ranked) (g : List Ranked) → IsLeast n x g → has_entry x.colour g ≡ false
least-absent n x [] least = refl
least-absent n x (y ∷ g) least =
    let lt : n x.colour < n y.colour = least.0 in
    or_from (eqb y.colour x.colour) (has_entry x.colour g) (ne_eqb y.colour x.colour (λ e. let same : n y.colour ≡ n x.colour = ap n e in absurd (omega arith))) (least-absent n x g least.1)

least-in : (n : ℕ → ℕ) (y : Ranked) (b : List Ranked) (x : Ranked) (g : List Ranked) → IsLeast n y (b ++ x ∷ g) → n y.colour < n x.colour
least-in n y [] x g least = least.0
least-in n y (z ∷ b) x g least = least-in n y b x g least.1

behind-absent : (n : ℕ → ℕ) (b : List Ranked) (x : Ranked) (g : List Ranked) → IsAscending n (b ++ x ∷ g) → (has_entry x.colour b ≡ false) × (has_entry x.colour g ≡ false)
behind-absent n [] x g up = (refl, least-absent n x g up.0)
behind-absent n (y ∷ b) x g up =
    let rest = behind-absent n b x g up.1 in
    let lt : n y.colour < n x.colour = least-in n y b x g up.0 in
    (or_from (eqb y.colour x.colour) (has_entry x.colour b) (ne_eqb y.colour x.colour (λ e. let same : n y.colour ≡ n x.colour = ap n e in absurd (omega arith))) rest.0, rest.1)

-- the entries of all classes together
length-classes : (g : List Ranked) → AreClassed g → length g ≡ length (of_class 1 g) + (length (of_class 2 g) + length (of_class 3 g))
length-classes [] classed = refl
length-classes (x ∷ g) classed =
    let rest = length-classes g classed.1 in
    elim classed.0 [
      | inl one ↦
          rw (class-here 1 x g one, class-later 2 x g (λ e. let f : x.class ≡ 2 = e in absurd (omega arith)), class-later 3 x g (λ e. let f : x.class ≡ 3 = e in absurd (omega arith))) (omega arith)
      | inr more ↦ elim more [
        | inl two ↦ rw (class-later 1 x g (λ e. let f : x.class ≡ 1 = e in absurd (omega arith)), class-here 2 x g two, class-later 3 x g (λ e. let f : x.class ≡ 3 = e in absurd (omega arith))) (omega arith)
        | inr three ↦ rw (class-later 1 x g (λ e. let f : x.class ≡ 1 = e in absurd (omega arith)), class-later 2 x g (λ e. let f : x.class ≡ 2 = e in absurd (omega arith)), class-here 3 x g three) (omega arith)
      ]
    ]

classed-behind : (b g : List Ranked) → AreClassed (b ++ g) → AreClassed g
classed-behind [] g classed = classed
classed-behind (x ∷ b) g classed = classed-behind b g classed.1

-- the first of a class's entries is the first of its list
first-ranked : (a : ℕ → ℕ) (n f k : ℕ) (x : Ranked) (ys : List Ranked) → x ∷ ys ≡ ranks_of k (places_from a n f) → (n ≢ 0) × (f ≡ x.colour)
first-ranked a zero f k x ys is = absurd (cc)
first-ranked a (suc n) f k x ys is = (λ e. absurd (cc), cc)

rest-ranked : (a : ℕ → ℕ) (n f k : ℕ) (x : Ranked) (ys : List Ranked) → x ∷ ys ≡ ranks_of k (places_from a n f) → ys ≡ ranks_of k (places_from a (n - 1) (a f))
rest-ranked a zero f k x ys is = absurd (cc)
rest-ranked a (suc n) f k x ys is = let tail : ys ≡ ranks_of k (places_from a n (a f)) = cc in let less : suc n - 1 ≡ n = omega arith in rw less tail

head-ranked : (a : ℕ → ℕ) (n f k : ℕ) → n ≢ 0 → has_entry f (ranks_of k (places_from a n f)) ≡ true
head-ranked a zero f k ne = absurd (ne refl)
head-ranked a (suc n) f k ne = or_left (eqb f f) (has_entry f (ranks_of k (places_from a n (a f)))) (eq-eqb f f refl)

-- the entry whose colour is first in its list
least-has : (n : ℕ → ℕ) (x : Ranked) (c : ℕ) (g : List Ranked) → IsLeast n x g → has_entry c g ≡ true → n x.colour < n c
least-has n x c [] least h = absurd (true≢false (sym h))
least-has n x c (y ∷ g) least h = elim (or_cases (eqb y.colour c) (has_entry c g) h) [
  | inl e ↦ let is : y.colour ≡ c = eqb-true y.colour c e in rw (sym is) least.0
  | inr l ↦ least-has n x c g least.1 l
]

from-zero : (n : ℕ → ℕ) (g : List Ranked) → AreFrom n 0 g
from-zero n [] = tt
from-zero n (x ∷ g) = (omega arith, from-zero n g)

-- a class has at most as many entries as there are places
class-small : (L : List Link) (ends : List Ends) (N : List ℕ) (next k : ℕ) → StandInOrder L ends N next → IsClass k → length (of_class k (entries_of L ends N)) ≤ 65536
class-small L ends N next k s is =
    let e : Ends = ends_at ends (k - 1) in
    let long = length-strung k L e (strung-class L ends N next k s is) in
    let many : length (of_class k (entries_of L ends N)) ≡ e.len =
    ap (λ (ys : List Ranked). length ys) (entries-class L ends N next k s is) ∙ (length-map (list_of L ends k) (λ c. record { colour = c; class = k }) ∙ length-followed (after_at L) e.len e.first) in
    let small = s.small in
    omega arith

-- the numbering begins
pub renumbering-start : (L : List Link) (ends : List Ends) (N : List ℕ) (next : ℕ) → StandInOrder L ends N next
    → Renumbering L (ends_at ends 0 ∷ ends_at ends 1 ∷ ends_at ends 2 ∷ []) N N (entries_of L ends N) 0
renumbering-start L ends N next s = record {
  many = refl;
  before = [];
  behind = entries_of L ends N;
  whole = refl;
  done = tt;
  count = refl;
  from = from-zero (number_at N) (entries_of L ends N);
  up = s.merge.ascending;
  within = λ x h. entry-within L ends N next x s h;
  classes = λ k is. at-class (λ j. of_class j (entries_of L ends N) ≡ ranks_of j (list_of L (ends_at ends 0 ∷ ends_at ends 1 ∷ ends_at ends 2 ∷ []) j)) k is s.merge.ones s.merge.twos s.merge.threes;
}

-- the class whose list is at this place
place-class : (o : ℕ) → o < 3 → IsClass (o + 1) × (o + 1 - 1 ≡ o)
place-class o lt = (elim (class-cases (o + 1) (omega arith)) [ inl none ↦ absurd (omega arith) | inr is ↦ is ], omega arith)

classes-at : (L : List Link) (left : List Ends) (b : List Ranked) → ((k : ℕ) → IsClass k → of_class k b ≡ ranks_of k (list_of L left k)) → (o : ℕ) → o < 3
    → of_class (o + 1) b ≡ ranks_of (o + 1) (places_from (after_at L) (ends_at left o).len (ends_at left o).first)
classes-at L left b classes o lt = let is = place-class o lt in classes (o + 1) is.0 ∙ ap (λ z. ranks_of (o + 1) (places_of L (ends_at left z))) is.1

-- a list that isn't empty begins with the colour of an entry
first-has : (L : List Link) (left : List Ends) (b : List Ranked) → ((k : ℕ) → IsClass k → of_class k b ≡ ranks_of k (list_of L left k)) → (o : ℕ) → o < 3 → (ends_at left o).len ≢ 0
    → has_entry (ends_at left o).first (of_class (o + 1) b) ≡ true
first-has L left b classes o lt ne =
    ap (has_entry (ends_at left o).first) (classes-at L left b classes o lt)
    ∙ head-ranked (after_at L) (ends_at left o).len (ends_at left o).first (o + 1) ne

pub first-within : (L : List Link) (left : List Ends) (old now : List ℕ) (g : List Ranked) (i o : ℕ) → Renumbering L left old now g i → o < 3 → (ends_at left o).len ≢ 0 → (ends_at left o).first < length L
first-within L left old now g i o r lt ne =
    r.within (ends_at left o).first (has-class (ends_at left o).first (o + 1) r.behind (first-has L left r.behind r.classes o lt ne))

-- the entry that is next has the colour that is the first of the list with the smallest number
next-is : (L : List Link) (left : List Ends) (n : ℕ → ℕ) (x : Ranked) (rest : List Ranked) → ((k : ℕ) → IsClass k → of_class k (x ∷ rest) ≡ ranks_of k (list_of L left k)) → IsLeast n x rest → IsClass x.class
    → (o : ℕ) → o < 3 → (ends_at left o).len ≢ 0 → ((j : ℕ) → j < 3 → (ends_at left j).len ≢ 0 → n (ends_at left o).first ≤ n (ends_at left j).first) → (x.class ≡ o + 1) × (x.colour ≡ (ends_at left o).first)
next-is L left n x rest classes least isx o lt ne oldest =
    let range = class-range x.class isx in
    let j : ℕ = x.class - 1 in
    let within : j < 3 = omega arith in
    let back : j + 1 ≡ x.class = omega arith in
    let mine : x ∷ of_class x.class rest ≡ ranks_of x.class (places_from (after_at L) (ends_at left j).len (ends_at left j).first) = sym (class-here x.class x rest refl) ∙ classes x.class isx in
    let first = first-ranked (after_at L) (ends_at left j).len (ends_at left j).first x.class x (of_class x.class rest) mine in
    let le : n (ends_at left o).first ≤ n x.colour = subst (λ (z : ℕ). n (ends_at left o).first ≤ n z) first.1 (oldest j within first.0) in
    elim (cases_eq x.class (o + 1)) [
      | inl e ↦
          let same : j ≡ o = omega arith in
          (e, sym first.1 ∙ ap (λ z. (ends_at left z).first) same)
      | inr other ↦
          let there : has_entry (ends_at left o).first (of_class (o + 1) rest) ≡ true =
          sym (ap (has_entry (ends_at left o).first) (class-later (o + 1) x rest other)) ∙ first-has L left (x ∷ rest) classes o lt ne in
          let lt' : n x.colour < n (ends_at left o).first = least-has n x (ends_at left o).first rest least (has-class (ends_at left o).first (o + 1) rest there) in
          absurd (omega arith)
    ]

-- one entry is numbered
step-at : (L : List Link) (left : List Ends) (old now : List ℕ) (g : List Ranked) (i o : ℕ) (r : Renumbering L left old now g i) (x : Ranked) (rest : List Ranked) → r.behind ≡ x ∷ rest → IsAscending (number_at old) g → AreClassed g → length now ≡ length L
    → o < 3 → (ends_at left o).len ≢ 0 → ((j : ℕ) → j < 3 → (ends_at left j).len ≢ 0 → number_at now (ends_at left o).first ≤ number_at now (ends_at left j).first)
    → Renumbering L (set left o (record { first = after_at L (ends_at left o).first; last = (ends_at left o).last; len = (ends_at left o).len - 1 })) old (set now (ends_at left o).first i) g (i + 1)
step-at L left old now g i o r x rest is up classed long lt ne oldest =
    let e : Ends = ends_at left o in
    let after : Ends = record { first = after_at L e.first; last = e.last; len = e.len - 1 } in
    let later : List Ends = set left o after in
    let n : ℕ → ℕ = number_at now in
    let m : ℕ → ℕ = number_at (set now e.first i) in
    let whole : g ≡ r.before ++ x ∷ rest = r.whole ∙ ap (λ ys. r.before ++ ys) is in
    let Up : List Ranked → Type 0 = λ ys. IsAscending n ys in
    let ups : IsAscending n (x ∷ rest) = subst Up is r.up in
    let From : List Ranked → Type 0 = λ ys. AreFrom n i ys in
    let froms : AreFrom n i (x ∷ rest) = subst From is r.from in
    let Classes : List Ranked → Type 0 = λ ys. (k : ℕ) → IsClass k → of_class k ys ≡ ranks_of k (list_of L left k) in
    let classes : (k : ℕ) → IsClass k → of_class k (x ∷ rest) ≡ ranks_of k (list_of L left k) = subst Classes is r.classes in
    let Within : List Ranked → Type 0 = λ ys. (y : ℕ) → has_entry y ys ≡ true → y < length L in
    let within : (y : ℕ) → has_entry y (x ∷ rest) ≡ true → y < length L = subst Within is r.within in
    let Old : List Ranked → Type 0 = λ ys. IsAscending (number_at old) ys in
    let apart = behind-absent (number_at old) r.before x rest (subst Old whole up) in
    let kinds : AreClassed (x ∷ rest) = classed-behind r.before (x ∷ rest) (subst AreClassed whole classed) in
    let next = next-is L left n x rest classes ups.0 kinds.0 o lt ne oldest in
    let inside : e.first < length now = (let low = first-within L left old now g i o r lt ne in omega arith) in
    let here : m x.colour ≡ i = ap m next.1 ∙ get_or-set_same now e.first i 0 inside in
    let keeps : (b : List Ranked) → has_entry x.colour b ≡ false → (y : ℕ) → has_entry y b ≡ true → m y ≡ n y = λ b off y h.
    get_or-set_other now e.first y i 0 (λ same. both_ways (has_entry x.colour b) off (ap (λ z. has_entry z b) (next.1 ∙ sym same) ∙ h)) in
    let place = place-class o lt in
    let many = r.many in
    let mine : x ∷ of_class (o + 1) rest ≡ ranks_of (o + 1) (places_from (after_at L) e.len e.first) = sym (class-here (o + 1) x rest next.0) ∙ classes-at L left (x ∷ rest) classes o lt in
    let count = r.count in
    record {
      many = length-set left o after ∙ r.many;
      before = r.before ++ x ∷ [];
      behind = rest;
      whole = whole ∙ sym (append_assoc r.before (x ∷ []) rest);
      done = counted-push n m 0 r.before x r.done (keeps r.before apart.0) (omega arith);
      count = length_push r.before x ∙ ap (λ z. z + 1) r.count;
      from = from-least n m x i rest froms.0 ups.0 (keeps rest apart.1);
      up = ascending-same n m rest (keeps rest apart.1) ups.1;
      within = λ y h. within y (or_right (eqb x.colour y) (has_entry y rest) h);
      classes = λ k isk. elim (cases_eq k (o + 1)) [
        | inl same ↦
            let at : ends_at later (k - 1) ≡ after = ap (λ z. ends_at later (z - 1)) same ∙ (ap (ends_at later) place.1 ∙ get_or-set_same left o after no_ends (omega arith)) in
            ap (λ z. of_class z rest) same
            ∙ (rest-ranked (after_at L) e.len e.first (o + 1) x (of_class (o + 1) rest) mine
            ∙ (sym (ap (λ z. ranks_of z (places_of L after)) same) ∙ sym (ap (λ z. ranks_of k (places_of L z)) at)))
        | inr other ↦
            let range = class-range k isk in
            let ne' : k - 1 ≡ o → ⊥ = λ same. other (omega arith) in
            let at : ends_at later (k - 1) ≡ ends_at left (k - 1) = get_or-set_other left o (k - 1) after no_ends ne' in
            sym (class-later k x rest (λ same. other (sym same ∙ next.0)))
            ∙ (classes k isk ∙ sym (ap (λ z. ranks_of k (places_of L z)) at))
      ];
    }

step-by : (L : List Link) (left : List Ends) (old now : List ℕ) (g : List Ranked) (i o : ℕ) (r : Renumbering L left old now g i) (b : List Ranked) → r.behind ≡ b → IsAscending (number_at old) g → AreClassed g → length now ≡ length L
    → o < 3 → (ends_at left o).len ≢ 0 → ((j : ℕ) → j < 3 → (ends_at left j).len ≢ 0 → number_at now (ends_at left o).first ≤ number_at now (ends_at left j).first)
    → Renumbering L (set left o (record { first = after_at L (ends_at left o).first; last = (ends_at left o).last; len = (ends_at left o).len - 1 })) old (set now (ends_at left o).first i) g (i + 1)
step-by L left old now g i o r [] is up classed long lt ne oldest =
    let there = first-has L left r.behind r.classes o lt ne in
    absurd (true≢false (sym there ∙ ap (λ ys. has_entry (ends_at left o).first (of_class (o + 1) ys)) is))
step-by L left old now g i o r (x ∷ rest) is up classed long lt ne oldest = step-at L left old now g i o r x rest is up classed long lt ne oldest

pub renumbering-step : (L : List Link) (left : List Ends) (old now : List ℕ) (g : List Ranked) (i o : ℕ) → Renumbering L left old now g i → IsAscending (number_at old) g → AreClassed g → length now ≡ length L
    → o < 3 → (ends_at left o).len ≢ 0 → ((j : ℕ) → j < 3 → (ends_at left j).len ≢ 0 → number_at now (ends_at left o).first ≤ number_at now (ends_at left j).first)
    → Renumbering L (set left o (record { first = after_at L (ends_at left o).first; last = (ends_at left o).last; len = (ends_at left o).len - 1 })) old (set now (ends_at left o).first i) g (i + 1)
renumbering-step L left old now g i o r = step-by L left old now g i o r r.behind refl

-- where all lists are empty, every entry is numbered
none-left : (L : List Link) (left : List Ends) (b : List Ranked) → ((k : ℕ) → IsClass k → of_class k b ≡ ranks_of k (list_of L left k)) → AreClassed b → ((j : ℕ) → j < 3 → (ends_at left j).len ≡ 0) → b ≡ []
none-left L left [] classes classed empty = refl
none-left L left (x ∷ rest) classes classed empty =
    let range = class-range x.class classed.0 in
    let j : ℕ = x.class - 1 in
    let mine : x ∷ of_class x.class rest ≡ ranks_of x.class (places_from (after_at L) (ends_at left j).len (ends_at left j).first) = sym (class-here x.class x rest refl) ∙ classes x.class classed.0 in
    absurd ((first-ranked (after_at L) (ends_at left j).len (ends_at left j).first x.class x (of_class x.class rest) mine).0 (empty j (omega arith)))

pub renumbering-end : (L : List Link) (ends left : List Ends) (N now : List ℕ) (next i : ℕ) → StandInOrder L ends N next → Renumbering L left N now (entries_of L ends N) i → length now ≡ length L → ((j : ℕ) → j < 3 → (ends_at left j).len ≡ 0)
    → (entries_of L ends now ≡ entries_of L ends N) × StandInOrder L ends now i
renumbering-end L ends left N now next i s r long empty =
    let g : List Ranked = entries_of L ends N in
    let Classed : List Ranked → Type 0 = λ ys. AreClassed ys in
    let none : r.behind ≡ [] = none-left L left r.behind r.classes (classed-behind r.before r.behind (subst Classed r.whole s.merge.classed)) empty in
    let all : g ≡ r.before = r.whole ∙ (ap (λ ys. r.before ++ ys) none ∙ append-nil r.before) in
    let Counted : List Ranked → Type 0 = λ ys. AreCounted (number_at now) 0 ys in
    let counted : AreCounted (number_at now) 0 g = subst Counted (sym all) r.done in
    let many : 0 + length g ≤ i = (let at : length g ≡ i = ap (λ (ys : List Ranked). length ys) all ∙ r.count in omega arith) in
    stands-as L ends now i g s.many s.small long s.classes (λ k is. strung-class L ends N next k s is) (λ k is. entries-class L ends N next k s is)
    (counted-up (number_at now) 0 g counted) s.merge.classed (counted-below (number_at now) 0 i g many counted)

-- there are fewer entries than numbers
pub renumbering-small : (L : List Link) (ends left : List Ends) (N now : List ℕ) (next i : ℕ) → StandInOrder L ends N next → Renumbering L left N now (entries_of L ends N) i → i ≤ 196608
renumbering-small L ends left N now next i s r =
    let g : List Ranked = entries_of L ends N in
    let parts = length-classes g s.merge.classed in
    let one = class-small L ends N next 1 s (inl refl) in
    let two = class-small L ends N next 2 s (inr (inl refl)) in
    let three = class-small L ends N next 3 s (inr (inr refl)) in
    let at : length g ≡ length r.before + length r.behind = ap (λ (ys : List Ranked). length ys) r.whole ∙ length-append r.before r.behind in
    let count = r.count in
    omega arith

-- the first places of what is left of the lists have numbers
pub three-numbered : (L : List Link) (left : List Ends) (old now : List ℕ) (g : List Ranked) (i : ℕ) → Renumbering L left old now g i → length now ≡ length L → HasNumbers left now
three-numbered L left old now g i r long j lt ne = let many = r.many in let within = first-within L left old now g i j r (omega arith) ne in rw long within

one-at : (left : List Ends) (now : List ℕ) (a k j : ℕ) → k ≡ j → ((ends_at left k).len ≢ 0 → ((ends_at left a).len ≢ 0) × (number_at now (ends_at left a).first ≤ number_at now (ends_at left k).first))
    → (ends_at left j).len ≢ 0 → ((ends_at left a).len ≢ 0) × (number_at now (ends_at left a).first ≤ number_at now (ends_at left j).first)
one-at left now a k j e =
    let At : ℕ → Type 0 = λ z. ((ends_at left k).len ≢ 0 → ((ends_at left a).len ≢ 0) × (number_at now (ends_at left a).first ≤ number_at now (ends_at left k).first)) → (ends_at left z).len ≢ 0 → ((ends_at left a).len ≢ 0) × (number_at now (ends_at left a).first ≤ number_at now (ends_at left z).first) in
    subst At e (λ h ne. h ne)

-- of three lists one that isn't empty where any of them isn't, and whose first place
-- then has the smallest number
abbrev pub IsOldest : List Ends → List ℕ → ℕ → Type 0
IsOldest left now b = (j : ℕ) → j < 3 → (ends_at left j).len ≢ 0 → ((ends_at left b).len ≢ 0) × (number_at now (ends_at left b).first ≤ number_at now (ends_at left j).first)

-- of three lists the older of the older of two and the third begins with the smallest number
pub oldest-of : (left : List Ends) (now : List ℕ) (a b : ℕ) → IsOlder left now 0 1 a → IsOlder left now a 2 b → (b < 3) × IsOldest left now b
oldest-of left now a b one two =
    let first : a < 2 = elim one.is [ inl e ↦ omega arith | inr e ↦ omega arith ] in
    let through : (j : ℕ) → (((ends_at left a).len ≢ 0) × (number_at now (ends_at left a).first ≤ number_at now (ends_at left j).first)) → ((ends_at left b).len ≢ 0) × (number_at now (ends_at left b).first ≤ number_at now (ends_at left j).first) = λ j h.
    let last = two.before_one h.0 in
    let low : number_at now (ends_at left b).first ≤ number_at now (ends_at left a).first = last.1 in
    let high : number_at now (ends_at left a).first ≤ number_at now (ends_at left j).first = h.1 in
    (last.0, omega arith) in (
      elim two.is [ inl e ↦ omega arith | inr e ↦ omega arith ],
      λ j lt ne. elim (cases_eq j 0) [
        | inl e ↦ through j (one-at left now a 0 j (sym e) one.before_one ne)
        | inr other ↦ elim (cases_eq j 1) [
          | inl e ↦ through j (one-at left now a 1 j (sym e) one.before_other ne)
          | inr more ↦ let is : 2 ≡ j = omega arith in one-at left now b 2 j is two.before_other ne
        ]
      ],
    )

-- a number is 0 where it isn't anything else
pub decided : (n : ℕ) → ((n ≡ 0 → ⊥) → ⊥) → n ≡ 0
decided zero h = refl
decided (suc n) h = absurd (h (λ e. absurd (omega arith)))
