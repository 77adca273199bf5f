-- What keeps the marks standing.
use Rattle.std.proofs.Common.{◌≡◌, ◌≢◌, ℕ, ◌+◌, ◌≤◌, Bool, true, false, List, [], ◌∷◌, ◌++◌, length, refl, ap, sym, ◌∙◌, arith, eq-eqb, inl, inr}
use Rattle.std.proofs.lemmas.Bool.{ne_eqb, le-leb}
use Rattle.std.proofs.lemmas.Bool.Decides.{nat_tests, eqb_tells}
use Rattle.std.specs.Prelude.{not, ◌==◌, ◌&&◌, nat_le}
use Rattle.std.specs.List.{count_by, AllByRecursion}
use Rattle.mely_event.specs.declared.colour.Colour.{Colour}
use Rattle.mely_event.specs.declared.mark.Mark.{Mark}
use Rattle.mely_weave.specs.Side.{Readiness}
use Rattle.mely_weave.specs.Marks.{Placed, is_of, is_told, bit, MarksStand}
use Rattle.mely_weave.proofs.Marks.CountsLemmas.{Alike, count_append, count_cons}

-- a test that implies one of two passes no more often than they do
count_below : (p q r : Placed → Bool) (xs : List Placed) → ((x : Placed) → bit (p x) ≤ bit (q x) + bit (r x)) → count_by p xs ≤ count_by q xs + count_by r xs
count_below p q r [] h = omega arith
count_below p q r (x ∷ xs) h = omega (arith, h x, count_below p q r xs h, count_cons p x xs, count_cons q x xs, count_cons r x xs)

-- a test that implies another passes no more often
count_implied : (p q : Placed → Bool) (xs : List Placed) → ((x : Placed) → bit (p x) ≤ bit (q x)) → count_by p xs ≤ count_by q xs
count_implied p q [] h = omega arith
count_implied p q (x ∷ xs) h = omega (arith, h x, count_implied p q xs h, count_cons p x xs, count_cons q x xs)

-- all marks are of the colour
abbrev pub OfColour : Colour → List Placed → Type 0
OfColour c xs = AllByRecursion (λ p. p.1.colour.0 ≡ c.0) xs

count_own : (c : Colour) (xs : List Placed) → OfColour c xs → count_by (is_of c) xs ≡ length xs
count_own c [] h = refl
count_own c (x ∷ xs) h =
    let yes : is_of c x ≡ true = eq-eqb x.1.colour.0 c.0 h.0 in
    omega (arith, count_own c xs h.1, count_cons (is_of c) x xs, ap bit yes)

count_other : (c d : Colour) (xs : List Placed) → d.0 ≢ c.0 → OfColour c xs → count_by (is_of d) xs ≡ 0
count_other c d [] n h = refl
count_other c d (x ∷ xs) n h =
    let no : is_of d x ≡ false = ne_eqb x.1.colour.0 d.0 (λ e. n (sym e ∙ h.0)) in
    omega (arith, count_other c d xs n h.1, count_cons (is_of d) x xs, ap bit no)

count_told : (of : Colour → Readiness) (xs : List Placed) → AllByRecursion (λ p. is_told of p ≡ true) xs → count_by (λ p. not (is_told of p)) xs ≡ 0
count_told of [] h = refl
count_told of (x ∷ xs) h =
    omega (arith, count_told of xs h.1, count_cons (λ p. not (is_told of p)) x xs, ap (λ b. bit (not b)) h.0)

-- a mark is told where it says what is so
pub told_where : (of : Colour → Readiness) (core : ℕ) (mark : Mark) → core ≡ (of mark.colour).owner → mark.started ≡ (of mark.colour).begun → mark.worth ≤ (of mark.colour).worth → is_told of (core, mark) ≡ true
told_where of core mark owner begun worth =
    rw (eq-eqb core (of mark.colour).owner owner, eq-eqb mark.started (of mark.colour).begun begun) (le-leb mark.worth (of mark.colour).worth worth)

-- a mark of another colour is told as before
false_before : (of of' : Colour → Readiness) (c : Colour) → ((d : Colour) → d.0 ≢ c.0 → of' d ≡ of d) → (x : Placed) → bit (not (is_told of' x)) ≤ bit (not (is_told of x)) + bit (is_of c x)
false_before of of' c others x = elim (eqb_tells x.1.colour.0 c.0) [
  | inl same ↦
      let yes : is_of c x ≡ true = same.0 in
      rw yes (elim (is_told of' x) as (λ b. bit (not b) ≤ bit (not (is_told of x)) + bit true) [ true ↦ omega arith | false ↦ omega arith ])
  | inr other ↦
      let was : is_told of' x ≡ is_told of x = ap (λ (t : Readiness). (x.0 == t.owner) && ((x.1.started == t.begun) && nat_le x.1.worth t.worth)) (others x.1.colour other.1) in
      omega (arith, ap (λ b. bit (not b)) was)
]

-- one colour changes, and so does its mark
pub stand_changed : (of of' : Colour → Readiness) (c : Colour) (marks marks' old new rest : List Placed) → ((d : Colour) → d.0 ≢ c.0 → of' d ≡ of d) → OfColour c old → OfColour c new
    → length old ≡ bit (of c).ready → length new ≡ bit (of' c).ready → AllByRecursion (λ p. is_told of' p ≡ true) new → Alike marks (old ++ rest) → Alike marks' (new ++ rest) → MarksStand of marks → MarksStand of' marks'
stand_changed of of' c marks marks' old new rest others of_old of_new one_old one_new told was is stands =
    let none : count_by (is_of c) rest ≡ 0 = omega (arith, was (is_of c), count_append (is_of c) old rest, count_own c old of_old, stands.one c) in
    record {
      one = λ d. elim (eqb_tells d.0 c.0) [
        | inl same ↦
            let e : d ≡ c = ap (λ (n : ℕ). let m : Colour = record { 0 = n } in m) same.1 in
            rw e (omega (arith, is (is_of c), count_append (is_of c) new rest, count_own c new of_new, none))
        | inr other ↦ omega (arith, is (is_of d), was (is_of d), count_append (is_of d) new rest, count_append (is_of d) old rest, count_other c d new other.1 of_new, count_other c d old other.1 of_old, stands.one d, ap (λ (t : Readiness). bit t.ready) (others d other.1))
      ];
      told = omega (arith, is (λ p. not (is_told of' p)), was (λ p. not (is_told of p)), count_append (λ p. not (is_told of' p)) new rest, count_append (λ p. not (is_told of p)) old rest, count_told of' new told, count_below (λ p. not (is_told of' p)) (λ p. not (is_told of p)) (is_of c) rest (false_before of of' c others), none, stands.told);
    }

-- what is at most a number is at most a greater one
at_most_more : (m a b : ℕ) → a ≤ b → bit (not (nat_le m b)) ≤ bit (not (nat_le m a))
at_most_more m a b h = grind (arith, nat_tests)

false_less : (o o' b b' : Bool) (m a c : ℕ) → o' ≡ o → b' ≡ b → a ≤ c → bit (not (o' && (b' && nat_le m c))) ≤ bit (not (o && (b && nat_le m a)))
false_less true o' true b' m a c p q h = rw (p, q) (at_most_more m a c h)
false_less true o' false b' m a c p q h = rw (p, q) (omega arith)
false_less false o' b b' m a c p q h = rw p (omega arith)

-- a colour is as it was, but that it may be worth more
pub record IsGrown (was is : Readiness) : Type 0 where
  pub ready : is.ready ≡ was.ready
  pub owner : is.owner ≡ was.owner
  pub begun : is.begun ≡ was.begun
  pub worth : was.worth ≤ is.worth

-- the worth of a colour grows, and nothing else of it changes
pub stand_grown : (of of' : Colour → Readiness) (marks : List Placed) → ((d : Colour) → IsGrown (of d) (of' d)) → MarksStand of marks → MarksStand of' marks
stand_grown of of' marks grown stands = record {
  one = λ c. stands.one c ∙ ap bit (sym (grown c).ready);
  told = omega (
    arith,
    stands.told,
    count_implied (λ p. not (is_told of' p)) (λ p. not (is_told of p)) marks
        (λ p. false_less (p.0 == (of p.1.colour).owner) (p.0 == (of' p.1.colour).owner) (p.1.started == (of p.1.colour).begun) (p.1.started == (of' p.1.colour).begun) p.1.worth (of p.1.colour).worth (of' p.1.colour).worth
        (ap (λ (n : ℕ). p.0 == n) (grown p.1.colour).owner) (ap (λ (n : ℕ). p.1.started == n) (grown p.1.colour).begun) (grown p.1.colour).worth),
  );
}

-- the order of the marks is free
pub stand_alike : (of : Colour → Readiness) (marks marks' : List Placed) → Alike marks marks' → MarksStand of marks → MarksStand of marks'
stand_alike of marks marks' alike stands = record {
  one = λ c. sym (alike (is_of c)) ∙ stands.one c;
  told = sym (alike (λ p. not (is_told of p))) ∙ stands.told;
}
