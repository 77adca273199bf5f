-- Laws of lists by links in one table.
use Rattle.std.proofs.Common.{◌≡◌, ◌<◌, ◌≤◌, ◌==◌, ◌+◌, ◌-◌, ◌||◌, ℕ, zero, suc, Bool, true, false, cond, eqb, List, [], ◌∷◌, ◌++◌, length, ◌⊎◌, inl, inr, arith, refl, sym, ap, subst, ◌∙◌}
use Rattle.std.proofs.lemmas.Bool.{true≢false, cases_eq, both_ways, eqb-true, eq-eqb, ne_eqb, cond-true, cond-false, or_cases, or_right}
use Rattle.std.proofs.lemmas.List.{length_push}
use Rattle.mely_steal.specs.declared.links.Link.{Link}
use Rattle.mely_steal.specs.declared.links.Ends.{Ends}
use Rattle.mely_steal.specs.Links.{list_at, before_at, after_at, places_from, places_of, is_in, without_place, AreDistinct, last_from, LastIs, AreJoinedFrom, AreJoined, IsStrung, MovesOnly, SparesOthers}
use Rattle.mely_steal.proofs.LinkLemmas.{walked, walked-in, in-later, in-other, in-append, not-in, frame, follow-frame, follow-from, length-followed, last-in, before-in, after-in, join-from, last-append, distinct-append, in-dropped, gone-dropped, dropped-first, dropped-later, distinct-dropped, length-dropped, unlink-from, unlink-first, last-dropped_last, last-dropped_other, length-distinct}

-- a place is in the list that it says that it is in
pub in-own : (L : List Link) (e : Ends) (c : ℕ) → c < length L → IsStrung (list_at L c) L e → is_in (places_of L e) c ≡ true
in-own L e c below s = s.exact c below ∙ eq-eqb (list_at L c) (list_at L c) refl

-- the places of a list, one behind another, are below the length of the table
pub walked-below : {k : ℕ} {L : List Link} {e : Ends} → IsStrung k L e → (i : ℕ) → i < e.len → walked (after_at L) i e.first < length L
walked-below {k} {L} {e} s i lt = s.below (walked (after_at L) i e.first) (walked-in (after_at L) e.len i e.first lt)

-- a list stays strung where the links of its places stay, and the same
-- places say that they are in it
strung-frame : (j : ℕ) (L M : List Link) (e : Ends) → length M ≡ length L
    → ((y : ℕ) → y < length L → list_at L y ≡ j → (after_at M y ≡ after_at L y) × (before_at M y ≡ before_at L y))
    → ((y : ℕ) → y < length L → (list_at M y == j) ≡ (list_at L y == j)) → IsStrung j L e → (places_of M e ≡ places_of L e) × IsStrung j M e
strung-frame j L M e long same lists s =
    let stays : (y : ℕ) → is_in (places_of L e) y ≡ true → (after_at M y ≡ after_at L y) × (before_at M y ≡ before_at L y) = λ y h. same y (s.below y h) (eqb-true (list_at L y) j (sym (s.exact y (s.below y h)) ∙ h)) in
    let is : places_of M e ≡ places_of L e = follow-frame (after_at L) (after_at M) e.len e.first (λ y h. (stays y h).0) in
    let Joined : List ℕ → Type 0 = λ xs. AreJoined (after_at M) (before_at M) xs in
    let back : places_of L e ≡ places_of M e = sym is in (
      is,
      record {
        joined = subst Joined back (frame (after_at L) (before_at L) (after_at M) (before_at M) (places_of L e) stays s.joined);
        last = subst (LastIs e.last) back s.last;
        apart = subst AreDistinct back s.apart;
        below = λ y h. let lt = s.below y (sym (ap (λ xs. is_in xs y) is) ∙ h) in rw long lt;
        exact = λ y lt. let lt' : y < length L = (rw long at lt) in ap (λ xs. is_in xs y) is ∙ (s.exact y lt' ∙ sym (lists y lt'));
      },
    )

-- each place that says that it is in another list keeps its links
pub spares-frame : (k c list : ℕ) (L M : List Link) → (list ≡ 0) ⊎ (list ≡ k) → (list_at L c ≡ 0) ⊎ (list_at L c ≡ k) → MovesOnly c list L M
    → ((y : ℕ) → y < length L → 0 < list_at L y → (list_at L y ≡ k → ⊥) → (after_at M y ≡ after_at L y) × (before_at M y ≡ before_at L y)) → SparesOthers k L M
spares-frame k c list L M new was moves same j e pos ne s =
    let off : (n : ℕ) → (n ≡ 0) ⊎ (n ≡ k) → (n == j) ≡ false = λ n h. ne_eqb n j (λ e. elim h [ inl z ↦ absurd (omega arith) | inr i ↦ ne (sym e ∙ i) ]) in
    strung-frame j L M e moves.long
    (λ y lt is. same y lt (rw is pos) (λ i. ne (sym is ∙ i)))
    (λ y lt. elim (cases_eq c y) [
      | inl i ↦ ap (λ z. list_at M z == j) (sym i) ∙ (ap (λ n. n == j) moves.here ∙ (off list new ∙ (sym (off (list_at L c) was) ∙ ap (λ z. list_at L z == j) i)))
      | inr other ↦ ap (λ n. n == j) (moves.others y other)
    ]) s

-- a list isn't longer than its table
pub length-strung : (k : ℕ) (L : List Link) (e : Ends) → IsStrung k L e → e.len ≤ length L
length-strung k L e s = let le = length-distinct (places_of L e) (length L) s.apart s.below in rw (sym (length-followed (after_at L) e.len e.first)) le

-- where a place is taken out of a list, what is left of the table
pub record Unlinks (c : ℕ) (e : Ends) (L M : List Link) : Type 0 where
  pub moves : MovesOnly c 0 L M
  pub front : (e.first ≡ c → ⊥) → after_at M (before_at L c) ≡ after_at L c
  pub far : (y : ℕ) → ((e.first ≡ c) ⊎ (before_at L c ≡ y → ⊥)) → after_at M y ≡ after_at L y
  pub back : (e.last ≡ c → ⊥) → before_at M (after_at L c) ≡ before_at L c
  pub near : (y : ℕ) → ((e.last ≡ c) ⊎ (after_at L c ≡ y → ⊥)) → before_at M y ≡ before_at L y

abbrev pub ends_without : List Link → ℕ → Ends → Ends
ends_without L c e = record {
  first = cond (eqb e.first c) (after_at L c) e.first;
  last = cond (eqb e.last c) (before_at L c) e.last;
  len = e.len - 1;
}

or_nothing : (b : Bool) → (b || false) ≡ b
or_nothing true = refl
or_nothing false = refl

-- a list is strung where it is what its ends and links give
strung-of : (k : ℕ) (M : List Link) (e : Ends) (xs : List ℕ) → places_of M e ≡ xs → AreJoined (after_at M) (before_at M) xs → LastIs e.last xs → AreDistinct xs
    → ((y : ℕ) → is_in xs y ≡ true → y < length M) → ((y : ℕ) → y < length M → is_in xs y ≡ (list_at M y == k)) → IsStrung k M e
strung-of k M e xs is joined last apart below exact =
    let Joined : List ℕ → Type 0 = λ ys. AreJoined (after_at M) (before_at M) ys in
    let Below : List ℕ → Type 0 = λ ys. (y : ℕ) → is_in ys y ≡ true → y < length M in
    let Exact : List ℕ → Type 0 = λ ys. (y : ℕ) → y < length M → is_in ys y ≡ (list_at M y == k) in
    let from : xs ≡ places_of M e = sym is in
    record {
      joined = subst Joined from joined;
      last = subst (LastIs e.last) from last;
      apart = subst AreDistinct from apart;
      below = subst Below from below;
      exact = subst Exact from exact;
    }

-- a place that is in no list is not in this one
not-strung : (k c : ℕ) (L : List Link) (e : Ends) → 0 < k → c < length L → list_at L c ≡ 0 → IsStrung k L e → is_in (places_of L e) c ≡ false
not-strung k c L e pos lt free s = s.exact c lt ∙ ne_eqb (list_at L c) k (λ i. absurd (omega arith))

-- a place is added at the back of a list that has one
strung-push_at : (k : ℕ) (L M : List Link) (first last n c : ℕ) → IsStrung k L (record { first = first; last = last; len = suc n }) → 0 < k → c < length L → list_at L c ≡ 0 → MovesOnly c k L M
    → after_at M last ≡ c → before_at M c ≡ last → ((y : ℕ) → (c ≡ y → ⊥) → (last ≡ y → ⊥) → after_at M y ≡ after_at L y) → ((y : ℕ) → (c ≡ y → ⊥) → before_at M y ≡ before_at L y)
    → (places_of M (record { first = first; last = c; len = suc n + 1 }) ≡ places_of L (record { first = first; last = last; len = suc n }) ++ c ∷ []) × IsStrung k M (record { first = first; last = c; len = suc n + 1 })
strung-push_at k L M first last n c s pos lt free moves to from stays back =
    let a = after_at L in
    let p = after_at M in
    let e : Ends = record { first = first; last = last; len = suc n } in
    let now : Ends = record { first = first; last = c; len = suc n + 1 } in
    let xs : List ℕ = places_from a n (a first) in
    let off : is_in (first ∷ xs) c ≡ false = not-strung k c L e pos lt free s in
    let away : (y : ℕ) → is_in (first ∷ xs) y ≡ true → c ≡ y → ⊥ = λ y h. not-in c y (first ∷ xs) off h in
    let joined : AreJoinedFrom p (before_at M) first (xs ++ c ∷ []) = join-from a (before_at L) p (before_at M) c first xs s.joined s.apart (ap p s.last ∙ to) (from ∙ sym s.last)
    (λ y h ne. stays y (away y h) (λ i. ne (s.last ∙ i))) (λ y h. back y (away y h)) in
    let long : suc n + 1 ≡ suc (length (xs ++ c ∷ [])) = (let more = length_push xs c in let len = length-followed a n (a first) in omega arith) in
    let is : places_of M now ≡ first ∷ (xs ++ c ∷ []) = ap (λ z. places_from p z first) long ∙ ap (λ zs. first ∷ zs) (follow-from p (before_at M) first (xs ++ c ∷ []) joined) in
    let here : (y : ℕ) → is_in (first ∷ (xs ++ c ∷ [])) y ≡ (is_in (first ∷ xs) y || eqb y c) = λ y. in-append y (first ∷ xs) c in (
      is,
      strung-of k M now (first ∷ (xs ++ c ∷ [])) is joined (last-append first xs c) (distinct-append (first ∷ xs) c s.apart off)
          (λ y h. elim (or_cases (is_in (first ∷ xs) y) (eqb y c) (sym (here y) ∙ h)) [
            | inl l ↦ let lt' = s.below y l in rw moves.long lt'
            | inr i ↦ let same : y ≡ c = eqb-true y c i in rw moves.long (rw same lt)
          ])
          (λ y lt'. elim (cases_eq c y) [
            | inl i ↦
                here y ∙ (or_right (is_in (first ∷ xs) y) (eqb y c) (eq-eqb y c (sym i))
                ∙ sym (eq-eqb (list_at M y) k (ap (list_at M) (sym i) ∙ moves.here)))
            | inr ne ↦
                let lt'' : y < length L = rw moves.long at lt' in
                here y ∙ (ap (λ b. is_in (first ∷ xs) y || b) (ne_eqb y c (λ i. ne (sym i)))
                ∙ (or_nothing (is_in (first ∷ xs) y)
                ∙ (s.exact y lt'' ∙ sym (ap (λ z. z == k) (moves.others y ne)))))
          ]),
    )

pub strung-push : (k : ℕ) (L M : List Link) (first last n c : ℕ) → (n ≡ 0 → ⊥) → IsStrung k L (record { first = first; last = last; len = n }) → 0 < k → c < length L → list_at L c ≡ 0 → MovesOnly c k L M
    → after_at M last ≡ c → before_at M c ≡ last → ((y : ℕ) → (c ≡ y → ⊥) → (last ≡ y → ⊥) → after_at M y ≡ after_at L y) → ((y : ℕ) → (c ≡ y → ⊥) → before_at M y ≡ before_at L y)
    → (places_of M (record { first = first; last = c; len = n + 1 }) ≡ places_of L (record { first = first; last = last; len = n }) ++ c ∷ []) × IsStrung k M (record { first = first; last = c; len = n + 1 })
strung-push k L M first last zero c some = absurd (some refl)
strung-push k L M first last (suc n) c some = strung-push_at k L M first last n c

-- the last place of a list that isn't empty is in it
pub last-strung : (k : ℕ) (L : List Link) (first last n : ℕ) → (n ≡ 0 → ⊥) → IsStrung k L (record { first = first; last = last; len = n }) → (last < length L) × (list_at L last ≡ k)
last-strung k L first last zero some s = absurd (some refl)
last-strung k L first last (suc n) some s =
    let xs : List ℕ = places_from (after_at L) n (after_at L first) in
    let there : is_in (first ∷ xs) last ≡ true = sym (ap (is_in (first ∷ xs)) s.last) ∙ last-in first xs in
    (s.below last there, eqb-true (list_at L last) k (sym (s.exact last (s.below last there)) ∙ there))

-- the last place stays where the first is taken out
last-rest : (L : List Link) (c first last : ℕ) (xs : List ℕ) → last_from first xs ≡ last → is_in xs c ≡ false → LastIs (cond (eqb last c) (before_at L c) last) xs
last-rest L c first last [] is gone = tt
last-rest L c first last (y ∷ ys) is gone =
    is ∙ sym (cond-false (eqb last c) (before_at L c) last (ne_eqb last c (λ i. not-in c (last_from y ys) (y ∷ ys) gone (last-in y ys) (sym i ∙ sym is))))

-- a place is taken out of a list
strung-unlink_at : (k : ℕ) (L M : List Link) (first last n c : ℕ) → IsStrung k L (record { first = first; last = last; len = suc n }) → 0 < k
    → is_in (places_of L (record { first = first; last = last; len = suc n })) c ≡ true → Unlinks c (record { first = first; last = last; len = suc n }) L M
    → (places_of M (ends_without L c (record { first = first; last = last; len = suc n })) ≡ without_place c (places_of L (record { first = first; last = last; len = suc n })))
    × IsStrung k M (ends_without L c (record { first = first; last = last; len = suc n }))
strung-unlink_at k L M first last n c s pos there u =
    let a = after_at L in
    let b = before_at L in
    let p = after_at M in
    let q = before_at M in
    let e : Ends = record { first = first; last = last; len = suc n } in
    let now : Ends = ends_without L c e in
    let xs : List ℕ = places_from a n (a first) in
    let g : List ℕ = first ∷ xs in
    let below : (y : ℕ) → is_in (without_place c g) y ≡ true → y < length M = λ y h. elim (cases_eq c y) [
      | inl i ↦ absurd (both_ways (is_in (without_place c g) y) (ap (is_in (without_place c g)) (sym i) ∙ gone-dropped c g) h)
      | inr ne ↦ let lt = s.below y (sym (in-dropped c y g ne) ∙ h) in rw u.moves.long lt
    ] in
    let exact : (y : ℕ) → y < length M → is_in (without_place c g) y ≡ (list_at M y == k) = λ y lt. elim (cases_eq c y) [
      | inl i ↦ ap (is_in (without_place c g)) (sym i) ∙ (gone-dropped c g ∙ sym (ne_eqb (list_at M y) k (λ z. let zero' : list_at M y ≡ 0 = ap (list_at M) (sym i) ∙ u.moves.here in absurd (omega arith))))
      | inr ne ↦ let lt' : y < length L = rw u.moves.long at lt in in-dropped c y g ne ∙ (s.exact y lt' ∙ sym (ap (λ z. z == k) (u.moves.others y ne)))
    ] in
    let near : (y : ℕ) → ((last_from first xs ≡ c) ⊎ (a c ≡ y → ⊥)) → q y ≡ b y = λ y h. elim h [ inl l ↦ u.near y (inl (sym s.last ∙ l)) | inr r ↦ u.near y (inr r) ] in
    let apart = distinct-dropped c g s.apart in
    elim (cases_eq c first) [
      | inl i ↦
          let gone : is_in xs c ≡ false = ap (is_in xs) i ∙ s.apart.0 in
          let less : without_place c g ≡ xs = ap (λ z. without_place c (z ∷ xs)) (sym i) ∙ dropped-first c xs gone in
          let flat : (y : ℕ) → p y ≡ a y = λ y. u.far y (inl (sym i)) in
          let begins : now.first ≡ a first = cond-true (eqb first c) (a c) first (eq-eqb first c (sym i)) ∙ ap a i in
          let len : now.len ≡ n = omega arith in
          let is : places_of M now ≡ xs = ap (λ z. places_from p z now.first) len ∙ (ap (places_from p n) begins ∙ follow-frame a p n (a first) (λ y h. flat y)) in
          let From : ℕ → Type 0 = λ z. AreJoinedFrom a b z xs in
          let Near : ℕ → Type 0 = λ z. (y : ℕ) → ((last_from z xs ≡ c) ⊎ (a c ≡ y → ⊥)) → q y ≡ b y in
          let joined : AreJoined p q xs = unlink-first a b p q c xs (subst From (sym i) s.joined) s.apart.1 flat (subst Near (sym i) near) in
          let ends : LastIs now.last xs = last-rest L c first last xs s.last gone in
          let Joined : List ℕ → Type 0 = λ ys. AreJoined p q ys in
          (is ∙ sym less, strung-of k M now (without_place c g) (is ∙ sym less) (subst Joined (sym less) joined) (subst (LastIs now.last) (sym less) ends) apart below exact)
      | inr ne ↦
          let l : is_in xs c ≡ true = sym (in-other c first xs ne) ∙ there in
          let d : List ℕ = without_place c xs in
          let less : without_place c g ≡ first ∷ d = dropped-later c first xs ne in
          let joined : AreJoinedFrom p q first d = unlink-from a b p q c first xs s.joined s.apart l (u.front (λ i. ne (sym i))) (λ y far. u.far y (inr far)) (λ more. u.back (λ i. more (s.last ∙ i))) near in
          let begins : now.first ≡ first = cond-false (eqb first c) (a c) first (ne_eqb first c (λ i. ne (sym i))) in
          let shorter = length-dropped c xs s.apart.1 l in
          let long = length-followed a n (a first) in
          let len : now.len ≡ suc (length d) = omega arith in
          let is : places_of M now ≡ first ∷ d = ap (λ z. places_from p z now.first) len ∙ (ap (places_from p (suc (length d))) begins ∙ ap (λ zs. first ∷ zs) (follow-from p q first d joined)) in
          let ends : LastIs now.last (first ∷ d) = elim (cases_eq last c) [
            | inl i ↦ last-dropped_last a b c first xs s.joined s.apart l (s.last ∙ i) ∙ sym (cond-true (eqb last c) (b c) last (eq-eqb last c i))
            | inr other ↦ last-dropped_other c first xs s.apart.1 (λ i. other (sym s.last ∙ i)) ∙ (s.last ∙ sym (cond-false (eqb last c) (b c) last (ne_eqb last c other)))
          ] in
          let Joined : List ℕ → Type 0 = λ ys. AreJoined p q ys in
          (is ∙ sym less, strung-of k M now (without_place c g) (is ∙ sym less) (subst Joined (sym less) joined) (subst (LastIs now.last) (sym less) ends) apart below exact)
    ]

pub strung-unlink : (k : ℕ) (L M : List Link) (first last n c : ℕ) → IsStrung k L (record { first = first; last = last; len = n }) → 0 < k
    → is_in (places_of L (record { first = first; last = last; len = n })) c ≡ true → Unlinks c (record { first = first; last = last; len = n }) L M
    → (places_of M (ends_without L c (record { first = first; last = last; len = n })) ≡ without_place c (places_of L (record { first = first; last = last; len = n })))
    × IsStrung k M (ends_without L c (record { first = first; last = last; len = n }))
strung-unlink k L M first last zero c s pos there u = absurd (true≢false (sym there))
strung-unlink k L M first last (suc n) c s pos there u = strung-unlink_at k L M first last n c s pos there u

-- the place before one that isn't the first is in the list, and so is the one
-- behind one that isn't the last
pub before-strung : (k : ℕ) (L : List Link) (first last n c : ℕ) → IsStrung k L (record { first = first; last = last; len = n })
    → is_in (places_of L (record { first = first; last = last; len = n })) c ≡ true → (first ≡ c → ⊥) → is_in (places_of L (record { first = first; last = last; len = n })) (before_at L c) ≡ true
before-strung k L first last zero c s there ne = absurd (true≢false (sym there))
before-strung k L first last (suc n) c s there ne =
    let xs : List ℕ = places_from (after_at L) n (after_at L first) in
    before-in (after_at L) (before_at L) c first xs s.joined (sym (in-other c first xs (λ i. ne (sym i))) ∙ there)

pub after-strung : (k : ℕ) (L : List Link) (first last n c : ℕ) → IsStrung k L (record { first = first; last = last; len = n })
    → is_in (places_of L (record { first = first; last = last; len = n })) c ≡ true → (last ≡ c → ⊥) → is_in (places_of L (record { first = first; last = last; len = n })) (after_at L c) ≡ true
after-strung k L first last zero c s there ne = absurd (true≢false (sym there))
after-strung k L first last (suc n) c s there ne =
    let xs : List ℕ = places_from (after_at L) n (after_at L first) in
    in-later (after_at L c) first xs (after-in (after_at L) (before_at L) c first xs s.joined there (λ i. ne (sym s.last ∙ i)))

-- a place of this list isn't one that is in another
apart-lists : (k x y : ℕ) (L : List Link) (e : Ends) → IsStrung k L e → is_in (places_of L e) x ≡ true → (list_at L y ≡ k → ⊥) → x ≡ y → ⊥
apart-lists k x y L e s there ne i = ne (ap (list_at L) (sym i) ∙ eqb-true (list_at L x) k (sym (s.exact x (s.below x there)) ∙ there))

pub unlink-spares : (k c : ℕ) (L M : List Link) (e : Ends) → IsStrung k L e → is_in (places_of L e) c ≡ true → list_at L c ≡ k → Unlinks c e L M → SparesOthers k L M
unlink-spares k c L M e s there is u =
    spares-frame k c 0 L M (inl refl) (inr is) u.moves
    (λ y lt pos ne. (
      elim (cases_eq e.first c) [
        | inl i ↦ u.far y (inl i)
        | inr other ↦ u.far y (inr (apart-lists k (before_at L c) y L e s (before-strung k L e.first e.last e.len c s there other) ne))
      ],
      elim (cases_eq e.last c) [
        | inl i ↦ u.near y (inl i)
        | inr other ↦ u.near y (inr (apart-lists k (after_at L c) y L e s (after-strung k L e.first e.last e.len c s there other) ne))
      ],
    ))
