-- Laws of three lists in one table with numbers of entering.
use Rattle.std.proofs.Common.{◌≡◌, ◌<◌, ◌≤◌, ◌==◌, ◌+◌, ◌-◌, ℕ, Bool, true, false, not, cond, eqb, List, [], ◌∷◌, ◌++◌, Option, None, Some, find, length, set, ◌⊎◌, inl, inr, arith, refl, sym, ap, subst, ◌∙◌, append-nil, length-set, get_or-set_same, get_or-set_other}
use Rattle.std.specs.Option.{option_map_or}
use Rattle.std.proofs.lemmas.Bool.{cases_eq, both_ways, eqb-true, eq-eqb, ne_eqb, or_parts}
use Rattle.std.proofs.lemmas.List.{map-append}
use Rattle.mely_steal.specs.declared.links.Link.{Link}
use Rattle.mely_steal.specs.declared.links.Ends.{Ends}
use Rattle.mely_steal.specs.Links.{list_at, places_of, is_in, without_place, IsStrung, MovesOnly, SparesOthers}
use Rattle.mely_steal.specs.Entering.{Ranked, of_class, entries_without, has_entry, class_in, ranks_of, number_at, no_ends, ends_at, entries_of, IsAscending, AreClassed, AreBelow, IsMerged, StandInOrder}
use Rattle.mely_steal.proofs.LinkLemmas.{dropped-none}
use Rattle.mely_steal.proofs.EnterLemmas.{class-here, class-later, merged-is, class-push, ascending-push, classed-push, below-push, ascending-filter, classed-filter, below-filter, filter-swap, entries_without-ranks, has-ranked, has-class, find-class, find-none}

-- a class of marks that are worth a steal
abbrev pub IsClass : ℕ → Type 0
IsClass k = (k ≡ 1) ⊎ ((k ≡ 2) ⊎ (k ≡ 3))

pub class-range : (k : ℕ) → IsClass k → (0 < k) × (k ≤ 3)
class-range k is = elim is [
  | inl one ↦ (omega arith, omega arith)
  | inr more ↦ elim more [ inl two ↦ (omega arith, omega arith) | inr three ↦ (omega arith, omega arith) ]
]

pub class-cases : (k : ℕ) → k ≤ 3 → (k ≡ 0) ⊎ IsClass k
class-cases k le = elim (cases_eq k 0) [
  | inl none ↦ inl none
  | inr some ↦ elim (cases_eq k 1) [
    | inl one ↦ inr (inl one)
    | inr above ↦ elim (cases_eq k 2) [ inl two ↦ inr (inr (inl two)) | inr most ↦ inr (inr (inr (omega arith))) ]
  ]
]

-- what holds at 1, 2 and 3 holds of each class
pub at-class : (P : ℕ → Type 0) (k : ℕ) → IsClass k → P 1 → P 2 → P 3 → P k
at-class P k is one two three = elim is [
  | inl e ↦ subst P (sym e) one
  | inr more ↦ elim more [ inl e ↦ subst P (sym e) two | inr e ↦ subst P (sym e) three ]
]

-- the list of a class
abbrev pub list_of : List Link → List Ends → ℕ → List ℕ
list_of links ends class = places_of links (ends_at ends (class - 1))

pub strung-class : (L : List Link) (ends : List Ends) (N : List ℕ) (next k : ℕ) → StandInOrder L ends N next → IsClass k → IsStrung k L (ends_at ends (k - 1))
strung-class L ends N next k s is = at-class (λ j. IsStrung j L (ends_at ends (j - 1))) k is s.one s.two s.three

pub entries-class : (L : List Link) (ends : List Ends) (N : List ℕ) (next k : ℕ) → StandInOrder L ends N next → IsClass k → of_class k (entries_of L ends N) ≡ ranks_of k (list_of L ends k)
entries-class L ends N next k s is = at-class (λ j. of_class j (entries_of L ends N) ≡ ranks_of j (list_of L ends j)) k is s.merge.ones s.merge.twos s.merge.threes

-- a colour's place in the table says which class its entry is of
class-by : (L : List Link) (ends : List Ends) (N : List ℕ) (next x : ℕ) → StandInOrder L ends N next → x < length L → (o : Option Ranked) → find (λ e. e.colour == x) (entries_of L ends N) ≡ o → option_map_or (λ e. e.class) o 0 ≡ list_at L x
class-by L ends N next x s lt None found =
    let none = find-none x (entries_of L ends N) found in
    elim (class-cases (list_at L x) (s.classes x)) [
      | inl zero' ↦ sym zero'
      | inr is ↦
          let k = list_at L x in
          let there : is_in (list_of L ends k) x ≡ true = (strung-class L ends N next k s is).exact x lt ∙ eq-eqb k k refl in
          let entry : has_entry x (of_class k (entries_of L ends N)) ≡ true = ap (has_entry x) (entries-class L ends N next k s is) ∙ (has-ranked x k (list_of L ends k) ∙ there) in
          absurd (both_ways (has_entry x (entries_of L ends N)) none (has-class x k (entries_of L ends N) entry))
    ]
class-by L ends N next x s lt (Some r) found =
    let parts = find-class x (entries_of L ends N) r s.merge.classed found in
    let k = r.class in
    let there : is_in (list_of L ends k) x ≡ true = sym (has-ranked x k (list_of L ends k)) ∙ (sym (ap (has_entry x) (entries-class L ends N next k s parts.2)) ∙ parts.1) in
    sym (eqb-true (list_at L x) k (sym ((strung-class L ends N next k s parts.2).exact x lt) ∙ there))

pub class-is : (L : List Link) (ends : List Ends) (N : List ℕ) (next x : ℕ) → StandInOrder L ends N next → x < length L → class_in x (entries_of L ends N) ≡ list_at L x
class-is L ends N next x s lt = class-by L ends N next x s lt (find (λ e. e.colour == x) (entries_of L ends N)) refl

-- a colour that says that it is in no list has no entry
none-by : (x : ℕ) (g : List Ranked) → AreClassed g → (o : Option Ranked) → find (λ e. e.colour == x) g ≡ o → option_map_or (λ e. e.class) o 0 ≡ 0 → has_entry x g ≡ false
none-by x g classed None found is = find-none x g found
none-by x g classed (Some r) found is = let range = class-range r.class (find-class x g r classed found).2 in let at : r.class ≡ 0 = is in absurd (omega arith)

pub has-none : (x : ℕ) (g : List Ranked) → AreClassed g → class_in x g ≡ 0 → has_entry x g ≡ false
has-none x g classed is = none-by x g classed (find (λ e. e.colour == x) g) refl is

-- entries stand in order where they do so under what they are
pub stands-as : (M : List Link) (ends : List Ends) (N : List ℕ) (next : ℕ) (g : List Ranked) → length ends ≡ 3 → length M ≤ 65536 → length N ≡ length M → ((x : ℕ) → list_at M x ≤ 3)
    → ((k : ℕ) → IsClass k → IsStrung k M (ends_at ends (k - 1))) → ((k : ℕ) → IsClass k → of_class k g ≡ ranks_of k (list_of M ends k))
    → IsAscending (number_at N) g → AreClassed g → AreBelow (number_at N) next g → (entries_of M ends N ≡ g) × StandInOrder M ends N next
stands-as M ends N next g many small numbered most strung classes up classed below =
    let merge : IsMerged (number_at N) g (list_of M ends 1) (list_of M ends 2) (list_of M ends 3) = record {
      ascending = up;
      classed = classed;
      ones = classes 1 (inl refl);
      twos = classes 2 (inr (inl refl));
      threes = classes 3 (inr (inr refl));
    } in
    let is : entries_of M ends N ≡ g = merged-is (number_at N) g (list_of M ends 1) (list_of M ends 2) (list_of M ends 3) merge in
    let Merges : List Ranked → Type 0 = λ h. IsMerged (number_at N) h (list_of M ends 1) (list_of M ends 2) (list_of M ends 3) in (
      is,
      record {
        many = many;
        small = small;
        numbered = numbered;
        classes = most;
        one = strung 1 (inl refl);
        two = strung 2 (inr (inl refl));
        three = strung 3 (inr (inr refl));
        merge = subst Merges (sym is) merge;
        below = subst (AreBelow (number_at N) next) (sym is) below;
      },
    )

-- what becomes of each list where one of them changes
lists-after : (L M : List Link) (ends : List Ends) (N : List ℕ) (next k j : ℕ) (now : Ends) → StandInOrder L ends N next → IsClass k → IsClass j → IsStrung k M now → SparesOthers k L M
    → ((j ≡ k) × (list_of M (set ends (k - 1) now) j ≡ places_of M now) × IsStrung j M (ends_at (set ends (k - 1) now) (j - 1)))
    ⊎ ((j ≡ k → ⊥) × (list_of M (set ends (k - 1) now) j ≡ list_of L ends j) × IsStrung j M (ends_at (set ends (k - 1) now) (j - 1)))
lists-after L M ends N next k j now s isk isj strung spares =
    let rk = class-range k isk in
    let rj = class-range j isj in
    let many = s.many in
    elim (cases_eq j k) [
      | inl e ↦
          let within : k - 1 < length ends = omega arith in
          let at : ends_at (set ends (k - 1) now) (j - 1) ≡ now = ap (λ z. ends_at (set ends (k - 1) now) (z - 1)) e ∙ get_or-set_same ends (k - 1) now no_ends within in
          let Strung : Ends → Type 0 = λ z. IsStrung j M z in
          let Numbered : ℕ → Type 0 = λ z. IsStrung z M now in
          inl (e, ap (places_of M) at, subst Strung (sym at) (subst Numbered (sym e) strung))
      | inr ne ↦
          let other : j - 1 ≡ k - 1 → ⊥ = λ e. ne (omega arith) in
          let at : ends_at (set ends (k - 1) now) (j - 1) ≡ ends_at ends (j - 1) = get_or-set_other ends (k - 1) (j - 1) now no_ends other in
          let stays = spares j (ends_at ends (j - 1)) rj.0 ne (strung-class L ends N next j s isj) in
          let Strung : Ends → Type 0 = λ z. IsStrung j M z in
          inr (ne, ap (places_of M) at ∙ stays.0, subst Strung (sym at) stays.1)
    ]

-- where a colour entered a class
pub enter-stands : (L M : List Link) (ends : List Ends) (N : List ℕ) (next k c : ℕ) (now : Ends) → StandInOrder L ends N next → IsClass k → c < length L → list_at L c ≡ 0
    → places_of M now ≡ list_of L ends k ++ c ∷ [] → IsStrung k M now → SparesOthers k L M → MovesOnly c k L M
    → (entries_of M (set ends (k - 1) now) (set N c next) ≡ entries_of L ends N ++ record { colour = c; class = k } ∷ []) × StandInOrder M (set ends (k - 1) now) (set N c next) (next + 1)
enter-stands L M ends N next k c now s isk lt free is strung spares moves =
    let g : List Ranked = entries_of L ends N in
    let r : Ranked = record { colour = c; class = k } in
    let late : List Ends = set ends (k - 1) now in
    let n : ℕ → ℕ = number_at N in
    let m : ℕ → ℕ = number_at (set N c next) in
    let numbered = s.numbered in
    let range = class-range k isk in
    let absent : has_entry c g ≡ false = has-none c g s.merge.classed (class-is L ends N next c s lt ∙ free) in
    let same : (x : ℕ) → has_entry x g ≡ true → m x ≡ n x = λ x h. get_or-set_other N c x next 0 (λ e. both_ways (has_entry c g) absent (ap (λ z. has_entry z g) (sym e) ∙ h)) in
    let within : c < length N = omega arith in
    let here : m c ≡ next = get_or-set_same N c next 0 within in
    let Below : ℕ → Type 0 = λ z. AreBelow n z g in
    stands-as M late (set N c next) (next + 1) (g ++ r ∷ [])
    (length-set ends (k - 1) now ∙ s.many)
    (let small = s.small in rw moves.long small)
    (length-set N c next ∙ (numbered ∙ sym moves.long))
    (λ x. elim (cases_eq c x) [
      | inl e ↦ let at : list_at M x ≡ k = ap (list_at M) (sym e) ∙ moves.here in omega arith
      | inr ne ↦ let le = s.classes x in rw (moves.others x ne) le
    ])
    (λ j isj. elim (lists-after L M ends N next k j now s isk isj strung spares) [ inl a ↦ a.2 | inr b ↦ b.2 ])
    (λ j isj. elim (lists-after L M ends N next k j now s isk isj strung spares) [
      | inl a ↦
          class-push j g r
          ∙ (ap (λ ys. ys ++ of_class j (r ∷ [])) (entries-class L ends N next j s isj)
          ∙ (ap (λ ys. ranks_of j (list_of L ends j) ++ ys) (class-here j r [] (sym a.0) ∙ ap (λ z. record { colour = c; class = z } ∷ []) (sym a.0))
          ∙ (sym (map-append (λ x. record { colour = x; class = j }) (list_of L ends j) (c ∷ []))
          ∙ ap (ranks_of j) (ap (λ z. list_of L ends z ++ c ∷ []) a.0 ∙ (sym is ∙ sym a.1)))))
      | inr b ↦
          class-push j g r
          ∙ (ap (λ ys. of_class j g ++ ys) (class-later j r [] (λ e. b.0 (sym e)))
          ∙ (append-nil (of_class j g)
          ∙ (entries-class L ends N next j s isj ∙ ap (ranks_of j) (sym b.1))))
    ])
    (ascending-push n m g r s.merge.ascending same (subst Below (sym here) s.below))
    (classed-push g r s.merge.classed isk)
    (below-push n m next g r s.below same here)

-- where a colour left its class
pub leave-stands : (L M : List Link) (ends : List Ends) (N : List ℕ) (next k c : ℕ) (now : Ends) → StandInOrder L ends N next → IsClass k → c < length L → list_at L c ≡ k
    → places_of M now ≡ without_place c (list_of L ends k) → IsStrung k M now → SparesOthers k L M → MovesOnly c 0 L M
    → (entries_of M (set ends (k - 1) now) N ≡ entries_without c (entries_of L ends N)) × StandInOrder M (set ends (k - 1) now) N next
leave-stands L M ends N next k c now s isk lt at is strung spares moves =
    let g : List Ranked = entries_of L ends N in
    let late : List Ends = set ends (k - 1) now in
    let n : ℕ → ℕ = number_at N in
    let p : Ranked → Bool = λ e. not (e.colour == c) in
    stands-as M late N next (entries_without c g)
    (length-set ends (k - 1) now ∙ s.many)
    (let small = s.small in rw moves.long small)
    (s.numbered ∙ sym moves.long)
    (λ x. elim (cases_eq c x) [
      | inl e ↦ let zero' : list_at M x ≡ 0 = ap (list_at M) (sym e) ∙ moves.here in omega arith
      | inr ne ↦ let le = s.classes x in rw (moves.others x ne) le
    ])
    (λ j isj. elim (lists-after L M ends N next k j now s isk isj strung spares) [ inl a ↦ a.2 | inr b ↦ b.2 ])
    (λ j isj.
    let rest : of_class j (entries_without c g) ≡ ranks_of j (without_place c (list_of L ends j)) =
    filter-swap (λ e. e.class == j) p g ∙ (ap (entries_without c) (entries-class L ends N next j s isj) ∙ entries_without-ranks c j (list_of L ends j)) in
    elim (lists-after L M ends N next k j now s isk isj strung spares) [
      | inl a ↦ rest ∙ ap (ranks_of j) (ap (λ z. without_place c (list_of L ends z)) a.0 ∙ (sym is ∙ sym a.1))
      | inr b ↦
          let off : is_in (list_of L ends j) c ≡ false = (strung-class L ends N next j s isj).exact c lt ∙ ne_eqb (list_at L c) j (λ e. b.0 (sym e ∙ at)) in
          rest ∙ ap (ranks_of j) (dropped-none c (list_of L ends j) off ∙ sym b.1)
    ])
    (ascending-filter n p g s.merge.ascending)
    (classed-filter p g s.merge.classed)
    (below-filter n next p g s.below)

-- entries without a colour that has none
pub entries_without-absent : (c : ℕ) (g : List Ranked) → has_entry c g ≡ false → entries_without c g ≡ g
entries_without-absent c [] off = refl
entries_without-absent c (x ∷ g) off =
    let parts = or_parts (eqb x.colour c) (has_entry c g) off in
    ap (λ b. cond (not b) (x ∷ entries_without c g) (entries_without c g)) parts.0 ∙ ap (λ ys. x ∷ ys) (entries_without-absent c g parts.1)

pub class-from : (k : ℕ) → 1 ≤ k → k ≤ 3 → IsClass k
class-from k low high = elim (class-cases k high) [ inl none ↦ absurd (omega arith) | inr is ↦ is ]

-- a colour that has an entry is in the table
within-by : (L : List Link) (ends : List Ends) (N : List ℕ) (next x : ℕ) → StandInOrder L ends N next → has_entry x (entries_of L ends N) ≡ true → (o : Option Ranked) → find (λ e. e.colour == x) (entries_of L ends N) ≡ o → x < length L
within-by L ends N next x s h None found = absurd (both_ways (has_entry x (entries_of L ends N)) (find-none x (entries_of L ends N) found) h)
within-by L ends N next x s h (Some r) found =
    let parts = find-class x (entries_of L ends N) r s.merge.classed found in
    let k = r.class in
    let there : is_in (list_of L ends k) x ≡ true = sym (has-ranked x k (list_of L ends k)) ∙ (sym (ap (has_entry x) (entries-class L ends N next k s parts.2)) ∙ parts.1) in
    (strung-class L ends N next k s parts.2).below x there

pub entry-within : (L : List Link) (ends : List Ends) (N : List ℕ) (next x : ℕ) → StandInOrder L ends N next → has_entry x (entries_of L ends N) ≡ true → x < length L
entry-within L ends N next x s h = within-by L ends N next x s h (find (λ e. e.colour == x) (entries_of L ends N)) refl
