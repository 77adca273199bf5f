use Rattle.std.proofs.Common.{◌≡◌, ℕ, suc, ◌+◌, ◌<◌, ◌≤◌, List, [], ◌∷◌, ◌++◌, length, get_or, vec_len, vec_capacity, refl, sym, ◌∙◌, ap, subst, ⊎_elim, append-nil, append_assoc, length-append, arith}
use Rattle.std.specs.Prelude.{slice_set}
use Rattle.std.proofs.lemmas.Bool.{cases_eq}
use Rattle.std.proofs.lemmas.List.{get_or_at, get_or_default, get_or-set_same, get_or-set_other, length-set}
use Rattle.mely_fleet.proofs.closing.hand_in.Goals as goal
use Rattle.mely_fleet.proofs.closing.hand_in.Goals.{After-drop-row}

-- what holds at each place from the next one on holds from the one that is written on
set_down : {C : Type 0} (P : ℕ → C → C → Type 0) (xs : List C) (i : ℕ) (v : C) → i < length xs → ((k : ℕ) (d : C) → suc i ≤ k → k < length xs → P k d (get_or xs k d)) → ((d : C) → P i d v)
    → (k : ℕ) (d : C) → i ≤ k → k < length (slice_set xs i v) → P k d (get_or (slice_set xs i v) k d)
set_down P xs i v low above here k d from within = ⊎_elim
    (λ (same : k ≡ i). subst (λ j. P j d (get_or (slice_set xs i v) j d)) (sym same) (subst (P i d) (sym (get_or-set_same xs i v d low)) (here d)))
    (λ (other : k ≡ i → ⊥). let many = length-set xs i v in subst (P k d) (sym (get_or-set_other xs i k v d other)) (above k d (omega (arith, from, other)) (omega (arith, within, many))))
    (cases_eq k i)

-- a column with one pass more
one_more : {A C : Type 0} (items : C → List A) (new column old : C) (x y : A) → items new ≡ items column ++ x ∷ [] → column ≡ old → y ≡ x → items new ≡ items old ++ y ∷ []
one_more items new column old x y pushed is same = pushed ∙ ap (λ c. items c ++ x ∷ []) is ∙ ap (λ z. items old ++ z ∷ []) (sym same)

pub hand-init : goal.hand-init
hand-init g c =
    let many = c.requires.as_many in
    let columns = c.args.columns.now.items in
    record {
      many = refl;
      rest = omega (arith, many);
      left = ([], sym (append-nil c.args.row.items));
      not_yet = λ k d low. refl;
      done = λ k d p from low. absurd {A = (get_or columns k d).items ≡ (get_or columns k d).items ++ get_or c.args.row.items k p ∷ []} (omega (arith, many, from, low));
      len = λ k d from low. absurd {A = vec_len (get_or columns k d) ≡ vec_len (get_or columns k d) + 1} (omega (arith, many, from, low));
      capacity = λ k d from low. refl;
    }

pub hand-preserved : goal.hand-preserved
hand-preserved g c =
    let at = c.hand.invariant in
    let xs = c.hand.columns.items in
    let left = c.pop.new.self.items in
    let i = c.len-place.result in
    let new = c.push_reserved.new.self in
    let pass = c.in-Some.pass in
    let popped : c.hand.row.items ≡ left ++ pass ∷ [] = c.in-Some.ensures.items in
    let short : length c.hand.row.items ≡ length left + 1 = ap length popped ∙ length-append left (pass ∷ []) in
    let place : i ≡ length left = let value = c.len-place.ensures in let len = c.pop.new.self.ok.0 in omega (arith, value, len) in
    let within : length c.hand.row.items ≤ length xs = at.rest in
    let low : i < length xs = omega (arith, place, short, within) in
    let many : length (slice_set xs i new) ≡ length xs = length-set xs i new in
    let column = λ (d : _). c.index_mut-column.ensures.value ∙ get_or_default xs i _ d low ∙ at.not_yet i d (omega (arith, place, short)) in
    let whole : c.args.row.items ≡ left ++ pass ∷ at.left.0 = at.left.1 ∙ ap (λ l. l ++ at.left.0) popped ∙ append_assoc left (pass ∷ []) at.left.0 in
    record {
      many = many ∙ at.many;
      rest = omega (arith, many, within, short);
      left = (pass ∷ at.left.0, whole);
      not_yet = λ k d before. get_or-set_other xs i k new d (λ (same : k ≡ i). omega (arith, before, place, same)) ∙ at.not_yet k d (omega (arith, before, short));
      done = λ k d p from below. set_down (λ k d c'. c'.items ≡ (get_or c.args.columns.now.items k d).items ++ get_or c.args.row.items k p ∷ []) xs i new low
          (λ k d above there. at.done k d p (omega (arith, above, place, short)) there)
          (λ d. one_more (λ list. list.items) new c.index_mut-column.result.now (get_or c.args.columns.now.items i d) pass (get_or c.args.row.items i p) c.push_reserved.ensures.items (column d) (ap (λ l. get_or l i p) whole ∙ get_or_at left pass at.left.0 p i (sym place)))
          k d (omega (arith, from, place)) below;
      len = λ k d from below. set_down (λ k d c'. vec_len c' ≡ vec_len (get_or c.args.columns.now.items k d) + 1) xs i new low
          (λ k d above there. at.len k d (omega (arith, above, place, short)) there)
          (λ d. c.push_reserved.ensures.len ∙ ap (λ c'. vec_len c' + 1) (column d))
          k d (omega (arith, from, place)) below;
      capacity = λ k d from below. set_down (λ k d c'. vec_capacity c' ≡ vec_capacity (get_or c.args.columns.now.items k d)) xs i new low
          (λ k d above there. at.capacity k d (omega (arith, above, place, short)) there)
          (λ d. c.push_reserved.ensures.capacity ∙ ap (λ c'. vec_capacity c') (column d))
          k d (omega (arith, from, place)) below;
    }

-- no pass is left in the row
none_left : (g : _) (c : After-drop-row g) (k : ℕ) → length c.hand.row.items ≤ k
none_left g c k = let none = c.in_default.ensures.cases.0 in let len = c.hand.row.ok.0 in omega (arith, none, len)

pub returns-clause-each : goal.returns-clause-each
returns-clause-each g c = λ k d p low. let many = c.hand.invariant.many in c.hand.invariant.done k d p (none_left g c k) (omega (arith, low, many))

pub returns-clause-len : goal.returns-clause-len
returns-clause-len g c = λ k d low. let many = c.hand.invariant.many in c.hand.invariant.len k d (none_left g c k) (omega (arith, low, many))

pub returns-clause-capacity : goal.returns-clause-capacity
returns-clause-capacity g c = λ k d low. let many = c.hand.invariant.many in c.hand.invariant.capacity k d (none_left g c k) (omega (arith, low, many))
