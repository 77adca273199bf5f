use Rattle.std.proofs.Common.{◌≡◌, ℕ, zero, suc, ◌+◌, ◌<◌, ◌≤◌, List, [], ◌∷◌, ◌++◌, Some, length, get_or, vec_len, vec_capacity, sym, ◌∙◌, ap, subst, ⊎_elim, length-append, arith}
use Rattle.std.specs.Prelude.{slice_get}
use Rattle.std.proofs.lemmas.Bool.{cases_eq}
use Rattle.std.proofs.lemmas.List.{get_or_at, get_or_append_left}
use Rattle.mely_fleet.specs.Closed.{IsColumn, AreFilled}
use Rattle.mely_fleet.proofs.room.columns.Goals as goal

-- what holds at each place, with one more element
all_push : {C : Type 0} (P : ℕ → C → Type 0) (xs : List C) (v : C) → ((k : ℕ) (d : C) → k < length xs → P k (get_or xs k d)) → P (length xs) v → (k : ℕ) (d : C) → k < length (xs ++ v ∷ []) → P k (get_or (xs ++ v ∷ []) k d)
all_push P xs v all here k d low = ⊎_elim
    (λ (same : k ≡ length xs). subst (P k) (sym (get_or_at xs v [] d k (sym same))) (subst (λ j. P j v) (sym same) here))
    (λ (other : k ≡ length xs → ⊥). let many = length-append xs (v ∷ []) in let low_there : k < length xs = omega (arith, low, many, other) in subst (P k) (sym (get_or_append_left xs (v ∷ []) d k low_there)) (all k d low_there))
    (cases_eq k (length xs))

-- where no row was handed in nothing is to be in a column
no_row : {A : Type 0} (k n : ℕ) (column row : List A) (x : A) → slice_get [] n ≡ Some row → slice_get column n ≡ Some x → slice_get row k ≡ Some x
no_row k zero column row x at there = cc
no_row k (suc n) column row x at there = cc

-- one empty column more, with room
filled_push : {A C : Type 0} (items : C → List A) (len room : C → ℕ) (left : ℕ) (xs : List C) (v : C) → AreFilled items len room [] left xs → items v ≡ [] → len v + left ≤ room v → AreFilled items len room [] left (xs ++ v ∷ [])
filled_push items len room left xs v was none has = record {
  are = all_push (λ k c. IsColumn [] k (items c)) xs v was.are (record { many = ap length none; each = λ n row x at there. no_row (length xs) n (items v) row x at there });
  room_left = all_push (λ k c. len c + left ≤ room c) xs v was.room_left has;
}

pub lists-preserved : goal.lists-preserved
lists-preserved g c =
    let at = c.lists.invariant in
    let xs = c.lists.columns.items in
    let one = c.in_ok-with_capacity.field-0 in
    let pushed : c.push_reserved.new.self.items ≡ xs ++ one ∷ [] = c.push_reserved.ensures.items in
    let longer : length c.push_reserved.new.self.items ≡ length xs + 1 = ap length pushed ∙ length-append xs (one ∷ []) in
    let room = at.room in
    let len = at.len in
    let many = at.many in
    let kept = c.push_reserved.ensures.capacity in
    let len_more = c.push_reserved.ensures.len in
    record {
      room = omega (arith, room, kept);
      len = omega (arith, len, len_more);
      many = omega (arith, many, longer);
      filled = subst (λ l. AreFilled (λ list. list.items) vec_len vec_capacity [] c.args.room l) (sym pushed)
          (filled_push (λ list. list.items) vec_len vec_capacity c.args.room xs one at.filled c.in_ok-with_capacity.ensures.items (let none = c.in_ok-with_capacity.ensures.len in let has = c.in_ok-with_capacity.ensures.capacity in omega (arith, none, has)));
    }

pub returns-clause-room : goal.returns-clause-room
returns-clause-room g c = c.lists.invariant.filled
