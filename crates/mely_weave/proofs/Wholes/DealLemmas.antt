-- What is dealt to the shards.
use Rattle.std.proofs.Common.{◌≡◌, ℕ, zero, suc, ◌+◌, ◌*◌, ◌≤◌, ◌<◌, ◌/◌, ◌%◌, List, [], ◌∷◌, ◌++◌, Some, length, refl, ap, sym, ◌∙◌, subst, arith, inl, inr, ⊎_elim}
use Rattle.std.proofs.Math.Nat.{mul-le-mul_right}
use Rattle.std.proofs.lemmas.Bool.{cases_eq, cases_lt}
use Rattle.std.proofs.lemmas.List.{length-set}
use Rattle.std.proofs.lemmas.Nat.{div-mul-add, mod-mul-add, div-add-mod'}
use Rattle.std.proofs.lemmas.Option.{slice_get_within, same_Some}
use Rattle.std.specs.Prelude.{slice_get, slice_set}
use Rattle.mely_weave.specs.Dealing.{AreDealt, HaveRoomFor, IsWithinShare}
use Rattle.mely_weave.proofs.Wholes.GatherLemmas.{get_there}
use Rattle.mely_weave.proofs.Lines.StepLemmas.{others_set}

-- what stands in a list with one more at its end
pub push_other : {A : Type 0} (xs : List A) (x : A) (k : ℕ) → (k ≡ length xs → ⊥) → slice_get (xs ++ x ∷ []) k ≡ slice_get xs k
push_other [] x zero n = absurd (n refl)
push_other [] x (suc k) n = refl
push_other (y ∷ ys) x zero n = refl
push_other (y ∷ ys) x (suc k) n = push_other ys x k (λ e. n (ap suc e))

pub push_at : {A : Type 0} (xs : List A) (x : A) → slice_get (xs ++ x ∷ []) (length xs) ≡ Some x
push_at [] x = refl
push_at (y ∷ ys) x = push_at ys x

-- what is there in one list is there in the other
pub within_both : {A : Type 0} (xs ys : List A) (i j : ℕ) → slice_get xs i ≡ slice_get ys j → i < length xs → j < length ys
within_both xs ys i j same low =
    let at = get_there xs i low in
    slice_get_within ys j at.0 (sym same ∙ at.1)

module _ {X Y : Type 0} (items : Y → List X) (shards : ℕ) (some : 1 ≤ shards) where
  module _ (all : List X) (shard : ℕ) (pile : List X) (low : shard < shards) (dealt : (i : ℕ) → slice_get pile i ≡ slice_get all (i * shards + shard)) where
    -- a pile has what is below some number of colours, where it is the turn of its shard
    pile_length : (n : ℕ) → length all ≡ n → n % shards ≡ shard → length pile ≡ n / shards
    pile_length n many turn =
        let last : n / shards * shards + n % shards ≡ n = div-add-mod' n shards in
        let full : n / shards ≤ length pile = elim (cases_lt (length pile) (n / shards)) [
          | inl less ↦
              let step = mul-le-mul_right shards (let h : length pile + 1 ≤ n / shards = omega (arith, less) in h) in
              let there = within_both all pile (length pile * shards + shard) (length pile) (sym (dealt (length pile))) (omega (arith, step, last, turn, many)) in
              absurd (omega (arith, there))
          | inr more ↦ more
        ] in
        elim (cases_lt (n / shards) (length pile)) [
          | inl more ↦
              let there = within_both pile all (n / shards) (n / shards * shards + shard) (dealt (n / shards)) more in
              absurd (omega (arith, there, last, turn, many))
          | inr less ↦ omega (arith, full, less)
        ]

  -- there is room for one more in the pile of the shard whose turn it is
  pub less_than_room : (all : List X) (piles : List Y) (old : Y) (n total room : ℕ) → length all ≡ n → n < total → total ≤ room * shards → AreDealt items shards all piles → slice_get piles (n % shards) ≡ Some old → length (items old) < room
  less_than_room all piles old n total room many less enough dealt there =
      let low : n % shards < shards = omega (arith, some) in
      let last : n / shards * shards + n % shards ≡ n = div-add-mod' n shards in
      let size : length (items old) ≡ n / shards = pile_length all (n % shards) (items old) low (dealt.each (n % shards) old there) n many refl in
      elim (cases_lt (n / shards) room) [
        | inl under ↦ omega (arith, under, size)
        | inr over ↦
            let step = mul-le-mul_right shards over in
            absurd (omega (arith, step, last, less, enough))
      ]

  -- each pile is within its share
  pub dealt_few : (all : List X) (piles : List Y) → AreDealt items shards all piles → (total : ℕ) → length all ≡ total → (shard : ℕ) (pile : Y) → slice_get piles shard ≡ Some pile → IsWithinShare total shards (length (items pile))
  dealt_few all piles dealt total many shard pile at room enough = elim (cases_lt room (length (items pile))) [
    | inl more ↦
        let there = within_both (items pile) all room (room * shards + shard) (dealt.each shard pile at room) more in
        absurd (omega (arith, there, enough, many))
    | inr less ↦ less
  ]

  -- one more is dealt to the shard whose turn it is
  pub dealt_more : (all : List X) (piles : List Y) (old new : Y) (x : X) (n : ℕ) → length all ≡ n → AreDealt items shards all piles → slice_get piles (n % shards) ≡ Some old → items new ≡ items old ++ x ∷ [] → AreDealt items shards (all ++ x ∷ []) (slice_set piles (n % shards) new)
  dealt_more all piles old new x n many dealt there becomes =
      let low : n % shards < shards = omega (arith, some) in
      let last : n / shards * shards + n % shards ≡ n = div-add-mod' n shards in
      let size : length (items old) ≡ n / shards = pile_length all (n % shards) (items old) low (dealt.each (n % shards) old there) n many refl in
      record {
        many = length-set piles (n % shards) new ∙ dealt.many;
        each = others_set (λ shard pile. (i : ℕ) → slice_get (items pile) i ≡ slice_get (all ++ x ∷ []) (i * shards + shard)) piles (n % shards) old new there
            (λ shard pile apart at i.
            let under : shard < shards = let within = slice_get_within piles shard pile at in let count = dealt.many in omega (arith, within, count) in
            dealt.each shard pile at i ∙ sym (push_other all x (i * shards + shard) (λ e. apart (sym (mod-mul-add i shards shard under) ∙ ap (λ k. k % shards) (e ∙ many)))))
            (λ i. ap (λ xs. slice_get xs i) becomes ∙ elim (cases_eq i (n / shards)) [
              | inl here ↦
                  let left : slice_get (items old ++ x ∷ []) i ≡ Some x = ap (slice_get (items old ++ x ∷ [])) (here ∙ sym size) ∙ push_at (items old) x in
                  let right : slice_get (all ++ x ∷ []) (i * shards + n % shards) ≡ Some x = ap (slice_get (all ++ x ∷ [])) (ap (λ k. k * shards + n % shards) here ∙ last ∙ sym many) ∙ push_at all x in
                  left ∙ sym right
              | inr apart ↦
                  push_other (items old) x i (λ e. apart (e ∙ size))
                  ∙ dealt.each (n % shards) old there i
                  ∙ sym (push_other all x (i * shards + n % shards) (λ e. apart (sym (div-mul-add i shards (n % shards) low) ∙ ap (λ k. k / shards) (e ∙ many))))
            ]);
      }

-- what each element has, each has after one that has it was pushed
pub each_push : {A : Type 0} (Has : ℕ → A → Type 0) (xs : List A) (y : A) (n : ℕ) → length xs ≡ n → ((k : ℕ) (x : A) → slice_get xs k ≡ Some x → Has k x) → Has n y → (k : ℕ) (x : A) → slice_get (xs ++ y ∷ []) k ≡ Some x → Has k x
each_push Has xs y n many all is k x at = ⊎_elim
    (λ (here : k ≡ n). subst (λ m. Has m x) (sym here) (subst (Has n) (same_Some y x (sym (push_at xs y) ∙ ap (slice_get (xs ++ y ∷ [])) (many ∙ sym here) ∙ at)) is))
    (λ (apart : k ≡ n → ⊥). all k x (sym (push_other xs y k (λ e. apart (e ∙ many))) ∙ at))
    (cases_eq k n)

-- the same of what two lists of one length have together
pub both_push : {A B : Type 0} (Has : ℕ → A → B → Type 0) (xs : List A) (ys : List B) (x : A) (y : B) (n : ℕ) → length xs ≡ n → length ys ≡ n → ((k : ℕ) (a : A) (b : B) → slice_get xs k ≡ Some a → slice_get ys k ≡ Some b → Has k a b) → Has n x y
    → (k : ℕ) (a : A) (b : B) → slice_get (xs ++ x ∷ []) k ≡ Some a → slice_get (ys ++ y ∷ []) k ≡ Some b → Has k a b
both_push Has xs ys x y n many_xs many_ys all is k a b at_xs at_ys = ⊎_elim
    (λ (here : k ≡ n). subst (λ m. Has m a b) (sym here)
    (subst (λ v. Has n v b) (same_Some x a (sym (push_at xs x) ∙ ap (slice_get (xs ++ x ∷ [])) (many_xs ∙ sym here) ∙ at_xs))
    (subst (Has n x) (same_Some y b (sym (push_at ys y) ∙ ap (slice_get (ys ++ y ∷ [])) (many_ys ∙ sym here) ∙ at_ys)) is)))
    (λ (apart : k ≡ n → ⊥). all k a b (sym (push_other xs x k (λ e. apart (e ∙ many_xs))) ∙ at_xs) (sym (push_other ys y k (λ e. apart (e ∙ many_ys))) ∙ at_ys))
    (cases_eq k n)

-- what stands behind the first ones
pub seam_at : {A : Type 0} (xs : List A) (x : A) (ys : List A) → slice_get (xs ++ x ∷ ys) (length xs) ≡ Some x
seam_at [] x ys = refl
seam_at (z ∷ zs) x ys = seam_at zs x ys

-- there is as much room after one list became longer within its own
pub room_kept : {Y : Type 0} (room : Y → ℕ) (all shards : ℕ) (rooms : List Y) (old new : Y) (p : ℕ) → slice_get rooms p ≡ Some old → room new ≡ room old → HaveRoomFor room all shards rooms → HaveRoomFor room all shards (slice_set rooms p new)
room_kept room all shards rooms old new p there same have = record {
  many = length-set rooms p new ∙ have.many;
  each = others_set (λ _ r. all ≤ room r * shards) rooms p old new there (λ k r apart at. have.each k r at) (subst (λ n. all ≤ n * shards) (sym same) (have.each p old there));
}

-- what each has, the last has, and those before it
pub each_popped : {Y : Type 0} (Has : Y → Type 0) (xs ys : List Y) (y : Y) → xs ≡ ys ++ y ∷ [] → ((i : ℕ) (r : Y) → slice_get xs i ≡ Some r → Has r) → Has y × ((i : ℕ) (r : Y) → slice_get ys i ≡ Some r → Has r)
each_popped Has xs ys y is all = (
  all (length ys) y (ap (λ l. slice_get l (length ys)) is ∙ push_at ys y),
  λ i r at. all i r (ap (λ l. slice_get l i) is ∙ push_other ys y i (λ e. let within = slice_get_within ys i r at in omega (arith, within, e)) ∙ at),
)

-- so many times the number of shards, and one more, hold all
pub most_enough : (all shards : ℕ) → 1 ≤ shards → all ≤ (all / shards + 1) * shards
most_enough all shards some =
    let last : all / shards * shards + all % shards ≡ all = div-add-mod' all shards in
    let less : all % shards < shards = omega (arith, some) in
    omega (arith, last, less)

-- rooms for so many each have room for all
pub have_room : {Y : Type 0} (room : Y → ℕ) (all shards most : ℕ) (rooms : List Y) → length rooms ≡ shards → all ≤ most * shards → ((k : ℕ) (r : Y) → slice_get rooms k ≡ Some r → most ≤ room r) → HaveRoomFor room all shards rooms
have_room room all shards most rooms many enough each = record {
  many = many;
  each = λ k r at. let more = mul-le-mul_right shards (each k r at) in omega (arith, more, enough);
}
