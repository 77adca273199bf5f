-- What the shards give is spread by colour.
use Rattle.std.proofs.Common.{◌≡◌, ◌≢◌, ℕ, zero, suc, ◌+◌, ◌-◌, ◌*◌, ◌≤◌, ◌<◌, ◌/◌, ◌%◌, List, [], ◌∷◌, ◌++◌, Some, length, map, take, drop, get_or, refl, ap, sym, ◌∙◌, arith, inl, inr, length-append, add-one}
use Rattle.std.proofs.lemmas.Bool.{cases_eq, cases_lt}
use Rattle.std.proofs.Math.Seq.{drop-cons}
use Rattle.std.proofs.lemmas.List.{length-set, length-take-le, map-append, take_more}
use Rattle.std.proofs.lemmas.Nat.{div-mul-add, mod-mul-add, div-add-mod'}
use Rattle.std.proofs.lemmas.Option.{get_or_from_slice_get, slice_get_within, slice_get_past, same_Some}
use Rattle.std.specs.Prelude.{slice_get, slice_set}
use Rattle.mely_weave.specs.Dealing.{AreDealt}
use Rattle.mely_weave.specs.Spreading.{AreFull}
use Rattle.mely_weave.proofs.Wholes.DealLemmas.{push_other, push_at, within_both}
use Rattle.mely_weave.proofs.Wholes.GatherLemmas.{get_there}
use Rattle.mely_weave.proofs.Lines.StepLemmas.{others_set}

module _ {X Y : Type 0} (items : Y → List X) (shards : ℕ) (some : 1 ≤ shards) where
  -- the last one that was dealt is taken back
  module _ (all : List X) (piles : List Y) (old : Y) (x : X) (n : ℕ) (many : length all ≡ n) (dealt : AreDealt items shards (all ++ x ∷ []) piles) (there : slice_get piles (n % shards) ≡ Some old) where
    last : slice_get (items old) (n / shards) ≡ Some x
    last = dealt.each (n % shards) old there (n / shards) ∙ ap (slice_get (all ++ x ∷ [])) (div-add-mod' n shards ∙ sym many) ∙ push_at all x

    pub pile_size : length (items old) ≡ n / shards + 1
    pile_size =
        let low = slice_get_within (items old) (n / shards) x last in
        elim (cases_lt (n / shards + 1) (length (items old))) [
          | inl more ↦
              let past = within_both (items old) (all ++ x ∷ []) (n / shards + 1) ((n / shards + 1) * shards + n % shards) (dealt.each (n % shards) old there (n / shards + 1)) more in
              absurd (omega (arith, past, length-append all (x ∷ []), many, some, div-add-mod' n shards))
          | inr less ↦ omega (arith, low, less)
        ]

    module _ (new : Y) (y : X) (becomes : items old ≡ items new ++ y ∷ []) where
      new_size : length (items new) ≡ n / shards
      new_size = omega (arith, pile_size, ap length becomes, length-append (items new) (y ∷ []))

      pub dealt_last : y ≡ x
      dealt_last = same_Some y x (sym (ap (λ xs. slice_get xs (n / shards)) becomes ∙ ap (slice_get (items new ++ y ∷ [])) (sym new_size) ∙ push_at (items new) y) ∙ last)

      pub dealt_less : AreDealt items shards all (slice_set piles (n % shards) new)
      dealt_less =
          let low : n % shards < shards = omega (arith, some) in
          record {
            many = length-set piles (n % shards) new ∙ dealt.many;
            each = others_set (λ shard pile. (i : ℕ) → slice_get (items pile) i ≡ slice_get all (i * shards + shard)) piles (n % shards) old new there
                (λ shard pile apart at i.
                let under : shard < shards = let within = slice_get_within piles shard pile at in let count = dealt.many in omega (arith, within, count) in
                dealt.each shard pile at i ∙ push_other all x (i * shards + shard) (λ e. apart (sym (mod-mul-add i shards shard under) ∙ ap (λ k. k % shards) (e ∙ many))))
                (λ i. elim (cases_eq i (n / shards)) [
                  | inl here ↦
                      slice_get_past (items new) i (omega (arith, new_size, here))
                      ∙ sym (slice_get_past all (i * shards + n % shards) (let at : i * shards + n % shards ≡ n = ap (λ k. k * shards + n % shards) here ∙ div-add-mod' n shards in omega (arith, at, many)))
                  | inr apart ↦
                      sym (push_other (items new) y i (λ e. apart (e ∙ new_size)))
                      ∙ ap (λ xs. slice_get xs i) (sym becomes)
                      ∙ dealt.each (n % shards) old there i
                      ∙ push_other all x (i * shards + n % shards) (λ e. apart (sym (div-mul-add i shards (n % shards) low) ∙ ap (λ k. k / shards) (e ∙ many)))
                ]);
          }

  -- what the shards give was dealt from some list
  module _ (colours : ℕ) (piles : List Y) (count : length piles ≡ shards) (full : AreFull items shards colours piles) where
    record IsUpTo (n : ℕ) : Type 0 where
      pub all : List X
      pub many : length all ≡ n
      pub at : (c : ℕ) (pile : Y) → c < n → slice_get piles (c % shards) ≡ Some pile → slice_get all c ≡ slice_get (items pile) (c / shards)

    up_to : (n : ℕ) → n ≤ colours → IsUpTo n
    up_to zero low = record { all = []; many = refl; at = λ c pile less is. absurd (omega (arith, less)) }
    up_to (suc n) low =
        let before = up_to n (omega (arith, low)) in
        let many = before.many in
        let pile = get_there piles (n % shards) (omega (arith, count, some)) in
        let given = get_there (items pile.0) (n / shards) ((full (n % shards) pile.0 pile.1 (n / shards)).1 (omega (arith, low, div-add-mod' n shards))) in
        record {
          all = before.all ++ given.0 ∷ [];
          many = omega (arith, many, length-append before.all (given.0 ∷ []));
          at = λ c other less is. elim (cases_eq c n) [
            | inl here ↦
                let same : other ≡ pile.0 = same_Some other pile.0 (sym is ∙ ap (λ k. slice_get piles (k % shards)) here ∙ pile.1) in
                ap (slice_get (before.all ++ given.0 ∷ [])) (here ∙ sym many) ∙ push_at before.all given.0 ∙ sym given.1 ∙ sym (λ i. slice_get (items (same i)) (here i / shards))
            | inr apart ↦ push_other before.all given.0 c (λ e. apart (e ∙ many)) ∙ before.at c other (let ne : c ≢ n = apart in omega (arith, less, ne)) is
          ];
        }

    pub record WereDealt : Type 0 where
      pub all : List X
      pub many : length all ≡ colours
      pub dealt : AreDealt items shards all piles

    pub were_dealt : WereDealt
    were_dealt =
        let whole = up_to colours (omega arith) in
        record {
          all = whole.all;
          many = whole.many;
          dealt = record {
            many = count;
            each = λ shard pile there i.
                let under : shard < shards = let within = slice_get_within piles shard pile there in omega (arith, within, count) in
                elim (cases_lt (i * shards + shard) colours) [
                  | inl low ↦
                      sym (whole.at (i * shards + shard) pile low (ap (slice_get piles) (mod-mul-add i shards shard under) ∙ there) ∙ ap (slice_get (items pile)) (div-mul-add i shards shard under))
                  | inr high ↦
                      let none : length (items pile) ≤ i = elim (cases_lt i (length (items pile))) [
                        | inl less ↦ absurd (let below = (full shard pile there i).0 less in omega (arith, below, high))
                        | inr more ↦ more
                      ] in
                      slice_get_past (items pile) i none ∙ sym (slice_get_past whole.all (i * shards + shard) (let many = whole.many in omega (arith, many, high)))
                ];
          };
        }

-- the last one of the first ones of a list
pub record IsLast {X : Type 0} (all : List X) (left : ℕ) : Type 0 where
  pub x : X
  pub split : take left all ≡ take (left - 1) all ++ x ∷ []
  pub many : length (take (left - 1) all) ≡ left - 1
  pub behind : drop (left - 1) all ≡ x ∷ drop left all

pub last_of : {X : Type 0} (all : List X) (left : ℕ) → 0 < left → left ≤ length all → IsLast all left
last_of all left some low =
    let n : ℕ = left - 1 in
    let next : n + 1 ≡ left = omega (arith, some) in
    let under : n < length all = omega (arith, next, low) in
    let at = get_there all n under in
    let is : get_or all n at.0 ≡ at.0 = get_or_from_slice_get all n at.0 at.0 at.1 in
    record {
      x = at.0;
      split = ap (λ k. take k all) (sym next) ∙ take_more all n at.0 under ∙ ap (λ y. take n all ++ y ∷ []) is;
      many = length-take-le n all (omega (arith, under));
      behind = drop-cons all n at.0 under ∙ (λ i. is i ∷ drop ((sym (add-one n) ∙ next) i) all);
    }

-- one more in each of two lists that say the same
pub map_push : {A B C : Type 0} (f : A → C) (g : B → C) (xs : List A) (ys : List B) (x : A) (y : B) → map f xs ≡ map g ys → f x ≡ g y → map f (xs ++ x ∷ []) ≡ map g (ys ++ y ∷ [])
map_push f g xs ys x y same one = map-append f xs (x ∷ []) ∙ (λ i. same i ++ one i ∷ []) ∙ sym (map-append g ys (y ∷ []))
