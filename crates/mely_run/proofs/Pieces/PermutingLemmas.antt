-- Parts of a list that are taken out and put back, in whatever order.
use Rattle.std.proofs.Common.{◌≡◌, ◌+◌, ℕ, zero, suc, List, [], ◌∷◌, ◌++◌, Some, append_assoc, arith, sym, subst}
use Rattle.std.specs.Prelude.{slice_get, slice_set, flat_map, IsPermutation}
use Rattle.std.proofs.lemmas.Option.{none-some, same_Some}
use Rattle.std.proofs.lemmas.List.Sorted.{IsPermutation-refl, IsPermutation-sym, IsPermutation-trans, IsPermutation-append_left, IsPermutation-append_right, IsPermutation-append_comm}
use Rattle.mely_history.specs.declared.setup.Setup.{Setup}
use Rattle.mely_shard.specs.Shard.{ColourState, colour_at}
use Rattle.mely_run.specs.Pieces.{Piece, of_lane, of_lanes}

module _ {A : Type 0} where
  pub same_order : (xs ys : List A) → xs ≡ ys → IsPermutation xs ys
  same_order xs ys e = subst (IsPermutation xs) e (IsPermutation-refl xs)

  pub onward : {xs ys zs : List A} → IsPermutation xs ys → IsPermutation ys zs → IsPermutation xs zs
  onward {xs} {ys} {zs} p q = IsPermutation-trans xs ys zs p q

  pub back : {xs ys : List A} → IsPermutation xs ys → IsPermutation ys xs
  back {xs} {ys} p = IsPermutation-sym xs ys p

  -- a part goes past another
  pub past : (xs ys zs : List A) → IsPermutation (xs ++ (ys ++ zs)) (ys ++ (xs ++ zs))
  past xs ys zs =
      onward (same_order (xs ++ (ys ++ zs)) ((xs ++ ys) ++ zs) (sym (append_assoc xs ys zs)))
      (onward (IsPermutation-append_left zs (xs ++ ys) (ys ++ xs) (IsPermutation-append_comm xs ys))
      (same_order ((ys ++ xs) ++ zs) (ys ++ (xs ++ zs)) (append_assoc ys xs zs)))

-- what one of a list gives is taken out of what all give, and another is put in its place
pub record Out {A Y : Type 0} (f : A → List Y) (xs : List A) (i : ℕ) (x : A) : Type 0 where
  pub rest : List Y
  pub was : IsPermutation (flat_map f xs) (f x ++ rest)
  pub becomes : (y : A) → IsPermutation (flat_map f (slice_set xs i y)) (f y ++ rest)

pub out : {A Y : Type 0} (f : A → List Y) (xs : List A) (i : ℕ) (x : A) → slice_get xs i ≡ Some x → Out f xs i x
out f [] i x h = absurd (none-some x h)
out {A} {Y} f (z ∷ xs) zero x h = record {
  rest = flat_map f xs;
  was = subst (λ (u : A). IsPermutation (f z ++ flat_map f xs) (f u ++ flat_map f xs)) (same_Some z x h) (IsPermutation-refl (f z ++ flat_map f xs));
  becomes = λ y. IsPermutation-refl (f y ++ flat_map f xs);
}
out f (z ∷ xs) (suc i) x h =
    let o = out f xs i x h in
    record {
      rest = f z ++ o.rest;
      was = onward (IsPermutation-append_right (f z) (flat_map f xs) (f x ++ o.rest) o.was) (past (f z) (f x) o.rest);
      becomes = λ y. onward (IsPermutation-append_right (f z) (flat_map f (slice_set xs i y)) (f y ++ o.rest) (o.becomes y)) (past (f z) (f y) o.rest);
    }

module _ {S P : Type 0} (setup : Setup) (shard : ℕ) where
  pub record LaneOut (place : ℕ) (lanes : List (ColourState S P)) (i : ℕ) (lane : ColourState S P) : Type 0 where
    pub rest : List (Piece S P)
    pub was : IsPermutation (of_lanes setup shard place lanes) (of_lane (colour_at setup shard (place + i)) lane ++ rest)
    pub becomes : (new : ColourState S P) → IsPermutation (of_lanes setup shard place (slice_set lanes i new)) (of_lane (colour_at setup shard (place + i)) new ++ rest)

  pub lane_out : (place : ℕ) (lanes : List (ColourState S P)) (i : ℕ) (lane : ColourState S P) → slice_get lanes i ≡ Some lane → LaneOut place lanes i lane
  lane_out place [] i lane h = absurd (none-some lane h)
  lane_out place (l ∷ lanes) zero lane h =
      let at : place + 0 ≡ place = omega arith in
      record {
        rest = of_lanes setup shard (place + 1) lanes;
        was = subst (λ (n : ℕ). IsPermutation (of_lanes setup shard place (l ∷ lanes)) (of_lane (colour_at setup shard n) lane ++ of_lanes setup shard (place + 1) lanes)) (sym at)
            (subst (λ (u : ColourState S P). IsPermutation (of_lanes setup shard place (l ∷ lanes)) (of_lane (colour_at setup shard place) u ++ of_lanes setup shard (place + 1) lanes)) (same_Some l lane h)
            (IsPermutation-refl (of_lanes setup shard place (l ∷ lanes))));
        becomes = λ new. subst (λ (n : ℕ). IsPermutation (of_lanes setup shard place (new ∷ lanes)) (of_lane (colour_at setup shard n) new ++ of_lanes setup shard (place + 1) lanes)) (sym at)
            (IsPermutation-refl (of_lanes setup shard place (new ∷ lanes)));
      }
  lane_out place (l ∷ lanes) (suc i) lane h =
      let o = lane_out (place + 1) lanes i lane h in
      let at : (place + 1) + i ≡ place + suc i = omega arith in
      let first : List (Piece S P) = of_lane (colour_at setup shard place) l in
      record {
        rest = first ++ o.rest;
        was = subst (λ (n : ℕ). IsPermutation (of_lanes setup shard place (l ∷ lanes)) (of_lane (colour_at setup shard n) lane ++ (first ++ o.rest))) at
            (onward (IsPermutation-append_right first (of_lanes setup shard (place + 1) lanes) (of_lane (colour_at setup shard ((place + 1) + i)) lane ++ o.rest) o.was) (past first (of_lane (colour_at setup shard ((place + 1) + i)) lane) o.rest));
        becomes = λ new. subst (λ (n : ℕ). IsPermutation (of_lanes setup shard place (l ∷ slice_set lanes i new)) (of_lane (colour_at setup shard n) new ++ (first ++ o.rest))) at
            (onward (IsPermutation-append_right first (of_lanes setup shard (place + 1) (slice_set lanes i new)) (of_lane (colour_at setup shard ((place + 1) + i)) new ++ o.rest) (o.becomes new)) (past first (of_lane (colour_at setup shard ((place + 1) + i)) new) o.rest));
      }
