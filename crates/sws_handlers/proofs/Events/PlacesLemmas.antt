-- The initial states, one after another.
use Rattle.std.proofs.Common.{◌≡◌, ℕ, zero, suc, ◌+◌, ◌⊎◌, Some, List, [], ◌∷◌, ◌++◌, length, refl, sym, ◌∙◌, ap, subst, inl, inr}
use Rattle.std.proofs.lemmas.List.{length-append}
use Rattle.std.proofs.lemmas.Option.{same_Some}
use Rattle.std.specs.Prelude.{slice_get}
use Rattle.sws_steps.specs.declared.talk.Talk.{Ghosts as TalkWords}
use Rattle.sws_handlers.specs.Place.{PlaceState}
use Rattle.sws_handlers.specs.Initial.{IsInitialPlaceOver, AreInitialPlacesOver}

-- one state more
get_push : {A : Type 0} (xs : List A) (s : A) (i : ℕ) (p : A) → slice_get (xs ++ s ∷ []) i ≡ Some p → (slice_get xs i ≡ Some p) ⊎ ((i ≡ length xs) × (p ≡ s))
get_push [] s zero p at = inr (refl, sym (same_Some s p at))
get_push [] s (suc i) p at = cc
get_push (x ∷ xs) s zero p at = inl at
get_push (x ∷ xs) s (suc i) p at = elim (get_push xs s i p at) [ inl there ↦ inl there | inr last ↦ inr (ap (λ n. suc n) last.0, last.1) ]

pub places_more : {W L T G H : Type 0} (y : TalkWords T L G H) (first : W) (hall : H) (total n : ℕ) (xs now : List (PlaceState H W T)) (s : PlaceState H W T) → AreInitialPlacesOver y first hall total n xs → IsInitialPlaceOver y first hall total n s → now ≡ xs ++ s ∷ [] → AreInitialPlacesOver y first hall total (n + 1) now
places_more {W} {L} {T} {G} {H} y first hall total n xs now s are is same = record {
  many = ap length same ∙ length-append xs (s ∷ []) ∙ ap (λ k. k + 1) are.many;
  each = λ i p at. elim (get_push xs s i p (ap (λ (l : List (PlaceState H W T)). slice_get l i) (sym same) ∙ at)) [
    | inl there ↦ are.each i p there
    | inr last ↦ (let j : n ≡ i = sym (last.0 ∙ are.many) in subst (λ (k : ℕ). IsInitialPlaceOver y first hall total k p) j (subst (λ (q : PlaceState H W T). IsInitialPlaceOver y first hall total n q) (sym last.1) is))
  ];
}
