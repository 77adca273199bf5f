-- What the calls of the loop need.
use Rattle.std.proofs.Common.{◌≡◌, ℕ, ◌+◌, ◌<◌, ◌≤◌, List, [], ◌∷◌, ◌++◌, Some, length, get_or, refl, sym, ◌∙◌, ap, subst, arith, ⊎_elim, length-append}
use Rattle.std.proofs.Math.ListN.{get_or-append}
use Rattle.std.proofs.Math.Seq.{get_or-append_seam}
use Rattle.std.proofs.lemmas.Bool.{cases_lt}
use Rattle.std.proofs.lemmas.Option.{slice_get_within, slice_get-get_or, get_or_from_slice_get}
use Rattle.measure.specs.ShardLoops.{AreInitialBelow}
use Rattle.mely_event.specs.TrailLog.{TrailLogState}

-- no state at first
pub initial_none : AreInitialBelow 0 []
initial_none = record { many = refl; each = λ i state is. cc }

-- one state more
pub initial_more : (count : ℕ) (states : List TrailLogState) (state : TrailLogState) → AreInitialBelow count states → state.colour ≡ record { 0 = count } → state.events ≡ [] → AreInitialBelow (count + 1) (states ++ state ∷ [])
initial_more count states state are coloured untouched = record {
  many = length-append states (state ∷ []) ∙ ap (λ n. n + 1) are.many;
  each = λ i other is. ⊎_elim
      (λ (low : i < length states). are.each i other (slice_get-get_or states i other low ∙ ap (λ s. Some s) (sym (get_or-append states (state ∷ []) other i low) ∙ get_or_from_slice_get (states ++ state ∷ []) i other other is)))
      (λ (high : length states ≤ i).
      let within : i < length (states ++ state ∷ []) = slice_get_within (states ++ state ∷ []) i other is in
      let many : length (states ++ state ∷ []) ≡ length states + 1 = length-append states (state ∷ []) in
      let last : i ≡ length states = omega (arith, within, many, high) in
      let same : state ≡ other = sym (get_or-append_seam states state [] other) ∙ ap (λ k. get_or (states ++ state ∷ []) k other) (sym last) ∙ get_or_from_slice_get (states ++ state ∷ []) i other other is in
      subst (λ s. (s.colour ≡ record { 0 = i }) × (s.events ≡ [])) same (coloured ∙ ap (λ n. record { 0 = n }) (sym are.many ∙ sym last), untouched))
      (cases_lt i (length states));
}
