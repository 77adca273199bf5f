-- The laws of what is seen, also for callers of the lock.
use Rattle.std.proofs.Common.{◌≡◌, ℕ, eqb, ne_eqb, ◌≢◌, cond, List, [], ◌∷◌, ◌++◌, sym, refl, ap, ◌∙◌, append-nil, append_assoc}
use Rattle.std.proofs.lemmas.List.Elements.{filter-append}
use Rattle.mely_lock.specs.Seen.{notes_of, OthersSince}

module _ {N : Type 0} (pass_of : N → ℕ) where
  notes_of-append : (n : ℕ) (xs ys : List N) → notes_of pass_of n (xs ++ ys) ≡ notes_of pass_of n xs ++ notes_of pass_of n ys
  notes_of-append n xs ys = filter-append (λ note. eqb (pass_of note) n) xs ys

  notes_of_other : (n : ℕ) (note : N) → pass_of note ≢ n → notes_of pass_of n (note ∷ []) ≡ []
  notes_of_other n note ne = ap (λ b. cond b (note ∷ []) []) (ne_eqb (pass_of note) n ne)

  -- a pass that makes no note stands where it stood
  notes_of_both : (n : ℕ) (xs ys : List N) → notes_of pass_of n ys ≡ [] → notes_of pass_of n (xs ++ ys) ≡ notes_of pass_of n xs
  notes_of_both n xs ys none = notes_of-append n xs ys ∙ (ap (λ l. notes_of pass_of n xs ++ l) none ∙ append-nil (notes_of pass_of n xs))

  pub none_more : (n : ℕ) (history : List N) (note : N) → pass_of note ≢ n → notes_of pass_of n history ≡ [] → notes_of pass_of n (history ++ note ∷ []) ≡ []
  none_more n history note ne none = notes_of_both n history (note ∷ []) (notes_of_other n note ne) ∙ none

  pub since_itself : (n : ℕ) (history : List N) → OthersSince pass_of n history history
  since_itself n history = ([], sym (append-nil history), refl)

  pub since_more : (n : ℕ) (front history : List N) (note : N) → pass_of note ≢ n → OthersSince pass_of n front history → OthersSince pass_of n front (history ++ note ∷ [])
  since_more n front history note ne (between, is, none) = (between ++ note ∷ [], ap (λ l. l ++ note ∷ []) is ∙ append_assoc front between (note ∷ []), none_more n between note ne none)

  -- a pass's own notes are those in its front
  pub since_own : (n : ℕ) (front history : List N) → OthersSince pass_of n front history → notes_of pass_of n history ≡ notes_of pass_of n front
  since_own n front history (between, is, none) = ap (notes_of pass_of n) is ∙ notes_of_both n front between none
