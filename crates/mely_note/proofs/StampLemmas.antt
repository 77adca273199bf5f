-- Stamps of notes: the latest of them, and stamps that rise.
use Rattle.std.proofs.Common.{◌≡◌, ℕ, zero, suc, ◌<◌, ◌≤◌, List, [], ◌∷◌, ◌++◌, ◌⊎◌, Bool, true, false, cond, refl, sym, ◌∙◌, ap, subst, inl, inr, ⊎_elim, arith, append_assoc}
use Rattle.std.specs.Prelude.{max, filter, slice_index_or}
use Rattle.mely_note.specs.declared.note.Note.{Note}
use Rattle.mely_note.specs.Notes.{stamp_of, latest, latest_in, Rise}

-- a list that ends with an element, cut at an element: it is the last one, or one before
pub cut_last : {X : Type 0} (xs : List X) (x : X) (before : List X) (y : X) (after : List X) → xs ++ x ∷ [] ≡ before ++ y ∷ after → ((before ≡ xs) × (x ≡ y)) ⊎ ((more : List X) × (xs ≡ before ++ y ∷ more))
cut_last [] x [] y after is = inl (refl, cc)
cut_last (z ∷ xs) x [] y after is = inr (xs, cc)
cut_last [] x (b ∷ before) y after is = absurd (none before (let rest : [] ≡ before ++ y ∷ after = cc in rest)) where
  none : (before : List _) → [] ≡ before ++ y ∷ after → ⊥
  none [] is = cc
  none (b ∷ before) is = cc
cut_last (z ∷ xs) x (b ∷ before) y after is =
    let same : z ≡ b = cc in
    let rest : xs ++ x ∷ [] ≡ before ++ y ∷ after = cc in
    ⊎_elim (λ (last : (before ≡ xs) × (x ≡ y)). inl (cc (last.0, same), last.1))
    (λ (inner : (more : List _) × (xs ≡ before ++ y ∷ more)). inr (inner.0, cc (inner.1, same)))
    (cut_last xs x before y after rest)

module _ {S P : Type 0} where
  -- the latest of two lists
  pub latest-append : (a b : List (Note S P)) → latest (a ++ b) ≡ max (latest a) (latest b)
  latest-append [] b = omega arith
  latest-append (note ∷ a) b = let rest = latest-append a b in omega (arith, rest)

  -- the latest after one more
  pub latest-push : (notes : List (Note S P)) (note : Note S P) → latest (notes ++ note ∷ []) ≡ max (latest notes) (stamp_of note)
  latest-push notes note = let both = latest-append notes (note ∷ []) in omega (arith, both)

  -- the latest of more notes is no earlier
  pub latest-front : (a b : List (Note S P)) → latest a ≤ latest (a ++ b)
  latest-front a b = let both = latest-append a b in omega (arith, both)

  pub latest-back : (a b : List (Note S P)) → latest b ≤ latest (a ++ b)
  latest-back a b = let both = latest-append a b in omega (arith, both)

  -- no note is later than the latest
  pub latest-there : (before : List (Note S P)) (note : Note S P) (after : List (Note S P)) → stamp_of note ≤ latest (before ++ note ∷ after)
  latest-there before note after = let both = latest-append before (note ∷ after) in omega (arith, both)

  -- the latest of some of the notes is no later
  pub latest-filter : (test : Note S P → Bool) (notes : List (Note S P)) → latest (filter test notes) ≤ latest notes
  latest-filter test [] = omega arith
  latest-filter test (note ∷ notes) = one (test note) (latest-filter test notes) where
    one : (own : Bool) → latest (filter test notes) ≤ latest notes → latest (cond own (note ∷ filter test notes) (filter test notes)) ≤ max (stamp_of note) (latest notes)
    one true rest = omega (arith, rest)
    one false rest = omega (arith, rest)

  -- nor is that of one of several histories
  pub latest_in-at : (fronts : List (List (Note S P))) (k : ℕ) → latest (slice_index_or fronts k []) ≤ latest_in fronts
  latest_in-at [] k = omega arith
  latest_in-at (front ∷ more) zero = omega arith
  latest_in-at (front ∷ more) (suc k) = let rest = latest_in-at more k in omega (arith, rest)

  -- no note has no stamp to rise
  pub rise-none : Rise (let none : List (Note S P) = [] in none)
  rise-none [] after note is = cc
  rise-none (first ∷ before) after note is = cc

  -- stamps go on to rise by a later note
  pub rise-push : (notes : List (Note S P)) (note : Note S P) → Rise notes → latest notes < stamp_of note → Rise (notes ++ note ∷ [])
  rise-push notes note rise late before after other is = ⊎_elim
      (λ (last : (before ≡ notes) × (note ≡ other)). subst (λ l. latest l < stamp_of other) (sym last.0) (subst (λ m. latest notes < stamp_of m) last.1 late))
      (λ (inner : (more : List (Note S P)) × (notes ≡ before ++ other ∷ more)). rise before inner.0 other inner.1)
      (cut_last notes note before other after is)

  -- those of the first ones rise
  pub rise-front : (a b : List (Note S P)) → Rise (a ++ b) → Rise a
  rise-front a b rise before after note is = rise before (after ++ b) note (ap (λ l. l ++ b) is ∙ append_assoc before (note ∷ after) b)

  -- and the last one is above all before it
  pub rise-last : (notes : List (Note S P)) (note : Note S P) → Rise (notes ++ note ∷ []) → latest notes < stamp_of note
  rise-last notes note rise = rise notes [] note refl
