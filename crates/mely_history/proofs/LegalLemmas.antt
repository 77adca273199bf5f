-- Legal histories, and their beginnings.
use Rattle.std.proofs.Common.{◌≡◌, ℕ, ◌+◌, ◌<◌, ◌≤◌, List, [], ◌∷◌, ◌++◌, ◌⊎◌, Some, length, take, sym, ◌∙◌, ap, subst, inl, inr, arith, ⊎_elim, length-append, append_assoc}
use Rattle.std.specs.List.{slice_get}
use Rattle.std.proofs.lemmas.Grind.{common_steps}
use Rattle.std.proofs.lemmas.Option.{slice_get_within, slice_get-get_or, get_or_from_slice_get}
use Rattle.std.proofs.lemmas.List.{append-nil, get_or-take, take-take}
use Rattle.std.proofs.lemmas.Bool.{cases_lt}
use Rattle.std.proofs.Math.Seq.{get_or-append_seam, take-append_seam, take-length}
use Rattle.mely_history.specs.declared.setup.Setup.{Setup}
use Rattle.mely_history.specs.declared.entry.Entry.{Entry}
use Rattle.mely_history.specs.Legal.{IsAllowed, IsLegal}

-- a number below the next is below, or there
pub split_below : (k n : ℕ) → k < n + 1 → (k < n) ⊎ (k ≡ n)
split_below k n lt = ⊎_elim (λ (less : k < n). inl less) (λ (more : n ≤ k). inr (omega arith)) (cases_lt k n)

-- what stands in the first ones stands in all of them
pub slice_get_from_take : {X : Type 0} (xs : List X) (n i : ℕ) (x : X) → slice_get (take n xs) i ≡ Some x → (i < n) × (i < length xs) × (slice_get xs i ≡ Some x)
slice_get_from_take xs n i x is =
    let within : i < length (take n xs) = slice_get_within (take n xs) i x is in
    let low : i < n = grind (arith, common_steps) in
    let high : i < length xs = grind (arith, common_steps) in
    (low, high, slice_get-get_or xs i x high ∙ ap (λ y. Some y) (sym (get_or-take n xs i x low) ∙ get_or_from_slice_get (take n xs) i x x is))

-- each beginning of a legal history is legal
legal_beginning : (setup : Setup) (history : List Entry) (n : ℕ) → IsLegal setup history → IsLegal setup (take n history)
legal_beginning setup history n legal at entry is =
    let found = slice_get_from_take history n at entry is in
    let low : at ≤ n = omega arith in
    rw (take-take at n history low) (legal at entry found.2)

-- where each entry below n may follow, the entries below n are legal
pub legal_below : (setup : Setup) (history : List Entry) (n : ℕ) → ((at : ℕ) (entry : Entry) → at < n → slice_get history at ≡ Some entry → IsAllowed setup (take at history) entry) → IsLegal setup (take n history)
legal_below setup history n each at entry is =
    let found = slice_get_from_take history n at entry is in
    let low : at ≤ n = omega arith in
    rw (take-take at n history low) (each at entry found.0 found.2)

-- what may follow below n
allowed_below : (setup : Setup) (history : List Entry) (n : ℕ) → IsLegal setup (take n history) → (at : ℕ) (entry : Entry) → at < n → slice_get history at ≡ Some entry → IsAllowed setup (take at history) entry
allowed_below setup history n legal at entry lt is =
    let within : at < length history = slice_get_within history at entry is in
    let low : at ≤ n = omega arith in
    let here : slice_get (take n history) at ≡ Some entry = slice_get-get_or (take n history) at entry (grind (arith, common_steps)) ∙ ap (λ y. Some y) (get_or-take n history at entry lt ∙ get_or_from_slice_get history at entry entry is) in
    rw (take-take at n history low) at (legal at entry here)

-- a beginning of a history goes on by the next entry
legal_further : (setup : Setup) (history : List Entry) (n : ℕ) (entry : Entry) → IsLegal setup (take n history) → slice_get history n ≡ Some entry → IsAllowed setup (take n history) entry → IsLegal setup (take (n + 1) history)
legal_further setup history n entry legal is may =
    legal_below setup history (n + 1) (λ at other lt there.
    ⊎_elim (λ (less : at < n). allowed_below setup history n legal at other less there)
    (λ (same : at ≡ n). let one : Some entry ≡ Some other = sym is ∙ ap (slice_get history) (sym same) ∙ there in
    let which : entry ≡ other = cc in
    subst (λ e. IsAllowed setup (take at history) e) which (subst (λ k. IsAllowed setup (take k history) entry) (sym same) may))
    (split_below at n lt))

-- a legal history goes on by an entry that may follow it
pub legal-append : (setup : Setup) (history : List Entry) (entry : Entry) → IsLegal setup history → IsAllowed setup history entry → IsLegal setup (history ++ entry ∷ [])
legal-append setup history entry legal may =
    let all : take (length history + 1) (history ++ entry ∷ []) ≡ history ++ entry ∷ [] = sym (ap (λ n. take n (history ++ entry ∷ [])) (length-append history (entry ∷ []))) ∙ take-length (history ++ entry ∷ []) in
    let front : take (length history) (history ++ entry ∷ []) ≡ history = take-append_seam history (entry ∷ []) in
    let next : slice_get (history ++ entry ∷ []) (length history) ≡ Some entry = slice_get-get_or (history ++ entry ∷ []) (length history) entry (simp length-append (omega arith)) ∙ ap (λ y. Some y) (get_or-append_seam history entry [] entry) in
    subst (IsLegal setup) all (legal_further setup (history ++ entry ∷ []) (length history) entry (subst (IsLegal setup) (sym front) legal) next (subst (λ h. IsAllowed setup h entry) (sym front) may))

-- where all entries are legal so far, the history is
pub legal_whole : (setup : Setup) (history : List Entry) (n : ℕ) → length history ≤ n → IsLegal setup (take n history) → IsLegal setup history
legal_whole setup history n le legal at entry is = allowed_below setup history n legal at entry (let within : at < length history = slice_get_within history at entry is in omega arith) is

-- a legal history without its last entry, and that entry
pub legal_before : (setup : Setup) (history : List Entry) (entry : Entry) → IsLegal setup (history ++ entry ∷ []) → IsLegal setup history × IsAllowed setup history entry
legal_before setup history entry legal =
    let front : take (length history) (history ++ entry ∷ []) ≡ history = take-append_seam history (entry ∷ []) in
    let there : slice_get (history ++ entry ∷ []) (length history) ≡ Some entry = slice_get-get_or (history ++ entry ∷ []) (length history) entry (simp length-append (omega arith)) ∙ ap (λ y. Some y) (get_or-append_seam history entry [] entry) in
    (subst (IsLegal setup) front (legal_beginning setup (history ++ entry ∷ []) (length history) legal), subst (λ h. IsAllowed setup h entry) front (legal (length history) entry there))

-- the beginning of a legal history
pub legal_front : (setup : Setup) (front between : List Entry) → IsLegal setup (front ++ between) → IsLegal setup front
legal_front setup front between legal = subst (IsLegal setup) (take-append_seam front between) (legal_beginning setup (front ++ between) (length front) legal)

-- what holds of the empty history, and after each entry that may follow,
-- holds of each legal history
pub over_legal : (setup : Setup) (P : List Entry → Type 0) → P [] → ((history : List Entry) (entry : Entry) → IsLegal setup history → IsAllowed setup history entry → P history → P (history ++ entry ∷ [])) → (history : List Entry) → IsLegal setup history → P history
over_legal setup P none more history legal = from [] history none legal where
  from : (done left : List Entry) → P done → IsLegal setup (done ++ left) → P (done ++ left)
  from done [] so all = subst P (sym (append-nil done)) so
  from done (entry ∷ left) so all =
      let same : (done ++ entry ∷ []) ++ left ≡ done ++ entry ∷ left = append_assoc done (entry ∷ []) left in
      let whole = subst (IsLegal setup) (sym same) all in
      let last = legal_before setup done entry (legal_front setup (done ++ entry ∷ []) left whole) in
      subst P same (from (done ++ entry ∷ []) left (more done entry last.0 last.1 so) whole)
