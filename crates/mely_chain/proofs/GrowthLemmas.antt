-- What notes say of a colour after further notes.
use Rattle.std.proofs.Common.{◌≡◌, ℕ, suc, ◌+◌, ◌==◌, List, [], ◌∷◌, ◌++◌, Some, None, Bool, true, false, cond, length, if◌then◌else◌, refl, sym, ◌∙◌, ap, subst, ⊎_elim, add-zero, zero-add, append_assoc}
use Rattle.std.specs.List.{cons_option}
use Rattle.std.specs.Option.{option_or}
use Rattle.std.specs.Prelude.{unwrap_or}
use Rattle.std.proofs.lemmas.Bool.{eq-eqb, ne_eqb, cases_eq}
use Rattle.std.proofs.lemmas.List.{append-nil, map-append}
use Rattle.std.proofs.lemmas.List.Elements.{filter-append, filter_map-append}
use Rattle.std.proofs.lemmas.List.Sums.{sum_by-append, fold-append}
use Rattle.mely_event.specs.declared.colour.Colour.{Colour}
use Rattle.mely_history.specs.Entries.{change_on, finished_on}
use Rattle.mely_history.specs.History.{ended_of, registered_of}
use Rattle.mely_history.specs.Owing.{last_change}
use Rattle.mely_note.specs.declared.note.Note.{Note}
use Rattle.mely_note.specs.declared.note.Note.TheVariants.{Reg, Take, Fin, Steal}
use Rattle.mely_note.specs.Notes.{entry_of, entries_of, loaded_of, home_of, load_on, state_on, noted_by, notes_by}
use Rattle.mely_chain.specs.Told.{finished_by}

-- what holds of the empty list, and after each further element, holds of each list
pub over_pushes : {X : Type 0} (P : List X → Type 0) → P [] → ((xs : List X) (x : X) → P xs → P (xs ++ x ∷ [])) → (xs : List X) → P xs
over_pushes P none more xs = from [] xs none where
  from : (done left : List _) → P done → P (done ++ left)
  from done [] so = subst P (sym (append-nil done)) so
  from done (x ∷ left) so = subst P (append_assoc done (x ∷ []) left) (from (done ++ x ∷ []) left (more done x so))

module _ {S P : Type 0} where
  pub entries-push : (notes : List (Note S P)) (note : Note S P) → entries_of (notes ++ note ∷ []) ≡ entries_of notes ++ entry_of note ∷ []
  entries-push notes note = map-append entry_of notes (note ∷ [])

  pub loaded-push : (notes : List (Note S P)) (note : Note S P) (c : Colour) → loaded_of (notes ++ note ∷ []) c ≡ loaded_of notes c ++ cons_option (load_on c note) []
  loaded-push notes note c = filter_map-append (load_on c) notes (note ∷ [])

  pub home-push : (first : S) (notes : List (Note S P)) (note : Note S P) (c : Colour) → home_of first (notes ++ note ∷ []) c ≡ unwrap_or (state_on c note) (home_of first notes c)
  home-push first notes note c = fold-append (λ found m. unwrap_or (state_on c m) found) first notes (note ∷ [])

  pub ended-push : (notes : List (Note S P)) (note : Note S P) (c : Colour) → ended_of (entries_of (notes ++ note ∷ [])) c ≡ ended_of (entries_of notes) c + finished_on c (entry_of note)
  ended-push notes note c = ap (λ h. ended_of h c) (entries-push notes note) ∙ sum_by-append (finished_on c) (entries_of notes) (entry_of note ∷ []) ∙ ap (λ k. ended_of (entries_of notes) c + k) (zero-add (finished_on c (entry_of note)))

  -- as many loads as events were registered
  pub loaded-length : (notes : List (Note S P)) (c : Colour) → length (loaded_of notes c) ≡ length (registered_of (entries_of notes) c)
  loaded-length [] c = refl
  loaded-length (Reg d event load by stamp ∷ notes) c = one_more (d.0 == c.0) (event, load.value) event (loaded_of notes c) (registered_of (entries_of notes) c) (loaded-length notes c) where
    one_more : {X Y : Type 0} (own : Bool) (x : X) (y : Y) (xs : List X) (ys : List Y) → length xs ≡ length ys → length (cons_option (if own then Some x else None) xs) ≡ length (cons_option (if own then Some y else None) ys)
    one_more true x y xs ys same = ap (λ k. suc k) same
    one_more false x y xs ys same = same
  loaded-length (Take d core count stamp ∷ notes) c = loaded-length notes c
  loaded-length (Fin d core count state stamp ∷ notes) c = loaded-length notes c
  loaded-length (Steal d from to stamp ∷ notes) c = loaded-length notes c

  -- the notes of a pass, with one more of its own, or of another
  pub by_own : (n : ℕ) (notes : List (Note S P)) (note : Note S P) → noted_by note ≡ n → notes_by n (notes ++ note ∷ []) ≡ notes_by n notes ++ note ∷ []
  by_own n notes note is = filter-append (λ m. noted_by m == n) notes (note ∷ []) ∙ ap (λ b. notes_by n notes ++ cond b (note ∷ []) []) (eq-eqb (noted_by note) n is)

  pub by_other : (n : ℕ) (notes : List (Note S P)) (note : Note S P) → (noted_by note == n) ≡ false → notes_by n (notes ++ note ∷ []) ≡ notes_by n notes
  by_other n notes note not = filter-append (λ m. noted_by m == n) notes (note ∷ []) ∙ ap (λ b. notes_by n notes ++ cond b (note ∷ []) []) not ∙ append-nil (notes_by n notes)

  pub by_others : (n : ℕ) (notes between : List (Note S P)) → notes_by n between ≡ [] → notes_by n (notes ++ between) ≡ notes_by n notes
  by_others n notes between none = filter-append (λ m. noted_by m == n) notes between ∙ ap (λ l. notes_by n notes ++ l) none ∙ append-nil (notes_by n notes)

  -- where none of these notes are of the pass, the first is not, and none of the others
  pub first_other : (n : ℕ) (note : Note S P) (notes : List (Note S P)) → notes_by n (note ∷ notes) ≡ [] → ((noted_by note == n) ≡ false) × (notes_by n notes ≡ [])
  first_other n note notes none = for (noted_by note == n) refl where
    for : (own : Bool) → (noted_by note == n) ≡ own → ((noted_by note == n) ≡ false) × (notes_by n notes ≡ [])
    for true is = let wrong : note ∷ notes_by n notes ≡ [] = sym (ap (λ b. cond b (note ∷ notes_by n notes) (notes_by n notes)) is) ∙ none in cc
    for false is = (is, sym (ap (λ b. cond b (note ∷ notes_by n notes) (notes_by n notes)) is) ∙ none)

  -- how many events the pass finished, after one more note
  pub finished-own : (n : ℕ) (notes : List (Note S P)) (note : Note S P) (c : Colour) → noted_by note ≡ n → finished_by n (notes ++ note ∷ []) c ≡ finished_by n notes c + finished_on c (entry_of note)
  finished-own n notes note c is = ap (λ l. ended_of (entries_of l) c) (by_own n notes note is) ∙ ended-push (notes_by n notes) note c

  pub finished-other : (n : ℕ) (notes : List (Note S P)) (note : Note S P) (c : Colour) → (noted_by note == n) ≡ false → finished_by n (notes ++ note ∷ []) c ≡ finished_by n notes c
  finished-other n notes note c not = ap (λ l. ended_of (entries_of l) c) (by_other n notes note not)

  -- where it finishes nothing, whoever made it
  pub finished-none : (n : ℕ) (notes : List (Note S P)) (note : Note S P) (c : Colour) → finished_on c (entry_of note) ≡ 0 → finished_by n (notes ++ note ∷ []) c ≡ finished_by n notes c
  finished-none n notes note c none = ⊎_elim
      (λ (is : noted_by note ≡ n). finished-own n notes note c is ∙ ap (λ k. finished_by n notes c + k) none ∙ add-zero (finished_by n notes c))
      (λ (ne : noted_by note ≡ n → ⊥). finished-other n notes note c (ne_eqb (noted_by note) n ne))
      (cases_eq (noted_by note) n)

  pub change-push : (n : ℕ) (notes : List (Note S P)) (note : Note S P) (c : Colour) → change_on n c (entry_of note) ≡ None → last_change n c (entries_of (notes ++ note ∷ [])) ≡ last_change n c (entries_of notes)
  change-push n notes note c none = ap (last_change n c) (entries-push notes note) ∙ fold-append (λ found e. option_or (change_on n c e) found) None (entries_of notes) (entry_of note ∷ []) ∙ ap (λ o. option_or o (last_change n c (entries_of notes))) none
