-- What a list of notes says after one more, and what its entries say.
use Rattle.std.proofs.Common.{◌≡◌, ℕ, ◌+◌, ◌≤◌, ◌==◌, List, [], ◌∷◌, ◌++◌, Option, Some, None, Bool, true, false, cond, length, map, drop, refl, sym, ◌∙◌, ap, arith, add-zero, zero-add, eq-eqb}
use Rattle.std.proofs.lemmas.Bool.{ne_eqb}
use Rattle.std.specs.List.{cons_option}
use Rattle.std.specs.Prelude.{if◌then◌else◌, unwrap_or}
use Rattle.std.proofs.lemmas.List.{append-nil, drop-map, drop-drop, length-map, map-append, drop-append-le}
use Rattle.std.proofs.lemmas.List.Elements.{filter_map-append}
use Rattle.std.proofs.lemmas.List.Sums.{sum_by-append, fold-append}
use Rattle.mely_event.specs.declared.colour.Colour.{Colour}
use Rattle.mely_event.specs.declared.event.Event.{Event}
use Rattle.mely_history.specs.Entries.{colour_of, entries_by, registration_on, taken_on}
use Rattle.mely_history.specs.History.{registered_of, begun_of, queued_of}
use Rattle.mely_note.specs.declared.note.Note.{Note}
use Rattle.mely_note.specs.declared.note.Note.TheVariants.{Reg, Take, Fin, Steal}
use Rattle.mely_note.specs.Notes.{entry_of, entries_of, noted_by, load_on, state_on, loaded_of, waiting_of, home_of, notes_by}

module _ {S P : Type 0} where
  -- the entries of two lists
  pub entries_of-append : (a b : List (Note S P)) → entries_of (a ++ b) ≡ entries_of a ++ entries_of b
  entries_of-append a b = map-append entry_of a b

  pub length-entries_of : (notes : List (Note S P)) → length (entries_of notes) ≡ length notes
  length-entries_of notes = length-map notes entry_of

  -- the notes of a pass have its entries
  pub entries_by-notes : (n : ℕ) (notes : List (Note S P)) → entries_by n (entries_of notes) ≡ entries_of (notes_by n notes)
  entries_by-notes n [] = refl
  entries_by-notes n (note ∷ notes) = one (noted_by note == n) (entries_by-notes n notes) where
    one : (own : Bool) → entries_by n (entries_of notes) ≡ entries_of (notes_by n notes) → cond own (entry_of note ∷ entries_by n (entries_of notes)) (entries_by n (entries_of notes)) ≡ entries_of (cond own (note ∷ notes_by n notes) (notes_by n notes))
    one true rest = ap (λ es. entry_of note ∷ es) rest
    one false rest = rest

  -- where a pass made no notes, it made no entries
  pub no_entries_by : (n : ℕ) (notes : List (Note S P)) → notes_by n notes ≡ [] → entries_by n (entries_of notes) ≡ []
  no_entries_by n notes none = entries_by-notes n notes ∙ ap entries_of none

  -- where a pass made no entries, it made no notes
  pub no_notes_by : (n : ℕ) (notes : List (Note S P)) → entries_by n (entries_of notes) ≡ [] → notes_by n notes ≡ []
  no_notes_by n notes none = empty (notes_by n notes) (sym (entries_by-notes n notes) ∙ none) where
    empty : (xs : List (Note S P)) → entries_of xs ≡ [] → xs ≡ []
    empty [] is = refl
    empty (x ∷ xs) is = cc

  -- the event of a load is the one that the entry registers
  pub loads_entry : (c : Colour) (note : Note S P) → map (λ e. e.0) (cons_option (load_on c note) []) ≡ cons_option (registration_on c (entry_of note)) []
  loads_entry c (Reg colour event load by at) = one (colour.0 == c.0) where
    one : (own : Bool) → map (λ (e : Event × Option P). e.0) (cons_option (if own then Some (event, load.value) else None) []) ≡ cons_option (if own then Some event else None) []
    one true = refl
    one false = refl
  loads_entry c (Take colour core count at) = refl
  loads_entry c (Fin colour core count state at) = refl
  loads_entry c (Steal colour from to at) = refl

  -- the loads of two lists
  pub loaded_of-append : (a b : List (Note S P)) (c : Colour) → loaded_of (a ++ b) c ≡ loaded_of a c ++ loaded_of b c
  loaded_of-append a b c = filter_map-append (load_on c) a b

  -- without its loads it is what the entries register
  pub events-loaded_of : (notes : List (Note S P)) (c : Colour) → map (λ e. e.0) (loaded_of notes c) ≡ registered_of (entries_of notes) c
  events-loaded_of [] c = refl
  events-loaded_of (note ∷ notes) c =
      ap (map (λ (e : Event × Option P). e.0)) (filter_map-append (load_on c) (note ∷ []) notes)
      ∙ map-append (λ (e : Event × Option P). e.0) (loaded_of (note ∷ []) c) (loaded_of notes c)
      ∙ ap (λ es. es ++ map (λ e. e.0) (loaded_of notes c)) (loads_entry c note)
      ∙ ap (λ es. cons_option (registration_on c (entry_of note)) [] ++ es) (events-loaded_of notes c)
      ∙ sym (filter_map-append (registration_on c) (entry_of note ∷ []) (entries_of notes))

  pub length-loaded_of : (notes : List (Note S P)) (c : Colour) → length (loaded_of notes c) ≡ length (registered_of (entries_of notes) c)
  length-loaded_of notes c = sym (length-map (loaded_of notes c) (λ e. e.0)) ∙ ap length (events-loaded_of notes c)

  -- without its loads it is what the entries have queued
  pub events-waiting_of : (notes : List (Note S P)) (c : Colour) → map (λ e. e.0) (waiting_of notes c) ≡ queued_of (entries_of notes) c
  events-waiting_of notes c = sym (drop-map (λ e. e.0) (begun_of (entries_of notes) c) (loaded_of notes c)) ∙ ap (drop (begun_of (entries_of notes) c)) (events-loaded_of notes c)

  -- the state at home after two lists
  pub home_of-append : (given : S) (a b : List (Note S P)) (c : Colour) → home_of given (a ++ b) c ≡ home_of (home_of given a c) b c
  home_of-append given a b c = fold-append (λ found note. unwrap_or (state_on c note) found) given a b

  -- one more note

  begun_more : (notes : List (Note S P)) (note : Note S P) (c : Colour) → begun_of (entries_of (notes ++ note ∷ [])) c ≡ begun_of (entries_of notes) c + taken_on c (entry_of note)
  begun_more notes note c =
      ap (λ es. begun_of es c) (entries_of-append notes (note ∷ []))
      ∙ sum_by-append (taken_on c) (entries_of notes) (entry_of note ∷ [])
      ∙ ap (λ k. begun_of (entries_of notes) c + k) (zero-add (taken_on c (entry_of note)))

  loaded_more : (notes : List (Note S P)) (note : Note S P) (c : Colour) → loaded_of (notes ++ note ∷ []) c ≡ loaded_of notes c ++ cons_option (load_on c note) []
  loaded_more notes note c = loaded_of-append notes (note ∷ []) c

  waiting_more : (notes : List (Note S P)) (note : Note S P) (c : Colour) → waiting_of (notes ++ note ∷ []) c ≡ drop (begun_of (entries_of notes) c + taken_on c (entry_of note)) (loaded_of notes c ++ cons_option (load_on c note) [])
  waiting_more notes note c = ap (λ k. drop k (loaded_of (notes ++ note ∷ []) c)) (begun_more notes note c) ∙ ap (drop (begun_of (entries_of notes) c + taken_on c (entry_of note))) (loaded_more notes note c)

  -- a note that registers and takes nothing of the colour
  waiting_quiet : (notes : List (Note S P)) (note : Note S P) (c : Colour) → taken_on c (entry_of note) ≡ 0 → load_on c note ≡ None → waiting_of (notes ++ note ∷ []) c ≡ waiting_of notes c
  waiting_quiet notes note c none_taken no_load =
      waiting_more notes note c
      ∙ ap (λ k. drop (begun_of (entries_of notes) c + k) (loaded_of notes c ++ cons_option (load_on c note) [])) none_taken
      ∙ ap (λ k. drop k (loaded_of notes c ++ cons_option (load_on c note) [])) (add-zero (begun_of (entries_of notes) c))
      ∙ ap (λ o. drop (begun_of (entries_of notes) c) (loaded_of notes c ++ cons_option o [])) no_load
      ∙ ap (drop (begun_of (entries_of notes) c)) (append-nil (loaded_of notes c))

  -- a registration is behind what waits
  pub waiting_of-reg : (notes : List (Note S P)) (c : Colour) (event : Event) (load : _) (by : ℕ) (at : _) → begun_of (entries_of notes) c ≤ length (registered_of (entries_of notes) c) → waiting_of (notes ++ Reg c event load by at ∷ []) c ≡ waiting_of notes c ++ (event, load.value) ∷ []
  waiting_of-reg notes c event load by at within =
      let note : Note S P = Reg c event load by at in
      waiting_more notes note c
      ∙ ap (λ k. drop k (loaded_of notes c ++ cons_option (load_on c note) [])) (add-zero (begun_of (entries_of notes) c))
      ∙ ap (λ own. drop (begun_of (entries_of notes) c) (loaded_of notes c ++ cons_option (if own then Some (event, load.value) else None) [])) (eq-eqb c.0 c.0 refl)
      ∙ drop-append-le (begun_of (entries_of notes) c) (loaded_of notes c) ((event, load.value) ∷ []) (omega (arith, length-loaded_of notes c))

  -- a take takes the first of what waits
  pub waiting_of-take : (notes : List (Note S P)) (c : Colour) (core count : ℕ) (at : _) → waiting_of (notes ++ Take c core count at ∷ []) c ≡ drop count (waiting_of notes c)
  waiting_of-take notes c core count at =
      let note : Note S P = Take c core count at in
      waiting_more notes note c
      ∙ ap (drop (begun_of (entries_of notes) c + taken_on c (entry_of note))) (append-nil (loaded_of notes c))
      ∙ ap (λ own. drop (begun_of (entries_of notes) c + (if own then count else 0)) (loaded_of notes c)) (eq-eqb c.0 c.0 refl)
      ∙ sym (drop-drop count (begun_of (entries_of notes) c) (loaded_of notes c))

  -- a finish changes nothing of what waits
  pub waiting_of-fin : (notes : List (Note S P)) (c colour : Colour) (core count : ℕ) (state at : _) → waiting_of (notes ++ Fin colour core count state at ∷ []) c ≡ waiting_of notes c
  waiting_of-fin notes c colour core count state at = waiting_quiet notes (Fin colour core count state at) c refl refl

  -- a steal changes nothing of what waits
  pub waiting_of-steal : (notes : List (Note S P)) (c colour : Colour) (from to : ℕ) (at : _) → waiting_of (notes ++ Steal colour from to at ∷ []) c ≡ waiting_of notes c
  waiting_of-steal notes c colour from to at = waiting_quiet notes (Steal colour from to at) c refl refl

  -- a note of another colour registers nothing of this one
  no_load-other : (c : Colour) (note : Note S P) → ((colour_of (entry_of note)).0 ≡ c.0 → ⊥) → load_on c note ≡ None
  no_load-other c (Reg colour event load by at) ne = rw (ne_eqb colour.0 c.0 ne) refl
  no_load-other c (Take colour core count at) ne = refl
  no_load-other c (Fin colour core count state at) ne = refl
  no_load-other c (Steal colour from to at) ne = refl

  -- nor does it take anything of it
  none_taken-other : (c : Colour) (note : Note S P) → ((colour_of (entry_of note)).0 ≡ c.0 → ⊥) → taken_on c (entry_of note) ≡ 0
  none_taken-other c (Reg colour event load by at) ne = refl
  none_taken-other c (Take colour core count at) ne = rw (ne_eqb colour.0 c.0 ne) refl
  none_taken-other c (Fin colour core count state at) ne = refl
  none_taken-other c (Steal colour from to at) ne = refl

  -- and it brings no state home to it
  no_state-other : (c : Colour) (note : Note S P) → ((colour_of (entry_of note)).0 ≡ c.0 → ⊥) → state_on c note ≡ None
  no_state-other c (Reg colour event load by at) ne = refl
  no_state-other c (Take colour core count at) ne = refl
  no_state-other c (Fin colour core count state at) ne = rw (ne_eqb colour.0 c.0 ne) refl
  no_state-other c (Steal colour from to at) ne = refl

  -- a note of another colour changes nothing of what waits
  pub waiting_of-other : (notes : List (Note S P)) (note : Note S P) (c : Colour) → ((colour_of (entry_of note)).0 ≡ c.0 → ⊥) → waiting_of (notes ++ note ∷ []) c ≡ waiting_of notes c
  waiting_of-other notes note c ne = waiting_quiet notes note c (none_taken-other c note ne) (no_load-other c note ne)

  -- the state at home after one more note
  pub home_more : (given : S) (notes : List (Note S P)) (note : Note S P) (c : Colour) → home_of given (notes ++ note ∷ []) c ≡ unwrap_or (state_on c note) (home_of given notes c)
  home_more given notes note c = home_of-append given notes (note ∷ []) c

  -- a registration changes nothing of the state at home
  pub home_of-reg : (given : S) (notes : List (Note S P)) (c colour : Colour) (event : Event) (load : _) (by : ℕ) (at : _) → home_of given (notes ++ Reg colour event load by at ∷ []) c ≡ home_of given notes c
  home_of-reg given notes c colour event load by at = home_more given notes (Reg colour event load by at) c

  -- a take changes nothing of the state that was at home last
  pub home_of-take : (given : S) (notes : List (Note S P)) (c colour : Colour) (core count : ℕ) (at : _) → home_of given (notes ++ Take colour core count at ∷ []) c ≡ home_of given notes c
  home_of-take given notes c colour core count at = home_more given notes (Take colour core count at) c

  -- a finish brings its state home
  pub home_of-fin : (given : S) (notes : List (Note S P)) (c : Colour) (core count : ℕ) (state at : _) → home_of given (notes ++ Fin c core count state at ∷ []) c ≡ state.value
  home_of-fin given notes c core count state at =
      home_more given notes (Fin c core count state at) c
      ∙ ap (λ own. unwrap_or (if own then Some state.value else None) (home_of given notes c)) (eq-eqb c.0 c.0 refl)

  -- a steal changes nothing of the state at home
  pub home_of-steal : (given : S) (notes : List (Note S P)) (c colour : Colour) (from to : ℕ) (at : _) → home_of given (notes ++ Steal colour from to at ∷ []) c ≡ home_of given notes c
  home_of-steal given notes c colour from to at = home_more given notes (Steal colour from to at) c

  -- a note of another colour changes nothing of the state at home
  pub home_of-other : (given : S) (notes : List (Note S P)) (note : Note S P) (c : Colour) → ((colour_of (entry_of note)).0 ≡ c.0 → ⊥) → home_of given (notes ++ note ∷ []) c ≡ home_of given notes c
  home_of-other given notes note c ne = home_more given notes note c ∙ ap (λ o. unwrap_or o (home_of given notes c)) (no_state-other c note ne)
