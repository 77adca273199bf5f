-- What holds of notes is shown one note after another.
use Rattle.std.proofs.Common.{◌≡◌, ℕ, ◌+◌, ◌≤◌, ◌==◌, Bool, true, false, List, [], ◌∷◌, ◌++◌, if◌then◌else◌, length, refl, sym, ◌∙◌, subst, arith, add-zero, append_assoc}
use Rattle.std.proofs.lemmas.Bool.{eqb-true}
use Rattle.std.proofs.lemmas.List.{append-nil}
use Rattle.mely_event.specs.declared.colour.Colour.{Colour}
use Rattle.mely_history.specs.declared.setup.Setup.{Setup}
use Rattle.mely_history.specs.Entries.{finished_on}
use Rattle.mely_history.specs.History.{ended_of}
use Rattle.mely_history.specs.Legal.{IsAllowed, IsLegal}
use Rattle.mely_history.proofs.LegalAccountLemmas.{begun_within, ended_within}
use Rattle.mely_note.specs.declared.note.Note.{Note}
use Rattle.mely_note.specs.Notes.{entry_of, entries_of, loaded_of, noted_by}
use Rattle.mely_chain.specs.Told.{finished_by}
use Rattle.mely_chain.proofs.GrowthLemmas.{loaded-length, finished-own, finished-other}
use Rattle.mely_chain.proofs.CoreTurnsLemmas.{legal_at}

module _ {S P : Type 0} where
  -- how many events of the colour the note says that the pass finished
  abbrev pub own_finish : ℕ → Colour → Note S P → ℕ
  own_finish n c note = if noted_by note == n then finished_on c (entry_of note) else 0

  pub finished-more : (n : ℕ) (done : List (Note S P)) (note : Note S P) (c : Colour) → finished_by n (done ++ note ∷ []) c ≡ finished_by n done c + own_finish n c note
  finished-more n done note c = for (noted_by note == n) refl where
    for : (own : Bool) → (noted_by note == n) ≡ own → finished_by n (done ++ note ∷ []) c ≡ finished_by n done c + (if own then finished_on c (entry_of note) else 0)
    for true is = finished-own n done note c (eqb-true (noted_by note) n is)
    for false not = finished-other n done note c not ∙ sym (add-zero (finished_by n done c))

  -- at most as many events were finished as were loaded
  pub ended_loaded : (setup : Setup) (notes : List (Note S P)) (c : Colour) → IsLegal setup (entries_of notes) → ended_of (entries_of notes) c ≤ length (loaded_of notes c)
  ended_loaded setup notes c legal =
      let many = loaded-length notes c in
      let begun = begun_within setup (entries_of notes) c legal in
      let ended = ended_within setup (entries_of notes) c legal in
      omega (arith, many, begun, ended)

  -- what holds of no notes, and after each further one of these, holds of them
  pub over_notes : (notes : List (Note S P)) (Holds : List (Note S P) → Type 0) → Holds [] → ((done after : List (Note S P)) (note : Note S P) → notes ≡ done ++ note ∷ after → Holds done → Holds (done ++ note ∷ [])) → Holds notes
  over_notes notes Holds none more = from [] notes refl none where
    from : (done left : List (Note S P)) → done ++ left ≡ notes → Holds done → Holds notes
    from done [] is so = subst Holds (sym (append-nil done) ∙ is) so
    from done (note ∷ left) is so = from (done ++ note ∷ []) left (append_assoc done (note ∷ []) left ∙ is) (more done left note (sym is) so)

  -- where the notes are legal, those before one of them are, and it may follow them
  pub legal_there : (setup : Setup) (notes done after : List (Note S P)) (note : Note S P) → notes ≡ done ++ note ∷ after → IsLegal setup (entries_of notes) → IsLegal setup (entries_of done) × IsAllowed setup (entries_of done) (entry_of note)
  legal_there setup notes done after note is legal = legal_at setup done note after (subst (λ l. IsLegal setup (entries_of l)) is legal)
