-- What a caller sees by notes it sees by their entries.
use Rattle.std.proofs.Common.{◌≡◌, ℕ, List, [], ◌∷◌, ◌++◌, ◌∙◌, ap}
use Rattle.mely_history.specs.Entries.{pass_of}
use Rattle.mely_lock.specs.Seen.{OthersSince}
use Rattle.mely_note.specs.declared.note.Note.{Note}
use Rattle.mely_note.specs.Notes.{entry_of, entries_of, noted_by}
use Rattle.mely_note.proofs.NoteLemmas.{entries_of-append, no_entries_by}

module _ {S P : Type 0} where
  -- where only others made notes, only others made entries
  pub others_of_entries : (n : ℕ) (front history : List (Note S P)) → OthersSince noted_by n front history → OthersSince pass_of n (entries_of front) (entries_of history)
  others_of_entries n front history (between, goes_on, none) = (entries_of between, ap entries_of goes_on ∙ entries_of-append front between, no_entries_by n between none)

  -- one note more is one entry more
  pub entries_more : (point after : List (Note S P)) (note : Note S P) → after ≡ point ++ note ∷ [] → entries_of after ≡ entries_of point ++ entry_of note ∷ []
  entries_more point after note is = ap entries_of is ∙ entries_of-append point (note ∷ [])
