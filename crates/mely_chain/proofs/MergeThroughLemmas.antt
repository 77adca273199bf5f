-- Turn by turn, the runs of a colour lead from the state that was given to the one at home.
use Rattle.std.proofs.Common.{◌≡◌, ℕ, ◌+◌, ◌≤◌, ◌==◌, Bool, true, false, List, [], ◌∷◌, ◌++◌, Option, None, length, take, drop, refl, sym, ◌∙◌, ap, ap₂, subst, take-add, add-zero}
use Rattle.std.specs.List.{cons_option}
use Rattle.std.specs.Prelude.{unwrap_or}
use Rattle.std.specs.declared.snapshot.Snapshot.{Snapshot}
use Rattle.std.proofs.lemmas.Bool.{eqb-true}
use Rattle.std.proofs.lemmas.List.{append-nil, map-append, take-append-le}
use Rattle.mely_event.specs.declared.colour.Colour.{Colour}
use Rattle.mely_event.specs.declared.event.Event.{Event}
use Rattle.mely_history.specs.declared.setup.Setup.{Setup}
use Rattle.mely_history.specs.Entries.{finished_on}
use Rattle.mely_history.specs.History.{ended_of}
use Rattle.mely_history.specs.Legal.{IsLegal}
use Rattle.mely_history.proofs.LegalAccountLemmas.{same_colour}
use Rattle.mely_note.specs.declared.note.Note.{Note}
use Rattle.mely_note.specs.declared.note.Note.TheVariants.{Reg, Take, Fin, Steal}
use Rattle.mely_note.specs.declared.stamp.Stamp.{Stamp}
use Rattle.mely_note.specs.Notes.{entry_of, entries_of, loaded_of, load_on, state_on, home_of}
use Rattle.mely_tally.specs.Account.{HandlerRun}
use Rattle.mely_chain.specs.Runs.{RunThrough}
use Rattle.mely_chain.specs.Told.{finished_by, turn_of}
use Rattle.mely_chain.proofs.MergeFollowLemmas.{through-append}
use Rattle.mely_chain.proofs.GrowthLemmas.{ended-push, loaded-push, home-push}
use Rattle.mely_chain.proofs.MergeNotesLemmas.{ended_loaded, over_notes, legal_there}
use Rattle.mely_chain.proofs.MergeChainLemmas.{with_core, without_core, without-with, piece, chain_of, chain-push}

module _ {S P : Type 0} (first : S) (c : Colour) (runs : ℕ → List (HandlerRun S P)) where
  -- the events that were finished, with their loads
  abbrev pub ended_loads : List (Note S P) → List (Event × Option P)
  ended_loads notes = take (ended_of (entries_of notes) c) (loaded_of notes c)

  -- the runs of the finished turns are on these, from the state that was given to the one at home
  abbrev pub Through : List (Note S P) → Type 0
  Through notes = RunThrough first (ended_loads notes) (home_of first notes c) (without_core (chain_of c runs notes))

  -- a note that finishes nothing of the colour
  record IsQuiet (done : List (Note S P)) (note : Note S P) : Type 0 where
    none : finished_on c (entry_of note) ≡ 0
    home : state_on c note ≡ None
    runs_none : piece c runs done note ≡ []

  quiet_loads : (done : List (Note S P)) (note : Note S P) → ended_of (entries_of done) c ≤ length (loaded_of done c) → finished_on c (entry_of note) ≡ 0 → ended_loads (done ++ note ∷ []) ≡ ended_loads done
  quiet_loads done note few none =
      let ended : ended_of (entries_of (done ++ note ∷ [])) c ≡ ended_of (entries_of done) c = ended-push done note c ∙ ap (λ n. ended_of (entries_of done) c + n) none ∙ add-zero (ended_of (entries_of done) c) in
      ap₂ (λ n l. take n l) ended (loaded-push done note c)
      ∙ take-append-le (ended_of (entries_of done) c) (loaded_of done c) (cons_option (load_on c note) []) few

  quiet_step : (done : List (Note S P)) (note : Note S P) → ended_of (entries_of done) c ≤ length (loaded_of done c) → IsQuiet done note → Through done → Through (done ++ note ∷ [])
  quiet_step done note few quiet so =
      let loads = quiet_loads done note few quiet.none in
      let home : home_of first (done ++ note ∷ []) c ≡ home_of first done c = home-push first done note c ∙ ap (λ o. unwrap_or o (home_of first done c)) quiet.home in
      let same : chain_of c runs (done ++ note ∷ []) ≡ chain_of c runs done = chain-push c runs done note ∙ ap (λ l. chain_of c runs done ++ l) quiet.runs_none ∙ append-nil (chain_of c runs done) in
      subst (λ l. RunThrough first l (home_of first (done ++ note ∷ []) c) (without_core (chain_of c runs (done ++ note ∷ [])))) (sym loads)
      (subst (λ s. RunThrough first (ended_loads done) s (without_core (chain_of c runs (done ++ note ∷ [])))) (sym home)
      (subst (λ l. RunThrough first (ended_loads done) (home_of first done c) (without_core l)) (sym same) so))

  -- the runs of the turn that a core finished
  abbrev turn_runs : List (Note S P) → ℕ → ℕ → List (HandlerRun S P)
  turn_runs done n count = take count (drop (finished_by n done c) (runs n))

  turn_step : (done : List (Note S P)) (d : Colour) (n count : ℕ) (state : Snapshot S) (stamp : Snapshot Stamp) → (d.0 == c.0) ≡ true → RunThrough (home_of first done c) (turn_of done c count) state.value (turn_runs done n count) → Through done → Through (done ++ Fin d n count state stamp ∷ [])
  turn_step done d n count state stamp own told so =
      let note : Note S P = Fin d n count state stamp in
      let with = through-append first (home_of first done c) state.value (ended_loads done) (turn_of done c count) (without_core (chain_of c runs done)) (turn_runs done n count) so told in
      let finishes : finished_on c (entry_of note) ≡ count = rw own refl in
      let same : loaded_of (done ++ note ∷ []) c ≡ loaded_of done c = loaded-push done note c ∙ append-nil (loaded_of done c) in
      let ended : ended_of (entries_of (done ++ note ∷ [])) c ≡ ended_of (entries_of done) c + count = ended-push done note c ∙ ap (λ k. ended_of (entries_of done) c + k) finishes in
      let loads : ended_loads (done ++ note ∷ []) ≡ ended_loads done ++ turn_of done c count = ap₂ (λ k l. take k l) ended same ∙ take-add (ended_of (entries_of done) c) count (loaded_of done c) in
      let home : home_of first (done ++ note ∷ []) c ≡ state.value = home-push first done note c ∙ rw own refl in
      let part : piece c runs done note ≡ with_core n (turn_runs done n count) = rw own refl in
      let all : without_core (chain_of c runs (done ++ note ∷ [])) ≡ without_core (chain_of c runs done) ++ turn_runs done n count =
      ap (λ l. without_core l) (chain-push c runs done note ∙ ap (λ l. chain_of c runs done ++ l) part)
      ∙ map-append (λ run. run.1) (chain_of c runs done) (with_core n (turn_runs done n count))
      ∙ ap (λ l. without_core (chain_of c runs done) ++ l) (without-with n (turn_runs done n count)) in
      subst (λ l. RunThrough first l (home_of first (done ++ note ∷ []) c) (without_core (chain_of c runs (done ++ note ∷ [])))) (sym loads)
      (subst (λ s. RunThrough first (ended_loads done ++ turn_of done c count) s (without_core (chain_of c runs (done ++ note ∷ [])))) (sym home)
      (subst (λ l. RunThrough first (ended_loads done ++ turn_of done c count) state.value l) (sym all) with))

  module _ (setup : Setup) (notes : List (Note S P)) (legal : IsLegal setup (entries_of notes))
      (told : (done after : List (Note S P)) (n count : ℕ) (state : Snapshot S) (stamp : Snapshot Stamp) → notes ≡ done ++ Fin c n count state stamp ∷ after → RunThrough (home_of first done c) (turn_of done c count) state.value (turn_runs done n count)) where
    step : (done after : List (Note S P)) (note : Note S P) → notes ≡ done ++ note ∷ after → ended_of (entries_of done) c ≤ length (loaded_of done c) → Through done → Through (done ++ note ∷ [])
    step done after (Reg d event load by stamp) is few so = quiet_step done (Reg d event load by stamp) few (record { none = refl; home = refl; runs_none = refl }) so
    step done after (Take d n count stamp) is few so = quiet_step done (Take d n count stamp) few (record { none = refl; home = refl; runs_none = refl }) so
    step done after (Steal d from to stamp) is few so = quiet_step done (Steal d from to stamp) few (record { none = refl; home = refl; runs_none = refl }) so
    step done after (Fin d n count state stamp) is few so = for (d.0 == c.0) refl where
      for : (own : Bool) → (d.0 == c.0) ≡ own → Through (done ++ Fin d n count state stamp ∷ [])
      for true own =
          let same : d ≡ c = same_colour d c (eqb-true d.0 c.0 own) in
          turn_step done d n count state stamp own (told done after n count state stamp (is ∙ ap (λ e. done ++ Fin e n count state stamp ∷ after) same)) so
      for false other = quiet_step done (Fin d n count state stamp) few (record { none = rw other refl; home = rw other refl; runs_none = rw other refl }) so

    none_yet : Through []
    none_yet = record { given = refl; follow = refl }

    pub through : Through notes
    through = over_notes notes Through none_yet (λ done after note is so. step done after note is (ended_loaded setup done c (legal_there setup notes done after note is legal).0) so)
