-- The runs of a colour one turn after another, as its finishes say which.
use Rattle.std.proofs.Common.{◌≡◌, ℕ, ◌==◌, true, false, List, [], ◌∷◌, ◌++◌, if◌then◌else◌, map, take, drop, refl, sym, ◌∙◌, ap, append_assoc}
use Rattle.std.proofs.lemmas.List.{append-nil}
use Rattle.mely_event.specs.declared.colour.Colour.{Colour}
use Rattle.mely_note.specs.declared.note.Note.{Note}
use Rattle.mely_note.specs.declared.note.Note.TheVariants.{Reg, Take, Fin, Steal}
use Rattle.mely_tally.specs.Account.{HandlerRun}
use Rattle.mely_chain.specs.Told.{finished_by}
use Rattle.mely_chain.specs.InOrder.{made_by}

module _ {S P : Type 0} where
  -- runs with the core that made them
  abbrev pub with_core : ℕ → List (HandlerRun S P) → List (ℕ × HandlerRun S P)
  with_core n runs = map (λ run. (n, run)) runs

  -- runs without their cores
  abbrev pub without_core : List (ℕ × HandlerRun S P) → List (HandlerRun S P)
  without_core runs = map (λ run. run.1) runs

  pub without-with : (n : ℕ) (runs : List (HandlerRun S P)) → without_core (with_core n runs) ≡ runs
  without-with n [] = refl
  without-with n (run ∷ runs) = ap (λ l. run ∷ l) (without-with n runs)

  pub made-with : (m n : ℕ) (runs : List (HandlerRun S P)) → (m == n) ≡ true → made_by n (with_core m runs) ≡ runs
  made-with m n [] is = refl
  made-with m n (run ∷ runs) is = rw is (ap (λ l. run ∷ l) (made-with m n runs is))

  pub made-other : (m n : ℕ) (runs : List (HandlerRun S P)) → (m == n) ≡ false → made_by n (with_core m runs) ≡ []
  made-other m n [] not = refl
  made-other m n (run ∷ runs) not = rw not (made-other m n runs not)

  module _ (c : Colour) (runs : ℕ → List (HandlerRun S P)) where
    -- the runs of the turn that a note finished: the next of its core
    abbrev pub piece : List (Note S P) → Note S P → List (ℕ × HandlerRun S P)
    piece before (Reg colour event load by stamp) = []
    piece before (Take colour core count stamp) = []
    piece before (Fin colour core count state stamp) = if colour.0 == c.0
        then with_core core (take count (drop (finished_by core before c) (runs core))) else []
    piece before (Steal colour from to stamp) = []

    -- the runs of the turns that notes finished, in order
    abbrev pub chain_from : List (Note S P) → List (Note S P) → List (ℕ × HandlerRun S P)
    chain_from before [] = []
    chain_from before (note ∷ more) = piece before note ++ chain_from (before ++ note ∷ []) more

    abbrev pub chain_of : List (Note S P) → List (ℕ × HandlerRun S P)
    chain_of notes = chain_from [] notes

    from-push : (before done : List (Note S P)) (note : Note S P) → chain_from before (done ++ note ∷ []) ≡ chain_from before done ++ piece (before ++ done) note
    from-push before [] note = append-nil (piece before note) ∙ ap (λ l. piece l note) (sym (append-nil before))
    from-push before (first ∷ done) note =
        ap (λ l. piece before first ++ l) (from-push (before ++ first ∷ []) done note)
        ∙ sym (append_assoc (piece before first) (chain_from (before ++ first ∷ []) done) (piece ((before ++ first ∷ []) ++ done) note))
        ∙ ap (λ l. (piece before first ++ chain_from (before ++ first ∷ []) done) ++ piece l note) (append_assoc before (first ∷ []) done)

    pub chain-push : (done : List (Note S P)) (note : Note S P) → chain_of (done ++ note ∷ []) ≡ chain_of done ++ piece done note
    chain-push done note = from-push [] done note
