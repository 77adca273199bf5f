-- The runs of a colour one turn after another, with their times.
use Rattle.std.proofs.Common.{◌≡◌, ℕ, ◌<◌, ◌≤◌, ◌==◌, Bool, true, false, List, [], ◌∷◌, ◌++◌, ◌⊎◌, if◌then◌else◌, length, map, take, drop, refl, sym, ◌∙◌, ap, ap₂, subst, inl, inr, arith, take-add, append_assoc}
use Rattle.std.specs.List.{AllByRecursion}
use Rattle.std.proofs.lemmas.Bool.{eqb-true}
use Rattle.std.proofs.lemmas.List.{append-nil, map-append, length-append, length-take, length-map, take-map, drop-map}
use Rattle.mely_event.specs.declared.colour.Colour.{Colour}
use Rattle.mely_history.specs.declared.setup.Setup.{Setup}
use Rattle.mely_history.specs.Entries.{finished_on}
use Rattle.mely_history.specs.Setup.{shape_of}
use Rattle.mely_history.specs.History.{ended_of}
use Rattle.mely_history.specs.Legal.{IsLegal}
use Rattle.mely_note.specs.declared.note.Note.{Note}
use Rattle.mely_note.specs.declared.note.Note.TheVariants.{Reg, Take, Fin, Steal}
use Rattle.mely_note.specs.Notes.{entry_of, entries_of}
use Rattle.mely_tally.specs.Account.{HandlerRun}
use Rattle.mely_chain.specs.Told.{finished_by}
use Rattle.mely_chain.proofs.GrowthLemmas.{over_pushes, ended-push}
use Rattle.mely_chain.proofs.MergeNotesLemmas.{own_finish, finished-more, over_notes}
use Rattle.mely_chain.proofs.MergeChainLemmas.{with_core, piece, chain_of, chain-push}
use Rattle.mely_chain.proofs.MergeMadeLemmas.{all-append, finishers_below}
use Rattle.mely_cause.proofs.AmongLemmas.{Among, all_from, map_among, among_map, among_front, among_back, among_either, among_take, among_drop}
use Rattle.mely_cause.proofs.TimedRuns.{TimedRun}

module _ {S P : Type 0} where
  -- the run of a timed one, with the core that made it
  abbrev pub run_of : ℕ × TimedRun S P → ℕ × HandlerRun S P
  run_of each = (each.0, each.1.run)

  -- timed runs with the core that made them
  abbrev pub timed_with : ℕ → List (TimedRun S P) → List (ℕ × TimedRun S P)
  timed_with n runs = map (λ r. (n, r)) runs

  runs-with : (n : ℕ) (runs : List (TimedRun S P)) → map run_of (timed_with n runs) ≡ with_core n (map (λ r. r.run) runs)
  runs-with n [] = refl
  runs-with n (r ∷ runs) = ap (λ l. (n, r.run) ∷ l) (runs-with n runs)

  module _ (c : Colour) (timed : ℕ → List (TimedRun S P)) where
    -- the runs of the turn that a core finished
    abbrev pub turn_timed : ℕ → List (Note S P) → ℕ → List (TimedRun S P)
    turn_timed n before count = take count (drop (finished_by n before c) (timed n))

    -- those of the turn that a note finished: the next of its core
    abbrev pub timed_piece : List (Note S P) → Note S P → List (ℕ × TimedRun S P)
    timed_piece before (Reg colour event load by at) = []
    timed_piece before (Take colour core count at) = []
    timed_piece before (Fin colour core count state at) = if colour.0 == c.0 then timed_with core (turn_timed core before count) else []
    timed_piece before (Steal colour from to at) = []

    -- those of the turns that notes finished, in order
    abbrev pub timed_from : List (Note S P) → List (Note S P) → List (ℕ × TimedRun S P)
    timed_from before [] = []
    timed_from before (note ∷ more) = timed_piece before note ++ timed_from (before ++ note ∷ []) more

    abbrev pub timed_chain : List (Note S P) → List (ℕ × TimedRun S P)
    timed_chain notes = timed_from [] notes

    from-push : (before done : List (Note S P)) (note : Note S P) → timed_from before (done ++ note ∷ []) ≡ timed_from before done ++ timed_piece (before ++ done) note
    from-push before [] note = append-nil (timed_piece before note) ∙ ap (λ l. timed_piece l note) (sym (append-nil before))
    from-push before (first ∷ done) note =
        ap (λ l. timed_piece before first ++ l) (from-push (before ++ first ∷ []) done note)
        ∙ sym (append_assoc (timed_piece before first) (timed_from (before ++ first ∷ []) done) (timed_piece ((before ++ first ∷ []) ++ done) note))
        ∙ ap (λ l. (timed_piece before first ++ timed_from (before ++ first ∷ []) done) ++ timed_piece l note) (append_assoc before (first ∷ []) done)

    pub timed-push : (done : List (Note S P)) (note : Note S P) → timed_chain (done ++ note ∷ []) ≡ timed_chain done ++ timed_piece done note
    timed-push done note = from-push [] done note

    -- they are at most as many as events were finished
    few_piece : (done : List (Note S P)) (note : Note S P) → length (timed_piece done note) ≤ finished_on c (entry_of note)
    few_piece done (Reg d event load by at) = omega arith
    few_piece done (Take d core count at) = omega arith
    few_piece done (Steal d from to at) = omega arith
    few_piece done (Fin d core count state at) = for (d.0 == c.0) where
      for : (own : Bool) → length (if own then timed_with core (turn_timed core done count) else []) ≤ (if own then count else 0)
      for true =
          let mapped = length-map {B = ℕ × TimedRun S P} (turn_timed core done count) (λ r. (core, r)) in
          let taken = length-take count (drop (finished_by core done c) (timed core)) in
          omega (arith, mapped, taken)
      for false = omega arith

    pub few : (notes : List (Note S P)) → length (timed_chain notes) ≤ ended_of (entries_of notes) c
    few = over_pushes (λ done. length (timed_chain done) ≤ ended_of (entries_of done) c) (omega arith)
        (λ done note so.
        let more = ap length (timed-push done note) in
        let both = length-append (timed_chain done) (timed_piece done note) in
        let part = few_piece done note in
        let ended = ended-push done note c in
        omega (arith, so, more, both, part, ended))

    -- among them is each of a core's first runs, as many as it finished events
    none_more : {X : Type 0} (own : Bool) (x : X) (xs : List X) → Among x (take (if own then 0 else 0) xs) → ⊥
    none_more true x xs there = elim there [ ]
    none_more false x xs there = elim there [ ]

    in_piece : (n : ℕ) (r : TimedRun S P) (done : List (Note S P)) (note : Note S P) → Among r (take (own_finish n c note) (drop (finished_by n done c) (timed n))) → Among (n, r) (timed_piece done note)
    in_piece n r done (Reg d event load by at) there = absurd (none_more (by == n) r (drop (finished_by n done c) (timed n)) there)
    in_piece n r done (Take d core count at) there = absurd (none_more (core == n) r (drop (finished_by n done c) (timed n)) there)
    in_piece n r done (Steal d from to at) there = absurd (none_more (to == n) r (drop (finished_by n done c) (timed n)) there)
    in_piece n r done (Fin d core count state at) there = for (d.0 == c.0) (core == n) refl there where
      for : (own by : Bool) → (core == n) ≡ by → Among r (take (if by then (if own then count else 0) else 0) (drop (finished_by n done c) (timed n))) → Among (n, r) (if own then timed_with core (turn_timed core done count) else [])
      for true true is there = subst (λ k. Among (n, r) (timed_with k (turn_timed k done count))) (sym (eqb-true core n is)) (among_map (λ r. (n, r)) (turn_timed n done count) r there)
      for true false is there = elim there [ ]
      for false true is there = elim there [ ]
      for false false is there = elim there [ ]

    pub in_chain : (n : ℕ) (r : TimedRun S P) (notes : List (Note S P)) → Among r (take (finished_by n notes c) (timed n)) → Among (n, r) (timed_chain notes)
    in_chain n r = over_pushes (λ done. Among r (take (finished_by n done c) (timed n)) → Among (n, r) (timed_chain done)) (λ there. elim there [ ])
        (λ done note so there.
        let k = finished_by n done c in
        let cut : take (finished_by n (done ++ note ∷ []) c) (timed n) ≡ take k (timed n) ++ take (own_finish n c note) (drop k (timed n)) = ap (λ m. take m (timed n)) (finished-more n done note c) ∙ take-add k (own_finish n c note) (timed n) in
        subst (λ l. Among (n, r) l) (sym (timed-push done note)) (for done note so (among_either (take k (timed n)) (take (own_finish n c note) (drop k (timed n))) r (subst (λ l. Among r l) cut there)))) where
          for : (done : List (Note S P)) (note : Note S P) → (Among r (take (finished_by n done c) (timed n)) → Among (n, r) (timed_chain done)) → Among r (take (finished_by n done c) (timed n)) ⊎ Among r (take (own_finish n c note) (drop (finished_by n done c) (timed n))) → Among (n, r) (timed_chain done ++ timed_piece done note)
          for done note so (inl old) = among_front (timed_chain done) (timed_piece done note) (n, r) (so old)
          for done note so (inr new) = among_back (timed_chain done) (timed_piece done note) (n, r) (in_piece n r done note new)

    module _ (setup : Setup) (notes : List (Note S P)) (legal : IsLegal setup (entries_of notes)) where
      -- each of them is of a core, and among its runs
      abbrev pub IsOfCore : ℕ × TimedRun S P → Type 0
      IsOfCore each = (each.0 < (shape_of setup).cores) × Among each.1 (timed each.0)

      no_runs : ℕ → List (HandlerRun S P)
      no_runs n = []

      piece_of_cores : (done after : List (Note S P)) (note : Note S P) → notes ≡ done ++ note ∷ after → AllByRecursion IsOfCore (timed_piece done note)
      piece_of_cores done after (Reg d event load by at) is = tt
      piece_of_cores done after (Take d core count at) is = tt
      piece_of_cores done after (Steal d from to at) is = tt
      piece_of_cores done after (Fin d core count state at) is = for (d.0 == c.0) where
        for : (own : Bool) → AllByRecursion IsOfCore (if own then timed_with core (turn_timed core done count) else [])
        for true = all_from IsOfCore (timed_with core (turn_timed core done count)) (λ each there.
            let from = map_among (λ r. (core, r)) (turn_timed core done count) each there in
            subst IsOfCore (sym from.2) (finishers_below setup c no_runs notes legal done after d core count state at is, among_drop (finished_by core done c) (timed core) from.0 (among_take count (drop (finished_by core done c) (timed core)) from.0 from.1)))
        for false = tt

      pub of_cores : AllByRecursion IsOfCore (timed_chain notes)
      of_cores = over_notes notes (λ done. AllByRecursion IsOfCore (timed_chain done)) tt
          (λ done after note is so. subst (λ l. AllByRecursion IsOfCore l) (sym (timed-push done note)) (all-append IsOfCore (timed_chain done) (timed_piece done note) so (piece_of_cores done after note is)))

      module _ (runs : ℕ → List (HandlerRun S P)) (same : (n : ℕ) → n < (shape_of setup).cores → map (λ r. r.run) (timed n) ≡ runs n) where
        -- without their times they are the runs of the colour
        untimed_piece : (done after : List (Note S P)) (note : Note S P) → notes ≡ done ++ note ∷ after → map run_of (timed_piece done note) ≡ piece c runs done note
        untimed_piece done after (Reg d event load by at) is = refl
        untimed_piece done after (Take d core count at) is = refl
        untimed_piece done after (Steal d from to at) is = refl
        untimed_piece done after (Fin d core count state at) is = for (d.0 == c.0) where
          k : ℕ
          k = finished_by core done c

          for : (own : Bool) → map run_of (if own then timed_with core (turn_timed core done count) else []) ≡ (if own then with_core core (take count (drop (finished_by core done c) (runs core))) else [])
          for true =
              runs-with core (turn_timed core done count)
              ∙ ap (λ l. with_core core l) (sym (take-map (λ r. r.run) count (drop k (timed core))) ∙ ap (take count) (sym (drop-map (λ r. r.run) k (timed core)) ∙ ap (drop k) (same core (finishers_below setup c no_runs notes legal done after d core count state at is))))
          for false = refl

        pub untimed : map run_of (timed_chain notes) ≡ chain_of c runs notes
        untimed = over_notes notes (λ done. map run_of (timed_chain done) ≡ chain_of c runs done) refl
            (λ done after note is so.
            ap (map run_of) (timed-push done note)
            ∙ map-append run_of (timed_chain done) (timed_piece done note)
            ∙ ap₂ (λ xs ys. xs ++ ys) so (untimed_piece done after note is)
            ∙ sym (chain-push c runs done note))
