-- What the notes tell of the runs of a core on one colour, after further notes and further runs.
use Rattle.std.proofs.Common.{◌≡◌, ℕ, zero, suc, ◌+◌, ◌≤◌, ◌==◌, List, [], ◌∷◌, ◌++◌, ◌⊎◌, Option, Some, None, Bool, true, false, length, take, drop, map, if◌then◌else◌, refl, sym, ◌∙◌, ap, subst, inl, inr, ⊎_elim, arith, add-zero, append_assoc, length-drop}
use Rattle.std.specs.List.{cons_option}
use Rattle.std.specs.Prelude.{unwrap_or}
use Rattle.std.specs.declared.snapshot.Snapshot.{Snapshot}
use Rattle.std.proofs.lemmas.Bool.{eqb-true, eq-eqb, ne_eqb, cases_eq}
use Rattle.std.proofs.lemmas.List.{append-nil, map-append, length-take, length-take-le, take-append-le, drop-append-le, drop-drop}
use Rattle.std.proofs.Math.ListN.{length-map, drop_of_length-le}
use Rattle.std.proofs.Math.Seq.{take-length}
use Rattle.mely_event.specs.declared.colour.Colour.{Colour}
use Rattle.mely_event.specs.declared.event.Event.{Event}
use Rattle.mely_history.specs.declared.setup.Setup.{Setup}
use Rattle.mely_history.specs.declared.entry.Entry.TheVariants as entries
use Rattle.mely_history.specs.Entries.{finished_on}
use Rattle.mely_history.specs.History.{begun_of, ended_of, last_take}
use Rattle.mely_history.specs.Legal.{IsAllowed, IsLegal, MayTake}
use Rattle.mely_history.specs.Owing.{last_change}
use Rattle.mely_history.proofs.LegalLemmas.{legal_before, legal_front}
use Rattle.mely_history.proofs.LegalAccountLemmas.{begun_within, same_colour}
use Rattle.mely_history.proofs.OwingLemmas.{running_on, owed_taken, last_change-others}
use Rattle.mely_note.specs.declared.note.Note.{Note}
use Rattle.mely_note.specs.declared.note.Note.TheVariants.{Reg, Take, Fin, Steal}
use Rattle.mely_note.specs.declared.stamp.Stamp.{Stamp}
use Rattle.mely_note.proofs.StampLemmas.{cut_last}
use Rattle.mely_note.specs.Notes.{entry_of, entries_of, loaded_of, home_of, load_on, state_on, noted_by, notes_by, waiting_of}
use Rattle.mely_queue.specs.Turn.{TurnState}
use Rattle.mely_tally.specs.Account.{HandlerRun}
use Rattle.mely_chain.specs.Runs.{RunThrough, Follow, given_to}
use Rattle.mely_chain.specs.Told.{TellTurns, TellTurnOut, runs_out, finished_by, turn_of}
use Rattle.mely_chain.proofs.GrowthLemmas.{over_pushes, entries-push, loaded-push, home-push, ended-push, loaded-length, finished-own, finished-other, finished-none, first_other}

-- what was taken whole of a list is taken of a longer one
take_whole : {X : Type 0} (count k : ℕ) (xs more : List X) → length (take count (drop k xs)) ≡ count → take count (drop k (xs ++ more)) ≡ take count (drop k xs)
take_whole zero k xs more is = refl
take_whole (suc m) k xs more is =
    let has = length-take (suc m) (drop k xs) in
    let left = length-drop k xs in
    let within : k ≤ length xs = omega (arith, is, has, left) in
    let many : suc m ≤ length (drop k xs) = omega (arith, is, has) in
    ap (take (suc m)) (drop-append-le k xs more within) ∙ take-append-le (suc m) (drop k xs) more many

same_first : (a b : ℕ × ℕ) → Some a ≡ Some b → a.0 ≡ b.0
same_first a b is = let same : a ≡ b = cc in ap (λ p. p.0) same

module _ {S P : Type 0} where
  -- a legal history of notes, cut at a note: the front is legal, and the note may follow it
  pub legal_at : (setup : Setup) (before : List (Note S P)) (note : Note S P) (after : List (Note S P)) → IsLegal setup (entries_of (before ++ note ∷ after)) → IsLegal setup (entries_of before) × IsAllowed setup (entries_of before) (entry_of note)
  legal_at setup before note after legal =
      let cut : entries_of (before ++ note ∷ after) ≡ (entries_of before ++ entry_of note ∷ []) ++ entries_of after = map-append entry_of before (note ∷ after) ∙ sym (append_assoc (entries_of before) (entry_of note ∷ []) (entries_of after)) in
      legal_before setup (entries_of before) (entry_of note) (legal_front setup (entries_of before ++ entry_of note ∷ []) (entries_of after) (subst (IsLegal setup) cut legal))

  -- the front of a legal history of notes
  pub legal_notes : (setup : Setup) (before after : List (Note S P)) → IsLegal setup (entries_of (before ++ after)) → IsLegal setup (entries_of before)
  legal_notes setup before after legal = legal_front setup (entries_of before) (entries_of after) (subst (IsLegal setup) (map-append entry_of before after) legal)

  -- a turn that was begun was registered
  turn_within : (setup : Setup) (notes : List (Note S P)) (c : Colour) (count : ℕ) → IsLegal setup (entries_of notes) → begun_of (entries_of notes) c ≡ ended_of (entries_of notes) c + count → count ≤ length (drop (ended_of (entries_of notes) c) (loaded_of notes c))
  turn_within setup notes c count legal away =
      let within = begun_within setup (entries_of notes) c legal in
      let loads = loaded-length notes c in
      let left = length-drop (ended_of (entries_of notes) c) (loaded_of notes c) in
      omega (arith, away, within, loads, left)

  turn-length : (setup : Setup) (notes : List (Note S P)) (c : Colour) (count : ℕ) → IsLegal setup (entries_of notes) → begun_of (entries_of notes) c ≡ ended_of (entries_of notes) c + count → length (turn_of notes c count) ≡ count
  turn-length setup notes c count legal away = length-take-le count (drop (ended_of (entries_of notes) c) (loaded_of notes c)) (turn_within setup notes c count legal away)

  -- a turn that was begun is the same after a note that finishes nothing
  turn-push : (setup : Setup) (notes : List (Note S P)) (note : Note S P) (c : Colour) (count : ℕ) → IsLegal setup (entries_of notes) → begun_of (entries_of notes) c ≡ ended_of (entries_of notes) c + count → finished_on c (entry_of note) ≡ 0 → turn_of (notes ++ note ∷ []) c count ≡ turn_of notes c count
  turn-push setup notes note c count legal away none =
      let ended : ended_of (entries_of (notes ++ note ∷ [])) c ≡ ended_of (entries_of notes) c = ended-push notes note c ∙ ap (λ k. ended_of (entries_of notes) c + k) none ∙ add-zero (ended_of (entries_of notes) c) in
      let loaded = loaded-push notes note c in
      let whole = turn-length setup notes c count legal away in
      ap (λ k. take count (drop k (loaded_of (notes ++ note ∷ []) c))) ended ∙ ap (λ l. take count (drop (ended_of (entries_of notes) c) l)) loaded ∙ take_whole count (ended_of (entries_of notes) c) (loaded_of notes c) (cons_option (load_on c note) []) whole

  module _ (n : ℕ) (c : Colour) where
    -- a note is a finish of the colour by the pass, or changes nothing of what it finished
    own_finish : (note : Note S P) → ((count : ℕ) × (state : Snapshot S) × (stamp : Snapshot Stamp) × (note ≡ Fin c n count state stamp)) ⊎ ((notes : List (Note S P)) → finished_by n (notes ++ note ∷ []) c ≡ finished_by n notes c)
    own_finish (Reg d event load by stamp) = inr (λ notes. finished-none n notes (Reg d event load by stamp) c refl)
    own_finish (Take d core count stamp) = inr (λ notes. finished-none n notes (Take d core count stamp) c refl)
    own_finish (Steal d from to stamp) = inr (λ notes. finished-none n notes (Steal d from to stamp) c refl)
    own_finish (Fin d core count state stamp) = ⊎_elim
        (λ (by : core ≡ n). ⊎_elim
        (λ (of : d.0 ≡ c.0). inl (count, state, stamp, ap (λ k. Fin d k count state stamp) by ∙ ap (λ e. Fin e n count state stamp) (same_colour d c of)))
        (λ (ne : d.0 ≡ c.0 → ⊥). inr (λ notes. finished-none n notes (Fin d core count state stamp) c (ap (λ b. if b then count else 0) (ne_eqb d.0 c.0 ne))))
        (cases_eq d.0 c.0))
        (λ (ne : core ≡ n → ⊥). inr (λ notes. finished-other n notes (Fin d core count state stamp) c (ne_eqb core n ne)))
        (cases_eq core n)

    module _ (first : S) where
      -- ---- the turns that the pass finished

      turns_more : (notes : List (Note S P)) (note : Note S P) (runs : List (HandlerRun S P)) → ((count : ℕ) (state : Snapshot S) (stamp : Snapshot Stamp) → note ≡ Fin c n count state stamp → RunThrough (home_of first notes c) (turn_of notes c count) state.value (take count (drop (finished_by n notes c) runs))) → TellTurns first n c notes runs → TellTurns first n c (notes ++ note ∷ []) runs
      turns_more notes note runs last told before after count state stamp is = ⊎_elim
          (λ (at : (before ≡ notes) × (note ≡ Fin c n count state stamp)). subst (λ l. RunThrough (home_of first l c) (turn_of l c count) state.value (take count (drop (finished_by n l c) runs))) (sym at.0) (last count state stamp at.1))
          (λ (inner : (more : List (Note S P)) × (notes ≡ before ++ Fin c n count state stamp ∷ more)). told before inner.0 count state stamp inner.1)
          (cut_last notes note before (Fin c n count state stamp) after is)

      -- after a note that brings no state of the colour home
      pub turns_quiet : (notes : List (Note S P)) (note : Note S P) (runs : List (HandlerRun S P)) → state_on c note ≡ None → TellTurns first n c notes runs → TellTurns first n c (notes ++ note ∷ []) runs
      turns_quiet notes note runs none = turns_more notes note runs (λ count state stamp is. let home : Some state.value ≡ None = sym (ap (λ b. if b then Some state.value else None) (eq-eqb c.0 c.0 refl)) ∙ sym (ap (state_on c) is) ∙ none in cc)

      turns_other : (notes : List (Note S P)) (note : Note S P) (runs : List (HandlerRun S P)) → (noted_by note == n) ≡ false → TellTurns first n c notes runs → TellTurns first n c (notes ++ note ∷ []) runs
      turns_other notes note runs not = turns_more notes note runs (λ count state stamp is. let wrong : true ≡ false = sym (eq-eqb (noted_by note) n (ap noted_by is)) ∙ not in cc)

      -- after notes of others
      pub turns_others : (notes between : List (Note S P)) (runs : List (HandlerRun S P)) → notes_by n between ≡ [] → TellTurns first n c notes runs → TellTurns first n c (notes ++ between) runs
      turns_others notes [] runs none told = subst (λ l. TellTurns first n c l runs) (sym (append-nil notes)) told
      turns_others notes (note ∷ between) runs none told =
          let not = first_other n note between none in
          subst (λ l. TellTurns first n c l runs) (append_assoc notes (note ∷ []) between) (turns_others (notes ++ note ∷ []) between runs not.1 (turns_other notes note runs not.0 told))

      -- of fewer notes
      turns_front : (notes more : List (Note S P)) (runs : List (HandlerRun S P)) → TellTurns first n c (notes ++ more) runs → TellTurns first n c notes runs
      turns_front notes more runs told before after count state stamp is = told before (after ++ more) count state stamp (ap (λ l. l ++ more) is ∙ append_assoc before (Fin c n count state stamp ∷ after) more)

      -- the runs of a finished turn are as many as it had events
      through-length : (setup : Setup) (before : List (Note S P)) (count : ℕ) (state : Snapshot S) (stamp : Snapshot Stamp) (after : List (Note S P)) (runs : List (HandlerRun S P)) → IsLegal setup (entries_of (before ++ Fin c n count state stamp ∷ after)) → RunThrough (home_of first before c) (turn_of before c count) state.value (take count (drop (finished_by n before c) runs)) → length (take count (drop (finished_by n before c) runs)) ≡ count
      through-length setup before count state stamp after runs legal through =
          let at = legal_at setup before (Fin c n count state stamp) after legal in
          sym (length-map (take count (drop (finished_by n before c) runs)) given_to) ∙ ap length through.given ∙ turn-length setup before c count at.0 at.1.whole

      -- after further runs
      pub turns_run : (setup : Setup) (notes : List (Note S P)) (runs more : List (HandlerRun S P)) → IsLegal setup (entries_of notes) → TellTurns first n c notes runs → TellTurns first n c notes (runs ++ more)
      turns_run setup notes runs more legal told before after count state stamp is =
          let through = told before after count state stamp is in
          let whole = through-length setup before count state stamp after runs (subst (λ l. IsLegal setup (entries_of l)) is legal) through in
          subst (λ l. RunThrough (home_of first before c) (turn_of before c count) state.value l) (sym (take_whole count (finished_by n before c) runs more whole)) through

      -- no more events are finished than runs were made
      pub finished_within : (setup : Setup) (runs : List (HandlerRun S P)) (notes : List (Note S P)) → IsLegal setup (entries_of notes) → TellTurns first n c notes runs → finished_by n notes c ≤ length runs
      finished_within setup runs = over_pushes (λ notes. IsLegal setup (entries_of notes) → TellTurns first n c notes runs → finished_by n notes c ≤ length runs)
          (λ legal told. omega arith)
          (λ notes note so legal told.
          let at = legal_at setup notes note [] legal in
          let before = so at.0 (turns_front notes (note ∷ []) runs told) in
          ⊎_elim
          (λ (fin : (count : ℕ) × (state : Snapshot S) × (stamp : Snapshot Stamp) × (note ≡ Fin c n count state stamp)).
          let through = told notes [] fin.0 fin.1 fin.2 (ap (λ m. notes ++ m ∷ []) fin.3) in
          let whole = through-length setup notes fin.0 fin.1 fin.2 [] runs (subst (λ m. IsLegal setup (entries_of (notes ++ m ∷ []))) fin.3 legal) through in
          let has = length-take fin.0 (drop (finished_by n notes c) runs) in
          let left = length-drop (finished_by n notes c) runs in
          let more : finished_by n (notes ++ note ∷ []) c ≡ finished_by n notes c + fin.0 = finished-own n notes note c (ap noted_by fin.3) ∙ ap (λ m. finished_by n notes c + finished_on c (entry_of m)) fin.3 ∙ ap (λ b. finished_by n notes c + (if b then fin.0 else 0)) (eq-eqb c.0 c.0 refl) in
          omega (arith, before, whole, has, left, more))
          (λ (same : (notes : List (Note S P)) → finished_by n (notes ++ note ∷ []) c ≡ finished_by n notes c). let is = same notes in omega (arith, before, is))
          (own_finish note))

      -- ---- the turn that is out

      -- the colour runs on the turn
      away_of : (setup : Setup) (notes : List (Note S P)) (count : ℕ) → IsLegal setup (entries_of notes) → last_change n c (entries_of notes) ≡ Some (entries.Take c n count) → begun_of (entries_of notes) c ≡ ended_of (entries_of notes) c + count
      away_of setup notes count legal taken = (running_on n c setup (entries_of notes) legal n count taken).2

      -- its runs are those that were made of it, whatever else was noted
      out-same : (notes after : List (Note S P)) (runs : List (HandlerRun S P)) → finished_by n after c ≡ finished_by n notes c → runs_out first n c after runs ≡ runs_out first n c notes runs
      out-same notes after runs same = ap (λ k. drop k runs) same

      -- after a note that finishes and brings home nothing of the colour, and is no change by the pass
      pub out_quiet : (setup : Setup) (notes : List (Note S P)) (note : Note S P) (runs : List (HandlerRun S P)) (turn : TurnState S P) → IsLegal setup (entries_of notes) → state_on c note ≡ None → finished_on c (entry_of note) ≡ 0 → last_change n c (entries_of (notes ++ note ∷ [])) ≡ last_change n c (entries_of notes) → TellTurnOut first n c notes runs turn → TellTurnOut first n c (notes ++ note ∷ []) runs turn
      out_quiet setup notes note runs turn legal none nothing unchanged out =
          let away = away_of setup notes turn.count legal out.taken in
          let same : runs_out first n c (notes ++ note ∷ []) runs ≡ runs_out first n c notes runs = out-same notes (notes ++ note ∷ []) runs (finished-none n notes note c nothing) in
          let home : home_of first (notes ++ note ∷ []) c ≡ home_of first notes c = home-push first notes note c ∙ ap (λ o. unwrap_or o (home_of first notes c)) none in
          record {
            taken = unchanged ∙ out.taken;
            events = ap (λ l. map given_to l ++ turn.events) same ∙ out.events ∙ sym (turn-push setup notes note c turn.count legal away nothing);
            follow = subst (λ l. Follow (home_of first (notes ++ note ∷ []) c) l turn.state) (sym same) (subst (λ s. Follow s (runs_out first n c notes runs) turn.state) (sym home) out.follow);
          }

      -- a note of another pass finishes and brings home nothing of a colour that is out
      quiet_other : (setup : Setup) (notes : List (Note S P)) (note : Note S P) (count : ℕ) → IsAllowed setup (entries_of notes) (entry_of note) → last_take (entries_of notes) c ≡ Some (n, count) → (noted_by note == n) ≡ false → (state_on c note ≡ None) × (finished_on c (entry_of note) ≡ 0)
      quiet_other setup notes (Reg d event load by stamp) count may last not = (refl, refl)
      quiet_other setup notes (Take d core many stamp) count may last not = (refl, refl)
      quiet_other setup notes (Steal d from to stamp) count may last not = (refl, refl)
      quiet_other setup notes (Fin d core many state stamp) count may last not = for (d.0 == c.0) refl where
        for : (own : Bool) → (d.0 == c.0) ≡ own → ((if own then Some state.value else None) ≡ None) × ((if own then many else 0) ≡ 0)
        for true is =
            let there : last_take (entries_of notes) d ≡ Some (n, count) = ap (last_take (entries_of notes)) (same_colour d c (eqb-true d.0 c.0 is)) ∙ last in
            let pair = sym may.last ∙ there in
            let wrong : true ≡ false = sym (eq-eqb core n (same_first (core, many) (n, count) pair)) ∙ not in
            cc
        for false is = (refl, refl)

      -- after notes of others
      pub out_others : (setup : Setup) (notes between : List (Note S P)) (runs : List (HandlerRun S P)) (turn : TurnState S P) → notes_by n between ≡ [] → IsLegal setup (entries_of (notes ++ between)) → TellTurnOut first n c notes runs turn → TellTurnOut first n c (notes ++ between) runs turn
      out_others setup notes [] runs turn none legal out = subst (λ l. TellTurnOut first n c l runs turn) (sym (append-nil notes)) out
      out_others setup notes (note ∷ between) runs turn none legal out =
          let not = first_other n note between none in
          let at = legal_at setup notes note between legal in
          let last = (running_on n c setup (entries_of notes) at.0 n turn.count out.taken).1 in
          let quiet = quiet_other setup notes note turn.count at.1 last not.0 in
          let unchanged : last_change n c (entries_of (notes ++ note ∷ [])) ≡ last_change n c (entries_of notes) = ap (last_change n c) (entries-push notes note) ∙ last_change-others n c (entries_of notes) (entry_of note ∷ []) (ap (λ b. if b then entry_of note ∷ [] else []) not.0) in
          let same : (notes ++ note ∷ []) ++ between ≡ notes ++ note ∷ between = append_assoc notes (note ∷ []) between in
          subst (λ l. TellTurnOut first n c l runs turn) same
          (out_others setup (notes ++ note ∷ []) between runs turn not.1 (subst (λ l. IsLegal setup (entries_of l)) (sym same) legal) (out_quiet setup notes note runs turn at.0 quiet.0 quiet.1 unchanged out))

      -- a turn that was just taken is out
      pub out_taken : (setup : Setup) (notes : List (Note S P)) (runs : List (HandlerRun S P)) (turn : TurnState S P) (stamp : Snapshot Stamp) → MayTake setup (entries_of notes) c n turn.count → turn.events ≡ take turn.count (waiting_of notes c) → turn.state ≡ home_of first notes c → runs_out first n c notes runs ≡ [] → TellTurnOut first n c (notes ++ Take c n turn.count stamp ∷ []) runs turn
      out_taken setup notes runs turn stamp may events state none =
          let note : Note S P = Take c n turn.count stamp in
          let rest = may.ready.at_rest in
          let none_out : runs_out first n c (notes ++ note ∷ []) runs ≡ [] = out-same notes (notes ++ note ∷ []) runs (finished-none n notes note c refl) ∙ none in
          let ended : ended_of (entries_of (notes ++ note ∷ [])) c ≡ ended_of (entries_of notes) c = ended-push notes note c ∙ add-zero (ended_of (entries_of notes) c) in
          let loaded : loaded_of (notes ++ note ∷ []) c ≡ loaded_of notes c = loaded-push notes note c ∙ append-nil (loaded_of notes c) in
          let home : home_of first (notes ++ note ∷ []) c ≡ home_of first notes c = home-push first notes note c in
          record {
            taken = ap (last_change n c) (entries-push notes note) ∙ (owed_taken n c setup (entries_of notes) turn.count may).taken;
            events = ap (λ l. map given_to l ++ turn.events) none_out ∙ events ∙ ap (λ k. take turn.count (drop k (loaded_of notes c))) (rest ∙ sym ended) ∙ ap (λ l. take turn.count (drop (ended_of (entries_of (notes ++ note ∷ [])) c) l)) (sym loaded);
            follow = subst (λ l. Follow (home_of first (notes ++ note ∷ []) c) l turn.state) (sym none_out) (state ∙ sym home);
          }

      -- a run of its next event
      follow_on : (from : S) (runs : List (HandlerRun S P)) (to : S) (run : HandlerRun S P) → Follow from runs to → run.state ≡ to → Follow from (runs ++ run ∷ []) run.becomes
      follow_on from [] to run old is = (is ∙ old, refl)
      follow_on from (r ∷ runs) to run old is = (old.0, follow_on r.becomes runs to run old.1 is)

      pub out_run : (setup : Setup) (notes : List (Note S P)) (runs : List (HandlerRun S P)) (turn : TurnState S P) (run : HandlerRun S P) (rest : List (Event × Option P)) → IsLegal setup (entries_of notes) → TellTurns first n c notes runs → turn.events ≡ given_to run ∷ rest → run.state ≡ turn.state → TellTurnOut first n c notes runs turn → TellTurnOut first n c notes (runs ++ run ∷ []) (record turn { state = run.becomes; events = rest })
      out_run setup notes runs turn run rest legal told is state out =
          let more : runs_out first n c notes (runs ++ run ∷ []) ≡ runs_out first n c notes runs ++ run ∷ [] = drop-append-le (finished_by n notes c) runs (run ∷ []) (finished_within setup runs notes legal told) in
          record {
            taken = out.taken;
            events = ap (λ l. map given_to l ++ rest) more ∙ ap (λ l. l ++ rest) (map-append given_to (runs_out first n c notes runs) (run ∷ [])) ∙ append_assoc (map given_to (runs_out first n c notes runs)) (given_to run ∷ []) rest ∙ ap (λ l. map given_to (runs_out first n c notes runs) ++ l) (sym is) ∙ out.events;
            follow = subst (λ l. Follow (home_of first notes c) l run.becomes) (sym more) (follow_on (home_of first notes c) (runs_out first n c notes runs) turn.state run out.follow state);
          }

      -- ---- the finish of a turn

      -- as many runs were made of it as it had events
      spent-length : (setup : Setup) (notes : List (Note S P)) (runs : List (HandlerRun S P)) (turn : TurnState S P) → IsLegal setup (entries_of notes) → turn.events ≡ [] → TellTurnOut first n c notes runs turn → length (runs_out first n c notes runs) ≡ turn.count
      spent-length setup notes runs turn legal none out =
          let events : map given_to (runs_out first n c notes runs) ≡ turn_of notes c turn.count = sym (append-nil (map given_to (runs_out first n c notes runs))) ∙ ap (λ l. map given_to (runs_out first n c notes runs) ++ l) (sym none) ∙ out.events in
          sym (length-map (runs_out first n c notes runs) given_to) ∙ ap length events ∙ turn-length setup notes c turn.count legal (away_of setup notes turn.count legal out.taken)

      pub turns_finished : (setup : Setup) (notes : List (Note S P)) (runs : List (HandlerRun S P)) (turn : TurnState S P) (home : Snapshot S) (stamp : Snapshot Stamp) → home.value ≡ turn.state → IsLegal setup (entries_of notes) → turn.events ≡ [] → TellTurnOut first n c notes runs turn → TellTurns first n c notes runs → TellTurns first n c (notes ++ Fin c n turn.count home stamp ∷ []) runs
      turns_finished setup notes runs turn home stamp home_is legal none out = turns_more notes (Fin c n turn.count home stamp) runs
          (λ count state at is.
          let many : turn.count ≡ count = cc in
          let same : home ≡ state = cc in
          let brought : turn.state ≡ state.value = sym home_is ∙ ap (λ z. z.value) same in
          let whole : take count (drop (finished_by n notes c) runs) ≡ runs_out first n c notes runs = ap (λ k. take k (runs_out first n c notes runs)) (sym (spent-length setup notes runs turn legal none out ∙ many)) ∙ take-length (runs_out first n c notes runs) in
          record {
            given = ap (map given_to) whole ∙ sym (append-nil (map given_to (runs_out first n c notes runs))) ∙ ap (λ l. map given_to (runs_out first n c notes runs) ++ l) (sym none) ∙ out.events ∙ ap (turn_of notes c) many;
            follow = subst (λ l. Follow (home_of first notes c) l state.value) (sym whole) (subst (λ s. Follow (home_of first notes c) (runs_out first n c notes runs) s) brought out.follow);
          })

      pub none_finished : (setup : Setup) (notes : List (Note S P)) (runs : List (HandlerRun S P)) (turn : TurnState S P) (home : Snapshot S) (stamp : Snapshot Stamp) → IsLegal setup (entries_of notes) → turn.events ≡ [] → TellTurnOut first n c notes runs turn → runs_out first n c (notes ++ Fin c n turn.count home stamp ∷ []) runs ≡ []
      none_finished setup notes runs turn home stamp legal none out =
          let note : Note S P = Fin c n turn.count home stamp in
          let more : finished_by n (notes ++ note ∷ []) c ≡ finished_by n notes c + turn.count = finished-own n notes note c refl ∙ ap (λ b. finished_by n notes c + (if b then turn.count else 0)) (eq-eqb c.0 c.0 refl) in
          let many = spent-length setup notes runs turn legal none out in
          ap (λ k. drop k runs) more ∙ sym (drop-drop turn.count (finished_by n notes c) runs) ∙ drop_of_length-le (runs_out first n c notes runs) (omega (arith, many))
