-- Along the runs of a colour the stamps of what they put rise, and each run comes behind the
-- registration of its event.
use Rattle.std.proofs.Common.{◌≡◌, ℕ, ◌+◌, ◌<◌, ◌≤◌, ◌==◌, Bool, true, false, List, [], ◌∷◌, ◌++◌, ◌⊎◌, suc, Some, None, if◌then◌else◌, cond, length, filter, drop, refl, sym, ◌∙◌, ap, subst, inl, inr, arith, append_assoc}
use Rattle.std.specs.Prelude.{flat_map}
use Rattle.std.specs.List.{AllByRecursion, slice_get, cons_option}
use Rattle.std.specs.declared.snapshot.Snapshot.{Snapshot}
use Rattle.std.proofs.lemmas.Bool.{eq-eqb, eqb-true}
use Rattle.std.proofs.lemmas.List.{append-nil, length-take, length-map}
use Rattle.std.proofs.lemmas.List.Concat.{flat_map-append}
use Rattle.std.proofs.lemmas.List.Elements.{filter-append}
use Rattle.std.proofs.lemmas.Option.{slice_get_within}
use Rattle.mely_event.specs.declared.colour.Colour.{Colour}
use Rattle.mely_history.specs.declared.setup.Setup.{Setup}
use Rattle.mely_history.specs.Setup.{shape_of}
use Rattle.mely_history.specs.Legal.{IsLegal}
use Rattle.mely_history.proofs.LegalAccountLemmas.{same_colour}
use Rattle.mely_note.specs.declared.note.Note.{Note}
use Rattle.mely_note.specs.declared.note.Note.TheVariants.{Reg, Take, Fin, Steal}
use Rattle.mely_note.specs.declared.stamp.Stamp.{Stamp}
use Rattle.mely_note.specs.Notes.{Rise, entries_of, loaded_of, latest, stamp_of}
use Rattle.mely_note.proofs.StampLemmas.{latest-there, latest-filter, latest-front, latest-back}
use Rattle.mely_tally.specs.Account.{HandlerRun}
use Rattle.mely_chain.specs.Told.{finished_by}
use Rattle.mely_chain.proofs.MergeNotesLemmas.{over_notes}
use Rattle.mely_chain.proofs.MergeMadeLemmas.{all-append, finishers_below}
use Rattle.mely_cause.proofs.AmongLemmas.{Among, all_at, all_from, among_place, among_take, among_drop, cut_at, get_either, get_front, joined_among, map_among, passes_among}
use Rattle.mely_cause.proofs.AscendLemmas.{Pairs, Ascends, Below, joined_ascend, pairs-append, pairs-drop, pairs-take}
use Rattle.mely_cause.proofs.TimedRuns.{TimedRun, TurnWas, is_reg_on, regs_on}
use Rattle.mely_cause.proofs.TimedChainLemmas.{few, timed_chain, timed_piece, timed_with, timed-push, turn_timed}

-- where no element passes a test, none is kept
pub none_passes : {X : Type 0} (p : X → Bool) (xs : List X) → ((before after : List X) (x : X) → xs ≡ before ++ x ∷ after → p x ≡ true → ⊥) → filter p xs ≡ []
none_passes {X} p xs none = empty (filter p xs) refl where
  empty : (kept : List X) → filter p xs ≡ kept → kept ≡ []
  empty [] is = refl
  empty (x ∷ kept) is =
      let first : Among x (x ∷ kept) = inl refl in
      let there = passes_among p xs x (subst (λ l. Among x l) (sym is) first) in
      let cut = cut_at xs x there.0 in
      absurd (none cut.0 cut.1 x cut.2 there.1)

module _ {S P : Type 0} where
  -- stamps that rise ascend
  pub rise_ascends : (notes : List (Note S P)) → Rise notes → Ascends stamp_of notes
  rise_ascends [] rise = tt
  rise_ascends (note ∷ notes) rise = (
    all_from (λ later. stamp_of note < stamp_of later) notes (λ later there.
        let cut = cut_at notes later there in
        let above = rise (note ∷ cut.0) cut.1 later (ap (λ l. note ∷ l) cut.2) in
        omega (arith, above)),
    rise_ascends notes (λ before after later is. let above = rise (note ∷ before) after later (ap (λ l. note ∷ l) is) in omega (arith, above)),
  )

  -- no note among others is later than their latest
  pub below_latest : (notes : List (Note S P)) (note : Note S P) → Among note notes → stamp_of note ≤ latest notes
  below_latest notes note there =
      let cut = cut_at notes note there in
      let low = latest-there cut.0 note cut.1 in
      let is = ap (λ l. latest l) cut.2 in
      omega (arith, low, is)

  -- as many registrations as events that were loaded
  pub regs-length : (c : Colour) (notes : List (Note S P)) → length (regs_on c notes) ≡ length (loaded_of notes c)
  regs-length c [] = refl
  regs-length c (Take d core count at ∷ notes) = regs-length c notes
  regs-length c (Fin d core count state at ∷ notes) = regs-length c notes
  regs-length c (Steal d from to at ∷ notes) = regs-length c notes
  regs-length c (Reg d event load by at ∷ notes) = for (regs-length c notes) (d.0 == c.0) where
    for : length (regs_on c notes) ≡ length (loaded_of notes c) → (own : Bool) → length (cond own (Reg d event load by at ∷ regs_on c notes) (regs_on c notes)) ≡ length (cons_option (if own then Some (event, load.value) else None) (loaded_of notes c))
    for rest true = ap (λ k. suc k) rest
    for rest false = rest

  -- the notes of what timed runs put
  abbrev pub puts_notes : List (ℕ × TimedRun S P) → List (Note S P)
  puts_notes runs = flat_map (λ each. each.1.regs) runs

  puts-with : (n : ℕ) (runs : List (TimedRun S P)) → puts_notes (timed_with n runs) ≡ flat_map (λ r. r.regs) runs
  puts-with n [] = refl
  puts-with n (r ∷ runs) = ap (λ l. r.regs ++ l) (puts-with n runs)

  module _ (c : Colour) where
    -- whether a note finishes a turn of the colour
    abbrev is_fin : Note S P → Bool
    is_fin (Reg d event load by at) = false
    is_fin (Take d core count at) = false
    is_fin (Fin d core count state at) = d.0 == c.0
    is_fin (Steal d from to at) = false

    abbrev last_fin : List (Note S P) → ℕ
    last_fin notes = latest (filter is_fin notes)

    is_of : (note : Note S P) → is_fin note ≡ true → (core many : ℕ) × (state : Snapshot S) × (at : Snapshot Stamp) × (note ≡ Fin c core many state at)
    is_of (Reg d event load by at) is = absurd (cc)
    is_of (Take d core count at) is = absurd (cc)
    is_of (Steal d from to at) is = absurd (cc)
    is_of (Fin d core count state at) is = (core, count, state, at, ap (λ e. Fin e core count state at) (same_colour d c (eqb-true d.0 c.0 is)))

    fins-push : (done : List (Note S P)) (note : Note S P) → filter is_fin (done ++ note ∷ []) ≡ filter is_fin done ++ filter is_fin (note ∷ [])
    fins-push done note = filter-append is_fin done (note ∷ [])

    module _ (timed : ℕ → List (TimedRun S P)) (setup : Setup) (notes : List (Note S P)) (legal : IsLegal setup (entries_of notes)) (rise : Rise notes)
        (turn : (done after : List (Note S P)) (n count : ℕ) (state : Snapshot S) (at : Snapshot Stamp) → notes ≡ done ++ Fin c n count state at ∷ after → n < (shape_of setup).cores → TurnWas n c done count at.value.number (turn_timed c timed n done count))
        (each : (n : ℕ) → n < (shape_of setup).cores → AllByRecursion (λ r. Ascends stamp_of r.regs) (timed n))
        (across : (n : ℕ) → n < (shape_of setup).cores → Pairs (Below stamp_of (λ (r : TimedRun S P). r.regs)) (timed n))
        (later : (n : ℕ) → n < (shape_of setup).cores → AllByRecursion (λ r. AllByRecursion (λ m. r.at < stamp_of m) r.regs) (timed n)) where
      no_runs : ℕ → List (HandlerRun S P)
      no_runs n = []

      -- so far the stamps of what the runs put ascend, and are below that of the last finish
      record Ordered (done : List (Note S P)) : Type 0 where
        ascend : Ascends stamp_of (puts_notes (timed_chain c timed done))
        below : AllByRecursion (λ m. stamp_of m < last_fin done) (puts_notes (timed_chain c timed done))

      -- a run's event was registered before the run
      abbrev pub Born : ℕ → TimedRun S P → Type 0
      Born j r = (reg : Note S P) × (slice_get (regs_on c notes) j ≡ Some reg) × (stamp_of reg ≤ r.at)

      abbrev AllBorn : List (Note S P) → Type 0
      AllBorn done = (j : ℕ) (run : ℕ × TimedRun S P) → slice_get (timed_chain c timed done) j ≡ Some run → Born j run.1

      -- a turn of the colour, which the next note finishes
      module _ (done after : List (Note S P)) (n count : ℕ) (state : Snapshot S) (at : Snapshot Stamp) (is : notes ≡ done ++ Fin c n count state at ∷ after) where
        low : n < (shape_of setup).cores
        low = finishers_below setup c no_runs notes legal done after c n count state at is

        was : TurnWas n c done count at.value.number (turn_timed c timed n done count)
        was = turn done after n count state at is low

        abbrev runs : List (TimedRun S P)
        runs = turn_timed c timed n done count

        in_core : (r : TimedRun S P) → Among r runs → Among r (timed n)
        in_core r there = among_drop (finished_by n done c) (timed n) r (among_take count (drop (finished_by n done c) (timed n)) r there)

        abbrev behind : List (Note S P)
        behind = was.since ++ Fin c n count state at ∷ after

        taken_at : notes ≡ was.before ++ Take c n count was.taken ∷ behind
        taken_at = is ∙ ap (λ l. l ++ Fin c n count state at ∷ after) was.is ∙ append_assoc was.before (Take c n count was.taken ∷ was.since) (Fin c n count state at ∷ after)

        taken_above : latest was.before < was.taken.value.number
        taken_above = rise was.before behind (Take c n count was.taken) taken_at

        none_since : filter is_fin was.since ≡ []
        none_since = none_passes is_fin was.since (λ a b note cut fin. let form = is_of note fin in was.quiet a b form.0 form.1 form.2 form.3 (cut ∙ ap (λ m. a ++ m ∷ b) form.4))

        fin_before : last_fin done ≤ latest was.before
        fin_before =
            let cut : filter is_fin done ≡ filter is_fin was.before = ap (λ l. filter is_fin l) was.is ∙ filter-append is_fin was.before (Take c n count was.taken ∷ was.since) ∙ ap (λ l. filter is_fin was.before ++ l) none_since ∙ append-nil (filter is_fin was.before) in
            let same = ap (λ l. latest l) cut in
            let less = latest-filter is_fin was.before in
            omega (arith, same, less)

        -- what its runs put is registered after its take and before its finish
        new_after : (m : Note S P) → Among m (flat_map (λ (r : TimedRun S P). r.regs) runs) → last_fin done < stamp_of m
        new_after m there =
            let from = joined_among (λ (r : TimedRun S P). r.regs) runs m there in
            let begun = all_at (λ r. was.taken.value.number ≤ r.at) runs from.0 was.behind from.1 in
            let put = all_at (λ m. from.0.at < stamp_of m) from.0.regs m (all_at (λ r. AllByRecursion (λ m. r.at < stamp_of m) r.regs) (timed n) from.0 (later n low) (in_core from.0 from.1)) from.2 in
            let above = taken_above in
            let fin = fin_before in
            omega (arith, begun, put, above, fin)

        new_before : (m : Note S P) → Among m (flat_map (λ (r : TimedRun S P). r.regs) runs) → stamp_of m < at.value.number
        new_before m there =
            let from = joined_among (λ (r : TimedRun S P). r.regs) runs m there in
            all_at (λ m. stamp_of m < at.value.number) from.0.regs m (all_at (λ r. AllByRecursion (λ m. stamp_of m < at.value.number) r.regs) runs from.0 was.ahead from.1) from.2

        new_ascends : Ascends stamp_of (flat_map (λ (r : TimedRun S P). r.regs) runs)
        new_ascends = joined_ascend stamp_of (λ (r : TimedRun S P). r.regs) runs
            (all_from (λ r. Ascends stamp_of r.regs) runs (λ r there. all_at (λ r. Ascends stamp_of r.regs) (timed n) r (each n low) (in_core r there)))
            (pairs-take (Below stamp_of (λ (r : TimedRun S P). r.regs)) count (drop (finished_by n done c) (timed n)) (pairs-drop (Below stamp_of (λ (r : TimedRun S P). r.regs)) (finished_by n done c) (timed n) (across n low)))

        fins-more : last_fin done ≤ last_fin (done ++ Fin c n count state at ∷ [])
        fins-more =
            let cut = ap (λ l. latest l) (fins-push done (Fin c n count state at)) in
            let less = latest-front (filter is_fin done) (filter is_fin (Fin c n count state at ∷ [])) in
            omega (arith, cut, less)

        fin_own : filter is_fin (Fin c n count state at ∷ []) ≡ Fin c n count state at ∷ []
        fin_own = ap (λ b. cond b (Fin c n count state at ∷ []) []) (eq-eqb c.0 c.0 refl)

        fin-last : at.value.number ≤ last_fin (done ++ Fin c n count state at ∷ [])
        fin-last =
            let cut = ap (λ l. latest l) (fins-push done (Fin c n count state at)) in
            let less = latest-back (filter is_fin done) (filter is_fin (Fin c n count state at ∷ [])) in
            let own = ap (λ l. latest l) fin_own in
            omega (arith, cut, less, own)

        -- after the turn
        turn_ordered : Ordered done → timed_chain c timed (done ++ Fin c n count state at ∷ []) ≡ timed_chain c timed done ++ timed_with n runs → Ordered (done ++ Fin c n count state at ∷ [])
        turn_ordered so more =
            let old = puts_notes (timed_chain c timed done) in
            let new = flat_map (λ (r : TimedRun S P). r.regs) runs in
            let all : puts_notes (timed_chain c timed (done ++ Fin c n count state at ∷ [])) ≡ old ++ new = ap (λ l. puts_notes l) more ∙ flat_map-append (λ (each : ℕ × TimedRun S P). each.1.regs) (timed_chain c timed done) (timed_with n runs) ∙ ap (λ l. old ++ l) (puts-with n runs) in
            record {
              ascend = subst (λ l. Ascends stamp_of l) (sym all) (pairs-append (λ a b. stamp_of a < stamp_of b) old new so.ascend new_ascends (λ m k here there.
                  let one = all_at (λ m. stamp_of m < last_fin done) old m so.below here in
                  let two = new_after k there in
                  omega (arith, one, two)));
              below = subst (λ l. AllByRecursion (λ m. stamp_of m < last_fin (done ++ Fin c n count state at ∷ [])) l) (sym all) (all-append (λ m. stamp_of m < last_fin (done ++ Fin c n count state at ∷ [])) old new
                  (all_from (λ m. stamp_of m < last_fin (done ++ Fin c n count state at ∷ [])) old (λ m here.
                  let one = all_at (λ m. stamp_of m < last_fin done) old m so.below here in
                  let two = fins-more in
                  omega (arith, one, two)))
                  (all_from (λ m. stamp_of m < last_fin (done ++ Fin c n count state at ∷ [])) new (λ m there.
                  let one = new_before m there in
                  let two = fin-last in
                  omega (arith, one, two))));
            }

        -- the events of the turn were registered before its take
        turn_born : (k : ℕ) (run : ℕ × TimedRun S P) → slice_get (timed_with n runs) k ≡ Some run → Born (length (timed_chain c timed done) + k) run.1
        turn_born k run there =
            let from = map_among (λ r. (n, r)) runs run (among_place (timed_with n runs) k run there) in
            let within = slice_get_within (timed_with n runs) k run there in
            let mapped = length-map {B = ℕ × TimedRun S P} runs (λ r. (n, r)) in
            let taken = length-take count (drop (finished_by n done c) (timed n)) in
            let past = few c timed done in
            let there = was.registered in
            let many = regs-length c was.before in
            let cut : regs_on c notes ≡ regs_on c was.before ++ regs_on c behind = ap (λ l. regs_on c l) taken_at ∙ filter-append (is_reg_on c) was.before (Take c n count was.taken ∷ behind) in
            let one = get_front (regs_on c was.before) (regs_on c behind) (length (timed_chain c timed done) + k) (omega (arith, within, mapped, taken, past, there, many)) in
            let early = below_latest was.before one.0 (passes_among (is_reg_on c) was.before one.0 one.2).0 in
            let begun : was.taken.value.number ≤ run.1.at = subst (λ (r : ℕ × TimedRun S P). was.taken.value.number ≤ r.1.at) (sym from.2) (all_at (λ r. was.taken.value.number ≤ r.at) runs from.0 was.behind from.1) in
            let above = taken_above in
            (one.0, ap (λ l. slice_get l (length (timed_chain c timed done) + k)) cut ∙ one.1, omega (arith, early, begun, above))

        turn_all_born : AllBorn done → timed_chain c timed (done ++ Fin c n count state at ∷ []) ≡ timed_chain c timed done ++ timed_with n runs → AllBorn (done ++ Fin c n count state at ∷ [])
        turn_all_born so more j run there = for (get_either (timed_chain c timed done) (timed_with n runs) j run (ap (λ l. slice_get l j) (sym more) ∙ there)) where
          for : (slice_get (timed_chain c timed done) j ≡ Some run) ⊎ ((k : ℕ) × (j ≡ length (timed_chain c timed done) + k) × (slice_get (timed_with n runs) k ≡ Some run)) → Born j run.1
          for (inl old) = so j run old
          for (inr new) = subst (λ i. Born i run.1) (sym new.1) (turn_born new.0 run new.2)

      abbrev Both : List (Note S P) → Type 0
      Both done = Ordered done × AllBorn done

      quiet_step : (done : List (Note S P)) (note : Note S P) → timed_piece c timed done note ≡ [] → Both done → Both (done ++ note ∷ [])
      quiet_step done note none so =
          let same : timed_chain c timed (done ++ note ∷ []) ≡ timed_chain c timed done = timed-push c timed done note ∙ ap (λ l. timed_chain c timed done ++ l) none ∙ append-nil (timed_chain c timed done) in
          let cut = ap (λ l. latest l) (fins-push done note) in
          let less = latest-front (filter is_fin done) (filter is_fin (note ∷ [])) in (
            record {
              ascend = subst (λ l. Ascends stamp_of (puts_notes l)) (sym same) so.0.ascend;
              below = subst (λ l. AllByRecursion (λ m. stamp_of m < last_fin (done ++ note ∷ [])) (puts_notes l)) (sym same) (all_from (λ m. stamp_of m < last_fin (done ++ note ∷ [])) (puts_notes (timed_chain c timed done)) (λ m here.
                  let one = all_at (λ m. stamp_of m < last_fin done) (puts_notes (timed_chain c timed done)) m so.0.below here in
                  omega (arith, one, cut, less)));
            },
            λ j run there. so.1 j run (ap (λ l. slice_get l j) (sym same) ∙ there),
          )

      step : (done after : List (Note S P)) (note : Note S P) → notes ≡ done ++ note ∷ after → Both done → Both (done ++ note ∷ [])
      step done after (Reg d event load by at) is so = quiet_step done (Reg d event load by at) refl so
      step done after (Take d core count at) is so = quiet_step done (Take d core count at) refl so
      step done after (Steal d from to at) is so = quiet_step done (Steal d from to at) refl so
      step done after (Fin d core count state at) is so = for (d.0 == c.0) refl where
        for : (own : Bool) → (d.0 == c.0) ≡ own → Both (done ++ Fin d core count state at ∷ [])
        for true own =
            let same : d ≡ c = same_colour d c (eqb-true d.0 c.0 own) in
            let here : notes ≡ done ++ Fin c core count state at ∷ after = is ∙ ap (λ e. done ++ Fin e core count state at ∷ after) same in
            let part : timed_piece c timed done (Fin d core count state at) ≡ timed_with core (turn_timed c timed core done count) = rw own refl in
            let more : timed_chain c timed (done ++ Fin c core count state at ∷ []) ≡ timed_chain c timed done ++ timed_with core (turn_timed c timed core done count) = ap (λ e. timed_chain c timed (done ++ Fin e core count state at ∷ [])) (sym same) ∙ timed-push c timed done (Fin d core count state at) ∙ ap (λ l. timed_chain c timed done ++ l) part in
            subst (λ e. Both (done ++ Fin e core count state at ∷ [])) (sym same) (turn_ordered done after core count state at here so.0 more, turn_all_born done after core count state at here so.1 more)
        for false other = quiet_step done (Fin d core count state at) (rw other refl) so

      none_yet : Both []
      none_yet = (record { ascend = tt; below = tt }, λ j run there. absurd (cc))

      both : Both notes
      both = over_notes notes Both none_yet step

      pub chain_ascends : Ascends stamp_of (puts_notes (timed_chain c timed notes))
      chain_ascends = both.0.ascend

      pub all_born : (j : ℕ) (run : ℕ × TimedRun S P) → slice_get (timed_chain c timed notes) j ≡ Some run → Born j run.1
      all_born = both.1
