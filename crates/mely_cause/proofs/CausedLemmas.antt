-- What was registered on each colour was put by the first event or by the runs, in their order.
use Rattle.std.proofs.Common.{◌≡◌, ℕ, ◌<◌, ◌==◌, Bool, true, false, List, [], ◌∷◌, ◌++◌, Option, Some, None, if◌then◌else◌, cond, map, filter, drop, refl, sym, ◌∙◌, ap, ap₂, subst, arith}
use Rattle.std.specs.Prelude.{filter_map}
use Rattle.std.specs.List.{AllByRecursion, slice_get, cons_option}
use Rattle.std.specs.Option.{option_map}
use Rattle.std.proofs.lemmas.Bool.{eq-eqb, eqb-true}
use Rattle.std.proofs.lemmas.List.Elements.{filter_map-append}
use Rattle.std.proofs.lemmas.Option.{same_Some, slice_get-map}
use Rattle.mely_event.specs.declared.colour.Colour.{Colour}
use Rattle.mely_event.specs.declared.event.Event.{Event}
use Rattle.mely_history.specs.declared.setup.Setup.{Setup}
use Rattle.mely_history.specs.Setup.{shape_of}
use Rattle.mely_history.specs.Legal.{IsLegal}
use Rattle.mely_history.proofs.LegalAccountLemmas.{same_colour}
use Rattle.mely_note.specs.declared.note.Note.{Note}
use Rattle.mely_note.specs.declared.note.Note.TheVariants.{Reg, Take, Fin, Steal}
use Rattle.mely_note.specs.Notes.{Rise, entries_of, loaded_of, load_on, noted_by, notes_by, stamp_of}
use Rattle.mely_tally.specs.Account.{HandlerRun}
use Rattle.mely_chain.specs.Runs.{puts_on, puts_of, put_on}
use Rattle.mely_chain.specs.Told.{finished_by}
use Rattle.mely_cause.specs.Causes.{AreCaused, Registration, put_first, put_by_colour, put_by_run}
use Rattle.mely_chain.proofs.MergeChainLemmas.{without_core}
use Rattle.mely_cause.proofs.AmongLemmas.{Among, all_at, all_from as every, among_joined, among_passes, among_place, among_map, get_map, joined_among, map_among, passes_among, place_of}
use Rattle.mely_cause.proofs.AscendLemmas.{Pairs, Ascends, each_ascends, pairs-filter, pairs-map, pairs_at, pairs_mapped, same_elements}
use Rattle.mely_cause.proofs.TimedRuns.{AreOf, CoreTimed, TimedRun, is_reg_on, regs_on, timed_on}
use Rattle.mely_cause.proofs.TimedChainLemmas.{run_of}
use Rattle.mely_cause.proofs.TimedOrderLemmas.{puts_notes, rise_ascends}
use Rattle.mely_cause.proofs.CauseLemmas.{CauseIs, HasPut, IsFrom, chain_on, colour_ascends, event_before, listed, only_cause, own, put_there}

module _ {S P : Type 0} (c : Colour) where
  -- the events of notes are those of the registrations among them
  pub regs-loads : (notes : List (Note S P)) → filter_map (load_on c) (regs_on c notes) ≡ loaded_of notes c
  regs-loads [] = refl
  regs-loads (Take d core count at ∷ notes) = regs-loads notes
  regs-loads (Fin d core count state at ∷ notes) = regs-loads notes
  regs-loads (Steal d from to at ∷ notes) = regs-loads notes
  regs-loads (Reg d event load by at ∷ notes) = for (regs-loads notes) (d.0 == c.0) refl where
    for : filter_map (load_on c) (regs_on c notes) ≡ loaded_of notes c → (own : Bool) → (d.0 == c.0) ≡ own → filter_map (load_on c) (cond own (Reg d event load by at ∷ regs_on c notes) (regs_on c notes)) ≡ cons_option (if own then Some (event, load.value) else None) (loaded_of notes c)
    for rest true is = ap₂ (λ o l. cons_option o l) (ap (λ b. if b then Some (event, load.value) else None) is) rest
    for rest false is = rest

  -- those of the notes of what a run put are what it put
  pub puts-loads : (notes : List (Note S P)) (puts : List (Colour × Event × Option P)) → AreOf notes puts → loaded_of notes c ≡ puts_on c puts
  puts-loads [] [] are = refl
  puts-loads [] (put ∷ puts) are = elim are [ ]
  puts-loads (Reg d event load by at ∷ notes) [] are = elim are [ ]
  puts-loads (Take d core count at ∷ notes) puts are = elim are [ ]
  puts-loads (Fin d core count state at ∷ notes) puts are = elim are [ ]
  puts-loads (Steal d from to at ∷ notes) puts are = elim are [ ]
  puts-loads (Reg d event load by at ∷ notes) (put ∷ puts) are =
      let one : (if d.0 == c.0 then Some (event, load.value) else None) ≡ put_on c put = ap (λ e. if e.0 == c.0 then Some (event, load.value) else None) are.0 ∙ ap₂ (λ e l. if put.0.0 == c.0 then Some (e, l) else None) are.1 are.2 in
      ap₂ (λ o l. cons_option o l) one (puts-loads notes puts are.3)

  -- those of the notes of what runs put are what they put
  pub chain-loads : (runs : List (ℕ × TimedRun S P)) → AllByRecursion (λ run. AreOf run.1.regs run.1.run.puts) runs → loaded_of (puts_notes runs) c ≡ puts_on c (puts_of (without_core (map run_of runs)))
  chain-loads [] all = refl
  chain-loads (run ∷ runs) all =
      filter_map-append (load_on c) run.1.regs (puts_notes runs)
      ∙ ap₂ (λ k l. k ++ l) (puts-loads run.1.regs run.1.run.puts all.0) (chain-loads runs all.1)
      ∙ sym (filter_map-append (put_on c) run.1.run.puts (puts_of (without_core (map run_of runs))))

module _ {S P : Type 0} (setup : Setup) (notes : Colour → List (Note S P)) (timed : ℕ → List (TimedRun S P)) (runs : ℕ → List (HandlerRun S P))
    (told : (n : ℕ) → n < (shape_of setup).cores → CoreTimed n notes (runs n) (timed n))
    (legal : (c : Colour) → IsLegal setup (entries_of (notes c))) (rise : (c : Colour) → Rise (notes c))
    (finished : (c : Colour) (n : ℕ) → n < (shape_of setup).cores → drop (finished_by n (notes c) c) (timed_on c (timed n)) ≡ [])
    (no_other : (c : Colour) (n : ℕ) → (shape_of setup).cores < n → notes_by n (notes c) ≡ []) where
  abbrev pub chain : Colour → List (ℕ × TimedRun S P)
  chain d = chain_on setup notes timed runs told legal rise d

  abbrev IsOf : Colour → Note S P → Registration P → Type 0
  IsOf c note one = IsFrom setup notes timed runs told legal rise finished no_other c note one

  abbrev pub regs_listed : Colour → List (Note S P × Registration P)
  regs_listed c = (listed setup notes timed runs told legal rise finished no_other c).0

  -- the registrations of a colour
  abbrev pub came : Colour → List (Registration P)
  came c = map (λ p. p.1) (regs_listed c)

  notes_listed : (c : Colour) → map (λ p. p.0) (regs_listed c) ≡ regs_on c (notes c)
  notes_listed c = (listed setup notes timed runs told legal rise finished no_other c).1

  all_from : (c : Colour) → AllByRecursion (λ p. IsOf c p.0 p.1) (regs_listed c)
  all_from c = (listed setup notes timed runs told legal rise finished no_other c).2

  regs_ascend : (c : Colour) → Ascends stamp_of (regs_on c (notes c))
  regs_ascend c = pairs-filter (λ a b. stamp_of a < stamp_of b) (is_reg_on c) (notes c) (rise_ascends (notes c) (rise c))

  listed_ascend : (c : Colour) → Pairs (λ p q. stamp_of p.0 < stamp_of q.0) (regs_listed c)
  listed_ascend c = pairs_mapped (λ a b. stamp_of a < stamp_of b) (λ (p : Note S P × Registration P). p.0) (regs_listed c) (subst (λ l. Ascends stamp_of l) (sym (notes_listed c)) (regs_ascend c))

  -- the events of some of them are those of their notes
  events_of_all : (c : Colour) (all : List (Note S P × Registration P)) → AllByRecursion (λ p. IsOf c p.0 p.1) all → map (λ one. one.event) (map (λ p. p.1) all) ≡ filter_map (load_on c) (map (λ p. p.0) all)
  events_of_all c [] is = refl
  events_of_all c (p ∷ all) is = ap₂ (λ o l. cons_option o l) (sym is.0.event) (events_of_all c all is.1)

  module _ (c : Colour) (put : Registration P → Option (Event × Option P)) (test : Registration P → Bool) (tests : (one : Registration P) → put one ≡ (if test one then Some one.event else None)) where
    kept : (all : List (Note S P × Registration P)) → AllByRecursion (λ p. IsOf c p.0 p.1) all → filter_map put (map (λ p. p.1) all) ≡ filter_map (load_on c) (map (λ p. p.0) (filter (λ p. test p.1) all))
    kept [] is = refl
    kept (p ∷ all) is = for (kept all is.1) (test p.1) refl where
      for : filter_map put (map (λ p. p.1) all) ≡ filter_map (load_on c) (map (λ p. p.0) (filter (λ p. test p.1) all)) → (own : Bool) → test p.1 ≡ own → cons_option (put p.1) (filter_map put (map (λ p. p.1) all)) ≡ filter_map (load_on c) (map (λ p. p.0) (cond own (p ∷ filter (λ p. test p.1) all) (filter (λ p. test p.1) all)))
      for rest true own = ap₂ (λ o l. cons_option o l) (tests p.1 ∙ ap (λ b. if b then Some p.1.event else None) own ∙ sym is.0.event) rest
      for rest false own = ap₂ (λ o l. cons_option o l) (tests p.1 ∙ ap (λ b. if b then Some p.1.event else None) own) rest

    -- where the notes of those that pass a test are these, their events are theirs
    pub those : (only : List (Note S P)) → Ascends stamp_of only
        → ((note : Note S P) → Among note only → Among note (regs_on c (notes c)) × ((one : Registration P) → IsOf c note one → test one ≡ true))
        → ((note : Note S P) (one : Registration P) → Among note (regs_on c (notes c)) → IsOf c note one → test one ≡ true → Among note only)
        → filter_map put (came c) ≡ filter_map (load_on c) only
    those only ascend within without = kept (regs_listed c) (all_from c) ∙ ap (filter_map (load_on c)) (same_elements stamp_of kept_notes only kept_ascend ascend kept_there there_kept) where
      kept_notes : List (Note S P)
      kept_notes = map (λ p. p.0) (filter (λ p. test p.1) (regs_listed c))

      kept_ascend : Ascends stamp_of kept_notes
      kept_ascend = pairs-map (λ a b. stamp_of a < stamp_of b) (λ (p : Note S P × Registration P). p.0) (filter (λ p. test p.1) (regs_listed c)) (pairs-filter (λ p q. stamp_of p.0 < stamp_of q.0) (λ p. test p.1) (regs_listed c) (listed_ascend c))

      kept_there : (note : Note S P) → Among note kept_notes → Among note only
      kept_there note there =
          let from = map_among (λ (p : Note S P × Registration P). p.0) (filter (λ p. test p.1) (regs_listed c)) note there in
          let p = from.0 in
          let inside = passes_among (λ (p : Note S P × Registration P). test p.1) (regs_listed c) p from.1 in
          let is = all_at (λ p. IsOf c p.0 p.1) (regs_listed c) p (all_from c) inside.0 in
          let registered : Among p.0 (regs_on c (notes c)) = subst (λ l. Among p.0 l) (notes_listed c) (among_map (λ (p : Note S P × Registration P). p.0) (regs_listed c) p inside.0) in
          subst (λ m. Among m only) (sym from.2) (without p.0 p.1 registered is inside.1)

      there_kept : (note : Note S P) → Among note only → Among note kept_notes
      there_kept note there =
          let has = within note there in
          let from = map_among (λ (p : Note S P × Registration P). p.0) (regs_listed c) note (subst (λ l. Among note l) (sym (notes_listed c)) has.0) in
          let p = from.0 in
          let is = all_at (λ p. IsOf c p.0 p.1) (regs_listed c) p (all_from c) from.1 in
          let passes = has.1 p.1 (subst (λ m. IsOf c m p.1) (sym from.2) is) in
          subst (λ m. Among m kept_notes) (sym from.2) (among_map (λ (p : Note S P × Registration P). p.0) (filter (λ p. test p.1) (regs_listed c)) p (among_passes (λ (p : Note S P × Registration P). test p.1) (regs_listed c) p from.1 passes))

  abbrev CauseOf : Note S P → Option (Colour × ℕ) → Type 0
  CauseOf note cause = CauseIs setup notes timed runs told legal rise note cause

  -- what a run of a colour registered on a colour is there, by its core
  put_here : (c d : Colour) (n : ℕ) (r : TimedRun S P) (note : Note S P) → Among (n, r) (chain d) → Among note (regs_on c r.regs) → Among note (regs_on c (notes c)) × (noted_by note ≡ n)
  put_here c d n r note there put =
      let by_core = passes_among (is_reg_on c) (notes_by n (notes c)) note (put_there setup notes timed runs told legal rise c d n r note there put) in
      let in_all = passes_among (λ m. noted_by m == n) (notes c) note by_core.0 in
      (among_passes (is_reg_on c) (notes c) note in_all.0 by_core.1, eqb-true (noted_by note) n in_all.1)

  -- the registrations by the pass behind the cores
  module _ (c : Colour) where
    abbrev behind : List (Note S P)
    behind = regs_on c (notes_by (shape_of setup).cores (notes c))

    abbrev by_nobody : Option (Colour × ℕ) → Bool
    by_nobody None = true
    by_nobody (Some run) = false

    first_tests : (one : Registration P) → put_first one ≡ (if by_nobody one.cause then Some one.event else None)
    first_tests one = for one.event one.at one.cause where
      for : (event : Event × Option P) (at : ℕ) (cause : Option (Colour × ℕ)) → put_first (record { event = event; at = at; cause = cause }) ≡ (if by_nobody cause then Some event else None)
      for event at None = refl
      for event at (Some run) = refl

    first_ascend : Ascends stamp_of behind
    first_ascend = pairs-filter (λ a b. stamp_of a < stamp_of b) (is_reg_on c) (notes_by (shape_of setup).cores (notes c)) (pairs-filter (λ a b. stamp_of a < stamp_of b) (λ m. noted_by m == (shape_of setup).cores) (notes c) (rise_ascends (notes c) (rise c)))

    first_within : (note : Note S P) → Among note behind → Among note (regs_on c (notes c)) × ((one : Registration P) → IsOf c note one → by_nobody one.cause ≡ true)
    first_within note there =
        let registers = passes_among (is_reg_on c) (notes_by (shape_of setup).cores (notes c)) note there in
        let by = passes_among (λ m. noted_by m == (shape_of setup).cores) (notes c) note registers.0 in
        (among_passes (is_reg_on c) (notes c) note by.0 registers.1, λ one is. for (eqb-true (noted_by note) (shape_of setup).cores by.1) one.cause is.cause) where
          for : noted_by note ≡ (shape_of setup).cores → (cause : Option (Colour × ℕ)) → CauseOf note cause → by_nobody cause ≡ true
          for is None so = refl
          for is (Some run) has =
              let mine = own setup notes timed runs told legal rise run.0 has.core has.run (among_place (chain run.0) run.1 (has.core, has.run) has.is) in
              let low = mine.low in
              let by = has.by in
              absurd (omega (arith, low, by, is))

    first_without : (note : Note S P) (one : Registration P) → Among note (regs_on c (notes c)) → IsOf c note one → by_nobody one.cause ≡ true → Among note behind
    first_without note one there is passes =
        let registers = passes_among (is_reg_on c) (notes c) note there in
        let by = for one.cause is.cause passes in
        among_passes (is_reg_on c) (notes_by (shape_of setup).cores (notes c)) note (among_passes (λ m. noted_by m == (shape_of setup).cores) (notes c) note registers.0 (eq-eqb (noted_by note) (shape_of setup).cores by)) registers.1 where
          for : (cause : Option (Colour × ℕ)) → CauseOf note cause → by_nobody cause ≡ true → noted_by note ≡ (shape_of setup).cores
          for None is passes = is
          for (Some run) has passes = absurd (cc)

    pub first_put : filter_map put_first (came c) ≡ loaded_of (notes_by (shape_of setup).cores (notes c)) c
    first_put = those c put_first (λ one. by_nobody one.cause) first_tests behind first_ascend first_within first_without ∙ regs-loads c (notes_by (shape_of setup).cores (notes c))

  -- the registrations by the runs of a colour
  module _ (c d : Colour) where
    abbrev colour_puts : List (Note S P)
    colour_puts = regs_on c (puts_notes (chain d))

    abbrev by_colour : Option (Colour × ℕ) → Bool
    by_colour None = false
    by_colour (Some run) = run.0.0 == d.0

    colour_tests : (one : Registration P) → put_by_colour d one ≡ (if by_colour one.cause then Some one.event else None)
    colour_tests one = for one.event one.at one.cause where
      for : (event : Event × Option P) (at : ℕ) (cause : Option (Colour × ℕ)) → put_by_colour d (record { event = event; at = at; cause = cause }) ≡ (if by_colour cause then Some event else None)
      for event at None = refl
      for event at (Some run) = refl

    colour_ascend : Ascends stamp_of colour_puts
    colour_ascend = pairs-filter (λ a b. stamp_of a < stamp_of b) (is_reg_on c) (puts_notes (chain d)) (colour_ascends setup notes timed runs told legal rise d)

    colour_within : (note : Note S P) → Among note colour_puts → Among note (regs_on c (notes c)) × ((one : Registration P) → IsOf c note one → by_colour one.cause ≡ true)
    colour_within note there =
        let registers = passes_among (is_reg_on c) (puts_notes (chain d)) note there in
        let from = joined_among (λ (run : ℕ × TimedRun S P). run.1.regs) (chain d) note registers.0 in
        let here = put_here c d from.0.0 from.0.1 note from.1 (among_passes (is_reg_on c) from.0.1.regs note from.2 registers.1) in
        let place = place_of (chain d) from.0 from.1 in
        (here.0, λ one is. ap by_colour (only_cause setup notes timed runs told legal rise d place.0 from.0.0 from.0.1 note place.1 from.2 here.1 one.cause is.cause) ∙ eq-eqb d.0 d.0 refl)

    colour_without : (note : Note S P) (one : Registration P) → Among note (regs_on c (notes c)) → IsOf c note one → by_colour one.cause ≡ true → Among note colour_puts
    colour_without note one there is passes = among_passes (is_reg_on c) (puts_notes (chain d)) note (for one.cause is.cause passes) (passes_among (is_reg_on c) (notes c) note there).1 where
      for : (cause : Option (Colour × ℕ)) → CauseOf note cause → by_colour cause ≡ true → Among note (puts_notes (chain d))
      for None is passes = absurd (cc)
      for (Some run) has passes =
          let same : run.0 ≡ d = same_colour run.0 d (eqb-true run.0.0 d.0 passes) in
          among_joined (λ (run : ℕ × TimedRun S P). run.1.regs) (chain d) (has.core, has.run) note (subst (λ e. Among (has.core, has.run) (chain e)) same (among_place (chain run.0) run.1 (has.core, has.run) has.is)) has.put

    pub colour_put : filter_map (put_by_colour d) (came c) ≡ loaded_of (puts_notes (chain d)) c
    colour_put = those c (put_by_colour d) (λ one. by_colour one.cause) colour_tests colour_puts colour_ascend colour_within colour_without ∙ regs-loads c (puts_notes (chain d))

  -- the registrations by one run
  module _ (c d : Colour) (j n : ℕ) (r : TimedRun S P) (at : slice_get (chain d) j ≡ Some (n, r)) where
    abbrev by_run : Option (Colour × ℕ) → Bool
    by_run None = false
    by_run (Some run) = if run.0.0 == d.0 then run.1 == j else false

    run_tests : (one : Registration P) → put_by_run d j one ≡ (if by_run one.cause then Some one.event else None)
    run_tests one = for one.event one.at one.cause where
      one_test : (own : Bool) (test : Bool) (event : Event × Option P) → (if own then (if test then Some event else None) else None) ≡ (if (if own then test else false) then Some event else None)
      one_test true test event = refl
      one_test false test event = refl

      for : (event : Event × Option P) (at : ℕ) (cause : Option (Colour × ℕ)) → put_by_run d j (record { event = event; at = at; cause = cause }) ≡ (if by_run cause then Some event else None)
      for event at None = refl
      for event at (Some run) = one_test (run.0.0 == d.0) (run.1 == j) event

    there : Among (n, r) (chain d)
    there = among_place (chain d) j (n, r) at

    run_ascend : Ascends stamp_of (regs_on c r.regs)
    run_ascend = pairs-filter (λ a b. stamp_of a < stamp_of b) (is_reg_on c) r.regs (all_at (λ (run : ℕ × TimedRun S P). Ascends stamp_of run.1.regs) (chain d) (n, r) (each_ascends stamp_of (λ (run : ℕ × TimedRun S P). run.1.regs) (chain d) (colour_ascends setup notes timed runs told legal rise d)) there)

    run_within : (note : Note S P) → Among note (regs_on c r.regs) → Among note (regs_on c (notes c)) × ((one : Registration P) → IsOf c note one → by_run one.cause ≡ true)
    run_within note put =
        let here = put_here c d n r note there put in
        (here.0, λ one is. ap by_run (only_cause setup notes timed runs told legal rise d j n r note at (passes_among (is_reg_on c) r.regs note put).0 here.1 one.cause is.cause) ∙ ap (λ b. if b then j == j else false) (eq-eqb d.0 d.0 refl) ∙ eq-eqb j j refl)

    run_without : (note : Note S P) (one : Registration P) → Among note (regs_on c (notes c)) → IsOf c note one → by_run one.cause ≡ true → Among note (regs_on c r.regs)
    run_without note one there is passes = among_passes (is_reg_on c) r.regs note (for one.cause is.cause passes) (passes_among (is_reg_on c) (notes c) note there).1 where
      same : (run : Colour × ℕ) → by_run (Some run) ≡ true → (run.0 ≡ d) × (run.1 ≡ j)
      same run passes = cases (run.0.0 == d.0) refl passes where
        cases : (own : Bool) → (run.0.0 == d.0) ≡ own → (if own then run.1 == j else false) ≡ true → (run.0 ≡ d) × (run.1 ≡ j)
        cases true own test = (same_colour run.0 d (eqb-true run.0.0 d.0 own), eqb-true run.1 j test)
        cases false own test = absurd (cc)

      for : (cause : Option (Colour × ℕ)) → CauseOf note cause → by_run cause ≡ true → Among note r.regs
      for None is passes = absurd (cc)
      for (Some run) has passes =
          let is = same run passes in
          let here : slice_get (chain d) j ≡ Some (has.core, has.run) = subst (λ i. slice_get (chain d) i ≡ Some (has.core, has.run)) is.1 (subst (λ e. slice_get (chain e) run.1 ≡ Some (has.core, has.run)) is.0 has.is) in
          let one : (has.core, has.run) ≡ (n, r) = same_Some (has.core, has.run) (n, r) (sym here ∙ at) in
          subst (λ (run : ℕ × TimedRun S P). Among note run.1.regs) one has.put

    pub run_put : filter_map (put_by_run d j) (came c) ≡ loaded_of r.regs c
    run_put = those c (put_by_run d j) (λ one. by_run one.cause) run_tests (regs_on c r.regs) run_ascend run_within run_without ∙ regs-loads c r.regs

  -- the notes of what each run of a colour put are of that
  all_puts : (d : Colour) → AllByRecursion (λ run. AreOf run.1.regs run.1.run.puts) (chain d)
  all_puts d = every (λ (run : ℕ × TimedRun S P). AreOf run.1.regs run.1.run.puts) (chain d) (λ run there.
      let mine = own setup notes timed runs told legal rise d run.0 run.1 there in
      all_at (λ r. AreOf r.regs r.run.puts) (timed run.0) run.1 (told run.0 mine.low).of_puts mine.there)

  -- the note of a registration stands at its place
  note_at : (c : Colour) (i : ℕ) (one : Registration P) → slice_get (came c) i ≡ Some one → (note : Note S P) × (slice_get (regs_on c (notes c)) i ≡ Some note) × IsOf c note one
  note_at c i one at =
      let from = get_map (λ (p : Note S P × Registration P). p.1) (regs_listed c) i one at in
      let p = from.0 in
      let is : IsOf c p.0 p.1 = all_at (λ p. IsOf c p.0 p.1) (regs_listed c) p (all_from c) (among_place (regs_listed c) i p from.1) in
      let place : slice_get (map (λ p. p.0) (regs_listed c)) i ≡ Some p.0 = slice_get-map (λ (p : Note S P × Registration P). p.0) (regs_listed c) i ∙ ap (option_map (λ (p : Note S P × Registration P). p.0)) from.1 in
      (p.0, ap (λ l. slice_get l i) (sym (notes_listed c)) ∙ place, subst (λ one. IsOf c p.0 one) from.2 is)

  -- and the registration of a note at the note's
  reg_at : (c : Colour) (i : ℕ) (note : Note S P) → slice_get (regs_on c (notes c)) i ≡ Some note → (one : Registration P) × (slice_get (came c) i ≡ Some one) × (one.at ≡ stamp_of note)
  reg_at c i note at =
      let from = get_map (λ (p : Note S P × Registration P). p.0) (regs_listed c) i note (ap (λ l. slice_get l i) (notes_listed c) ∙ at) in
      let p = from.0 in
      let is : IsOf c p.0 p.1 = all_at (λ p. IsOf c p.0 p.1) (regs_listed c) p (all_from c) (among_place (regs_listed c) i p from.1) in
      (p.1, slice_get-map (λ (p : Note S P × Registration P). p.1) (regs_listed c) i ∙ ap (option_map (λ (p : Note S P × Registration P). p.1)) from.1, is.at ∙ ap (λ (m : Note S P). stamp_of m) from.2)

  -- what a run registers comes after the registration of its event
  later_put : (d : Colour) (j : ℕ) (note : Note S P) → HasPut setup notes timed runs told legal rise d j note → (reg : Note S P) × (slice_get (regs_on d (notes d)) j ≡ Some reg) × (stamp_of reg < stamp_of note)
  later_put d j note has =
      let mine = own setup notes timed runs told legal rise d has.core has.run (among_place (chain d) j (has.core, has.run) has.is) in
      let after = all_at (λ r. AllByRecursion (λ m. r.at < stamp_of m) r.regs) (timed has.core) has.run (told has.core mine.low).later mine.there in
      let later : has.run.at < stamp_of note = all_at (λ m. has.run.at < stamp_of m) has.run.regs note after has.put in
      let early = event_before setup notes timed runs told legal rise d j has.core has.run has.is in
      let less = early.2 in
      (early.0, early.1, omega (arith, later, less))

  caused : (c d : Colour) (i j : ℕ) (one : Registration P) → slice_get (came c) i ≡ Some one → one.cause ≡ Some (d, j) → (cause : Registration P) × (slice_get (came d) j ≡ Some cause) × (cause.at < one.at)
  caused c d i j one at by =
      let note = note_at c i one at in
      let is = note.2.at in
      let early = later_put d j note.0 (subst (λ cause. CauseOf note.0 cause) by note.2.cause) in
      let cause = reg_at d j early.0 early.1 in
      let less = early.2 in
      let was = cause.2 in
      (cause.0, cause.1, omega (arith, is, less, was))

  rises : (c : Colour) (i j : ℕ) (one two : Registration P) → slice_get (came c) i ≡ Some one → slice_get (came c) j ≡ Some two → i < j → one.at < two.at
  rises c i j one two is so less =
      let first = note_at c i one is in
      let second = note_at c j two so in
      let above = pairs_at (λ a b. stamp_of a < stamp_of b) (regs_on c (notes c)) i j first.0 second.0 (regs_ascend c) first.1 second.1 less in
      let first_at = first.2.at in
      let second_at = second.2.at in
      omega (arith, above, first_at, second_at)

  -- what was registered is caused, where the pass behind the cores registered the first event
  pub are_caused : (begin : Colour × Event × Option P) (ran : Colour → List (HandlerRun S P))
      → ((c : Colour) → loaded_of (notes_by (shape_of setup).cores (notes c)) c ≡ puts_on c (begin ∷ []))
      → ((c : Colour) → without_core (map run_of (chain c)) ≡ ran c)
      → AreCaused begin (λ c. loaded_of (notes c) c) ran
  are_caused begin ran begun same = record {
    came = came;
    loads = λ c. events_of_all c (regs_listed c) (all_from c) ∙ ap (filter_map (load_on c)) (notes_listed c) ∙ regs-loads c (notes c);
    rise = rises;
    first = λ c. first_put c ∙ begun c;
    by_colour = λ c d. colour_put c d ∙ chain-loads c (chain d) (all_puts d) ∙ ap (λ l. puts_on c (puts_of l)) (same d);
    by_run = λ c d j run at.
        let one = get_map (λ (run : ℕ × HandlerRun S P). run.1) (map run_of (chain d)) j run (ap (λ l. slice_get l j) (same d) ∙ at) in
        let two = get_map run_of (chain d) j one.0 one.1 in
        let r = two.0.1 in
        run_put c d j two.0.0 r two.1
        ∙ puts-loads c r.regs r.run.puts (all_at (λ (run : ℕ × TimedRun S P). AreOf run.1.regs run.1.run.puts) (chain d) two.0 (all_puts d) (among_place (chain d) j two.0 two.1))
        ∙ ap (λ (run : HandlerRun S P). puts_on c run.puts) (ap (λ (run : ℕ × HandlerRun S P). run.1) two.2 ∙ one.2);
    caused = caused;
  }
