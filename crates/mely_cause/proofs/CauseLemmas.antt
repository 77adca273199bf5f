-- Which run put what was registered: each registration is of the first event, or of one run.
use Rattle.std.proofs.Common.{◌≡◌, ℕ, ◌<◌, ◌≤◌, ◌==◌, true, List, [], ◌++◌, ◌⊎◌, Option, Some, None, if◌then◌else◌, map, take, drop, refl, sym, ◌∙◌, ap, ap₂, subst, inl, inr, arith}
use Rattle.std.specs.Prelude.{flat_map}
use Rattle.std.specs.List.{AllByRecursion, slice_get}
use Rattle.std.proofs.lemmas.Bool.{cases_order, eq-eqb, eqb-true}
use Rattle.std.proofs.lemmas.List.{append-nil, take-append-drop}
use Rattle.mely_event.specs.declared.colour.Colour.{Colour}
use Rattle.mely_event.specs.declared.event.Event.{Event}
use Rattle.mely_history.specs.declared.setup.Setup.{Setup}
use Rattle.mely_history.specs.Setup.{shape_of}
use Rattle.mely_history.specs.Legal.{IsLegal}
use Rattle.mely_history.proofs.LegalAccountLemmas.{same_colour}
use Rattle.mely_note.specs.declared.note.Note.{Note}
use Rattle.mely_note.specs.declared.note.Note.TheVariants.{Reg, Take, Fin, Steal}
use Rattle.mely_note.specs.Notes.{Rise, entries_of, load_on, noted_by, notes_by, stamp_of}
use Rattle.mely_tally.specs.Account.{HandlerRun}
use Rattle.mely_chain.specs.Told.{finished_by}
use Rattle.mely_cause.specs.Causes.{Registration}
use Rattle.mely_cause.proofs.AmongLemmas.{Among, all_at, all_from, among_joined, among_passes, among_place, chosen, joined_among, passes_among, place_of}
use Rattle.mely_cause.proofs.AscendLemmas.{Pairs, Ascends, Below, across_ascend, each_ascends, pairs-filter, pairs_among, pairs_at}
use Rattle.mely_cause.proofs.TimedRuns.{TimedRun, CoreTimed, is_reg_on, regs_on, timed_on}
use Rattle.mely_cause.proofs.TimedChainLemmas.{in_chain, of_cores, timed_chain}
use Rattle.mely_cause.proofs.TimedOrderLemmas.{all_born, chain_ascends, puts_notes, rise_ascends}

-- a registration has an event
pub has_event : {S P : Type 0} (c : Colour) (note : Note S P) → is_reg_on c note ≡ true → (event : Event × Option P) × (load_on c note ≡ Some event)
has_event c (Reg d event load by at) is = ((event, load.value), ap (λ b. if b then Some (event, load.value) else None) is)
has_event c (Take d core count at) is = absurd (cc)
has_event c (Fin d core count state at) is = absurd (cc)
has_event c (Steal d from to at) is = absurd (cc)

module _ {S P : Type 0} (setup : Setup) (notes : Colour → List (Note S P)) (timed : ℕ → List (TimedRun S P)) (runs : ℕ → List (HandlerRun S P))
    (told : (n : ℕ) → n < (shape_of setup).cores → CoreTimed n notes (runs n) (timed n))
    (legal : (c : Colour) → IsLegal setup (entries_of (notes c))) (rise : (c : Colour) → Rise (notes c)) where
  -- the runs of a colour with their cores and times
  abbrev pub chain_on : Colour → List (ℕ × TimedRun S P)
  chain_on d = timed_chain d (λ n. timed_on d (timed n)) (notes d)

  abbrev regs_in : TimedRun S P → List (Note S P)
  regs_in r = r.regs

  -- what holds of all runs of a core holds of those on a colour
  all_on : (Holds : TimedRun S P → Type 0) (d : Colour) (n : ℕ) → AllByRecursion Holds (timed n) → AllByRecursion Holds (timed_on d (timed n))
  all_on Holds d n all = all_from Holds (timed_on d (timed n)) (λ r there. all_at Holds (timed n) r all (passes_among (λ (r : TimedRun S P). r.run.colour.0 == d.0) (timed n) r there).0)

  core_ascends : (n : ℕ) → n < (shape_of setup).cores → Ascends stamp_of (flat_map regs_in (timed n))
  core_ascends n low = rise_ascends (flat_map regs_in (timed n)) (told n low).rise

  across : (n : ℕ) → n < (shape_of setup).cores → Pairs (Below stamp_of regs_in) (timed n)
  across n low = across_ascend stamp_of regs_in (timed n) (core_ascends n low)

  each_on : (d : Colour) (n : ℕ) → n < (shape_of setup).cores → AllByRecursion (λ r. Ascends stamp_of r.regs) (timed_on d (timed n))
  each_on d n low = all_on (λ r. Ascends stamp_of r.regs) d n (each_ascends stamp_of regs_in (timed n) (core_ascends n low))

  across_on : (d : Colour) (n : ℕ) → n < (shape_of setup).cores → Pairs (Below stamp_of regs_in) (timed_on d (timed n))
  across_on d n low = pairs-filter (Below stamp_of regs_in) (λ r. r.run.colour.0 == d.0) (timed n) (across n low)

  later_on : (d : Colour) (n : ℕ) → n < (shape_of setup).cores → AllByRecursion (λ r. AllByRecursion (λ m. r.at < stamp_of m) r.regs) (timed_on d (timed n))
  later_on d n low = all_on (λ r. AllByRecursion (λ m. r.at < stamp_of m) r.regs) d n (told n low).later

  pub colour_ascends : (d : Colour) → Ascends stamp_of (puts_notes (chain_on d))
  colour_ascends d = chain_ascends d (λ n. timed_on d (timed n)) setup (notes d) (legal d) (rise d) (λ done after n count state at is low. (told n low).turns d done after count state at is) (each_on d) (across_on d) (later_on d)

  -- the event of each run was registered before it
  pub event_before : (d : Colour) (j n : ℕ) (r : TimedRun S P) → slice_get (chain_on d) j ≡ Some (n, r) → (reg : Note S P) × (slice_get (regs_on d (notes d)) j ≡ Some reg) × (stamp_of reg ≤ r.at)
  event_before d j n r is = all_born d (λ n. timed_on d (timed n)) setup (notes d) (legal d) (rise d) (λ done after n count state at is low. (told n low).turns d done after count state at is) (each_on d) (across_on d) (later_on d) j (n, r) is

  -- a run of a colour is of a core, and on that colour
  pub record IsOwn (d : Colour) (n : ℕ) (r : TimedRun S P) : Type 0 where
    pub low : n < (shape_of setup).cores
    pub there : Among r (timed n)
    pub colour : r.run.colour ≡ d

  pub own : (d : Colour) (n : ℕ) (r : TimedRun S P) → Among (n, r) (chain_on d) → IsOwn d n r
  own d n r there =
      let of = all_at (λ (run : ℕ × TimedRun S P). (run.0 < (shape_of setup).cores) × Among run.1 (timed_on d (timed run.0))) (chain_on d) (n, r) (of_cores d (λ n. timed_on d (timed n)) setup (notes d) (legal d)) there in
      let passes = passes_among (λ (r : TimedRun S P). r.run.colour.0 == d.0) (timed n) r of.1 in
      record { low = of.0; there = passes.0; colour = same_colour r.run.colour d (eqb-true r.run.colour.0 d.0 passes.1) }

  -- what it registered is among the notes of its core
  pub put_there : (c d : Colour) (n : ℕ) (r : TimedRun S P) (note : Note S P) → Among (n, r) (chain_on d) → Among note (regs_on c r.regs) → Among note (regs_on c (notes_by n (notes c)))
  put_there c d n r note there put =
      let is = own d n r there in
      subst (λ l. Among note l) (sym ((told n is.low).regs c)) (among_joined (λ (r : TimedRun S P). regs_on c r.regs) (timed n) r note is.there put)

  -- the run of this colour and of this number registered it
  pub record HasPut (d : Colour) (j : ℕ) (note : Note S P) : Type 0 where
    pub core : ℕ
    pub run : TimedRun S P
    pub is : slice_get (chain_on d) j ≡ Some (core, run)
    pub put : Among note run.regs
    pub by : noted_by note ≡ core

  -- that run is what registered it, or nobody, where it is by the pass behind the cores
  abbrev pub CauseIs : Note S P → Option (Colour × ℕ) → Type 0
  CauseIs note None = noted_by note ≡ (shape_of setup).cores
  CauseIs note (Some run) = HasPut run.0 run.1 note

  -- a note is of no two runs of a core
  one_run : (n : ℕ) (r s : TimedRun S P) (note : Note S P) → n < (shape_of setup).cores → Among r (timed n) → Among s (timed n) → Among note r.regs → Among note s.regs → r ≡ s
  one_run n r s note low one two here there = for (pairs_among (Below stamp_of regs_in) (timed n) r s (across n low) one two) where
    for : (r ≡ s) ⊎ (Below stamp_of regs_in r s ⊎ Below stamp_of regs_in s r) → r ≡ s
    for (inl same) = same
    for (inr (inl below)) = let less = below note note here there in absurd (omega (arith, less))
    for (inr (inr below)) = let less = below note note there here in absurd (omega (arith, less))

  -- nor of two runs of a colour
  one_place : (d : Colour) (i j n m : ℕ) (r s : TimedRun S P) (note : Note S P) → slice_get (chain_on d) i ≡ Some (n, r) → slice_get (chain_on d) j ≡ Some (m, s) → Among note r.regs → Among note s.regs → i ≡ j
  one_place d i j n m r s note one two here there = for (cases_order i j) where
    below : Pairs (Below stamp_of (λ (run : ℕ × TimedRun S P). run.1.regs)) (chain_on d)
    below = across_ascend stamp_of (λ (run : ℕ × TimedRun S P). run.1.regs) (chain_on d) (colour_ascends d)

    for : (i ≡ j) ⊎ ((i < j) ⊎ (j < i)) → i ≡ j
    for (inl same) = same
    for (inr (inl less)) = let low = pairs_at (Below stamp_of (λ (run : ℕ × TimedRun S P). run.1.regs)) (chain_on d) i j (n, r) (m, s) below one two less note note here there in absurd (omega (arith, low))
    for (inr (inr less)) = let low = pairs_at (Below stamp_of (λ (run : ℕ × TimedRun S P). run.1.regs)) (chain_on d) j i (m, s) (n, r) below two one less note note there here in absurd (omega (arith, low))

  -- so what registered it is the one run that has it
  pub only_cause : (d : Colour) (j n : ℕ) (r : TimedRun S P) (note : Note S P) → slice_get (chain_on d) j ≡ Some (n, r) → Among note r.regs → noted_by note ≡ n → (cause : Option (Colour × ℕ)) → CauseIs note cause → cause ≡ Some (d, j)
  only_cause d j n r note is put by None first = let low = (own d n r (among_place (chain_on d) j (n, r) is)).low in absurd (omega (arith, low, by, first))
  only_cause d j n r note is put by (Some run) has =
      let mine = own d n r (among_place (chain_on d) j (n, r) is) in
      let other = own run.0 has.core has.run (among_place (chain_on run.0) run.1 (has.core, has.run) has.is) in
      let core : has.core ≡ n = sym has.by ∙ by in
      let same : has.run ≡ r = one_run n has.run r note mine.low (subst (λ k. Among has.run (timed k)) core other.there) mine.there has.put put in
      let colour : run.0 ≡ d = sym other.colour ∙ ap (λ r. r.run.colour) same ∙ mine.colour in
      let place : run.1 ≡ j = one_place d run.1 j has.core n has.run r note (subst (λ e. slice_get (chain_on e) run.1 ≡ Some (has.core, has.run)) colour has.is) is has.put put in
      ap₂ (λ e k. Some (e, k)) colour place

  module _ (finished : (c : Colour) (n : ℕ) → n < (shape_of setup).cores → drop (finished_by n (notes c) c) (timed_on c (timed n)) ≡ [])
      (no_other : (c : Colour) (n : ℕ) → (shape_of setup).cores < n → notes_by n (notes c) ≡ []) where
    -- a registration that is a note's
    pub record IsFrom (c : Colour) (note : Note S P) (one : Registration P) : Type 0 where
      pub event : load_on c note ≡ Some one.event
      pub at : one.at ≡ stamp_of note
      pub cause : CauseIs note one.cause

    -- what a core registered a run of its put
    put_by_core : (c : Colour) (note : Note S P) → Among note (regs_on c (notes_by (noted_by note) (notes c))) → noted_by note < (shape_of setup).cores → (run : Colour × ℕ) × HasPut run.0 run.1 note
    put_by_core c note there low =
        let n = noted_by note in
        let from = joined_among (λ (r : TimedRun S P). regs_on c r.regs) (timed n) note (subst (λ l. Among note l) ((told n low).regs c) there) in
        let r = from.0 in
        let d = r.run.colour in
        let on : Among r (timed_on d (timed n)) = among_passes (λ (r : TimedRun S P). r.run.colour.0 == d.0) (timed n) r from.1 (eq-eqb d.0 d.0 refl) in
        let all : take (finished_by n (notes d) d) (timed_on d (timed n)) ≡ timed_on d (timed n) = sym (append-nil (take (finished_by n (notes d) d) (timed_on d (timed n)))) ∙ ap (λ l. take (finished_by n (notes d) d) (timed_on d (timed n)) ++ l) (sym (finished d n low)) ∙ take-append-drop (finished_by n (notes d) d) (timed_on d (timed n)) in
        let inside : Among (n, r) (chain_on d) = in_chain d (λ n. timed_on d (timed n)) n r (notes d) (subst (λ l. Among r l) (sym all) on) in
        let place = place_of (chain_on d) (n, r) inside in
        ((d, place.0), record { core = n; run = r; is = place.1; put = (passes_among (is_reg_on c) r.regs note from.2).0; by = refl })

    -- each note that registers is of some registration
    pub origin : (c : Colour) (note : Note S P) → Among note (regs_on c (notes c)) → (one : Registration P) × IsFrom c note one
    origin c note there = for (cases_order (noted_by note) (shape_of setup).cores) where
      passes : Among note (notes c) × (is_reg_on c note ≡ true)
      passes = passes_among (is_reg_on c) (notes c) note there

      event : (event : Event × Option P) × (load_on c note ≡ Some event)
      event = has_event c note passes.1

      mine : Among note (notes_by (noted_by note) (notes c))
      mine = among_passes (λ m. noted_by m == noted_by note) (notes c) note passes.0 (eq-eqb (noted_by note) (noted_by note) refl)

      for : (noted_by note ≡ (shape_of setup).cores) ⊎ ((noted_by note < (shape_of setup).cores) ⊎ ((shape_of setup).cores < noted_by note)) → (one : Registration P) × IsFrom c note one
      for (inl first) = (record { event = event.0; at = stamp_of note; cause = None }, record { event = event.1; at = refl; cause = first })
      for (inr (inl low)) =
          let by = put_by_core c note (among_passes (is_reg_on c) (notes_by (noted_by note) (notes c)) note mine passes.1) low in
          (record { event = event.0; at = stamp_of note; cause = Some by.0 }, record { event = event.1; at = refl; cause = by.1 })
      for (inr (inr high)) = let none = subst (λ l. Among note l) (no_other c (noted_by note) high) mine in elim none [ ]

    -- so there are registrations for all of them
    pub listed : (c : Colour) → (all : List (Note S P × Registration P)) × (map (λ p. p.0) all ≡ regs_on c (notes c)) × AllByRecursion (λ p. IsFrom c p.0 p.1) all
    listed c = chosen (IsFrom c) (regs_on c (notes c)) (origin c)
