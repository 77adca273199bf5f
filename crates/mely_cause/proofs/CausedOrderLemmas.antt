-- Where all workers have come to their end, what was registered on each colour is caused.
use Rattle.std.proofs.Common.{◌≡◌, ℕ, ◌<◌, ◌==◌, Bool, true, false, List, [], ◌∷◌, Option, Some, None, cond, length, map, take, drop, get_or, refl, sym, ◌∙◌, ap, subst, arith}
use Rattle.std.specs.List.{slice_get}
use Rattle.std.proofs.lemmas.List.{drop_all, length-map, length-take}
use Rattle.std.proofs.lemmas.Option.{same_Some, slice_get-get_or}
use Rattle.mely_event.specs.declared.colour.Colour.{Colour}
use Rattle.mely_event.specs.declared.event.Event.{Event}
use Rattle.mely_event.specs.declared.trail.Trail.{Ghosts as TrailWords}
use Rattle.mely_history.specs.declared.setup.Setup.{Setup}
use Rattle.mely_history.specs.Setup.{shape_of}
use Rattle.mely_note.specs.declared.note.Note.{Note}
use Rattle.mely_note.specs.Notes.{Rise, loaded_of}
use Rattle.mely_tally.specs.Account.{HandlerRun}
use Rattle.mely_worker.specs.declared.app.App.{Ghosts as AppWords}
use Rattle.mely_chain.specs.Runs.{runs_on}
use Rattle.mely_chain.specs.Told.{finished_by}
use Rattle.mely_cause.specs.Causes.{AreCaused}
use Rattle.mely_chain.proofs.MergeChainLemmas.{without_core}
use Rattle.mely_chain.proofs.MergeMadeLemmas.{made}
use Rattle.mely_chain.proofs.MergeOrderLemmas.{AllCome, colour_runs, in_order}
use Rattle.mely_cause.proofs.TimedRuns.{CoreTimed, TimedRun, timed_on}
use Rattle.mely_cause.proofs.TimedChainLemmas.{untimed}
use Rattle.mely_cause.proofs.CausedLemmas.{are_caused}

-- the runs on a colour, with their times and without
pub on-untimed : {S P : Type 0} (c : Colour) (timed : List (TimedRun S P)) → map (λ r. r.run) (timed_on c timed) ≡ runs_on c (map (λ r. r.run) timed)
on-untimed c [] = refl
on-untimed c (r ∷ timed) = for (on-untimed c timed) (r.run.colour.0 == c.0) where
  for : map (λ r. r.run) (timed_on c timed) ≡ runs_on c (map (λ r. r.run) timed) → (own : Bool) → map (λ r. r.run) (cond own (r ∷ timed_on c timed) (timed_on c timed)) ≡ cond own (r.run ∷ runs_on c (map (λ r. r.run) timed)) (runs_on c (map (λ r. r.run) timed))
  for rest true = ap (λ l. r.run ∷ l) rest
  for rest false = rest

module _ {R S P F : Type 0} (t : TrailWords S F) (fits : F → Colour → Event → Option P → Type 0) (y : AppWords R P S F) (app : R) (setup : Setup) (frame : F) (given : Colour → Option S) (notes : Colour → List (Note S P))
    (begin : Colour × Event × Option P) (left : Colour → Option S) (by_core : List (List (HandlerRun S P))) (come : AllCome t fits y app setup frame given notes begin left by_core)
    (timed : ℕ → List (TimedRun S P)) (told : (n : ℕ) (runs : List (HandlerRun S P)) → slice_get by_core n ≡ Some runs → CoreTimed n notes runs (timed n)) (rise : (c : Colour) → Rise (notes c)) where
  abbrev of_core : ℕ → List (HandlerRun S P)
  of_core n = get_or by_core n []

  there : (n : ℕ) → n < (shape_of setup).cores → slice_get by_core n ≡ Some (of_core n)
  there n low = let many = come.cores in slice_get-get_or by_core n [] (omega (arith, low, many))

  told_at : (n : ℕ) → n < (shape_of setup).cores → CoreTimed n notes (of_core n) (timed n)
  told_at n low = told n (of_core n) (there n low)

  same_runs : (c : Colour) (n : ℕ) → n < (shape_of setup).cores → map (λ r. r.run) (timed_on c (timed n)) ≡ runs_on c (of_core n)
  same_runs c n low = on-untimed c (timed n) ∙ ap (runs_on c) (told_at n low).are

  -- no run of a core is of a turn that isn't finished
  none_out : (c : Colour) (n : ℕ) → n < (shape_of setup).cores → drop (finished_by n (notes c) c) (timed_on c (timed n)) ≡ []
  none_out c n low =
      let all = (in_order t fits y app setup frame given notes begin left by_core come).of_core c n (of_core n) (there n low) in
      let first = made c (λ n. runs_on c (of_core n)) n (notes c) in
      let cut : take (finished_by n (notes c) c) (runs_on c (of_core n)) ≡ runs_on c (of_core n) = sym first ∙ all in
      let many = ap length cut in
      let few = length-take (finished_by n (notes c) c) (runs_on c (of_core n)) in
      let same = ap length (same_runs c n low) in
      let mapped = length-map {B = HandlerRun S P} (timed_on c (timed n)) (λ r. r.run) in
      drop_all (finished_by n (notes c) c) (timed_on c (timed n)) (omega (arith, many, few, same, mapped))

  -- what was registered is caused, along the same runs of each colour that are in order
  pub all_caused : AreCaused begin (λ c. loaded_of (notes c) c) (λ c. without_core (colour_runs t fits y app setup frame given notes begin left by_core come c))
  all_caused = are_caused setup notes timed of_core told_at come.legal rise none_out come.no_other begin (λ c. without_core (colour_runs t fits y app setup frame given notes begin left by_core come c)) come.begun
      (λ c. ap (λ l. without_core l) (untimed c (λ n. timed_on c (timed n)) setup (notes c) (come.legal c) (λ n. runs_on c (of_core n)) (same_runs c)))

-- The times of each core's runs, where it is known by core that there are some.
module _ {S P : Type 0} (notes : Colour → List (Note S P)) (n : ℕ) where
  abbrev HasTimes : Option (List (HandlerRun S P)) → Type 0
  HasTimes core = (runs : List (HandlerRun S P)) → core ≡ Some runs → (timed : List (TimedRun S P)) × CoreTimed n notes runs timed

  times_of : (core : Option (List (HandlerRun S P))) → HasTimes core → List (TimedRun S P)
  times_of None has = []
  times_of (Some runs) has = (has runs refl).0

  timed_by : (core : Option (List (HandlerRun S P))) (has : HasTimes core) (runs : List (HandlerRun S P)) → core ≡ Some runs → CoreTimed n notes runs (times_of core has)
  unfolding times_of
  timed_by None has runs is = absurd (cc)
  timed_by (Some first) has runs is = subst (λ l. CoreTimed n notes l (has first refl).0) (same_Some first runs is) (has first refl).1

-- so what was registered is caused, where each core's runs have their times
module _ {R S P F : Type 0} (t : TrailWords S F) (fits : F → Colour → Event → Option P → Type 0) (y : AppWords R P S F) (app : R) (setup : Setup) (frame : F) (given : Colour → Option S) (notes : Colour → List (Note S P))
    (begin : Colour × Event × Option P) (left : Colour → Option S) (by_core : List (List (HandlerRun S P))) (come : AllCome t fits y app setup frame given notes begin left by_core) where
  pub caused_by_core : ((n : ℕ) (runs : List (HandlerRun S P)) → slice_get by_core n ≡ Some runs → (timed : List (TimedRun S P)) × CoreTimed n notes runs timed)
      → ((c : Colour) → Rise (notes c))
      → AreCaused begin (λ c. loaded_of (notes c) c) (λ c. without_core (colour_runs t fits y app setup frame given notes begin left by_core come c))
  caused_by_core has rise = all_caused t fits y app setup frame given notes begin left by_core come (λ n. times_of notes n (slice_get by_core n) (has n)) (λ n runs is. timed_by notes n (slice_get by_core n) (has n) runs is) rise
