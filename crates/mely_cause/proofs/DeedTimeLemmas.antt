-- What a core did, in time: how many runs its turns have, and between which stamps they are.
use Rattle.std.proofs.Common.{◌≡◌, ℕ, suc, ◌+◌, ◌<◌, ◌≤◌, ◌==◌, List, [], ◌∷◌, ◌++◌, Bool, true, false, cond, length, if◌then◌else◌, refl, sym, ap, subst, arith, append_assoc, eq-eqb}
use Rattle.std.specs.Prelude.{flat_map, max}
use Rattle.std.specs.List.{AllByRecursion}
use Rattle.std.proofs.lemmas.List.Sums.{sum_by-cons}
use Rattle.mely_event.specs.declared.colour.Colour.{Colour}
use Rattle.mely_history.specs.Entries.{finished_on}
use Rattle.mely_history.specs.History.{ended_of}
use Rattle.mely_note.specs.declared.note.Note.{Note}
use Rattle.mely_note.specs.declared.note.Note.TheVariants.{Reg, Take, Fin, Steal}
use Rattle.mely_note.specs.Notes.{Rise, entry_of, entries_of, latest, stamp_of}
use Rattle.mely_note.proofs.StampLemmas.{latest-push}
use Rattle.mely_chain.specs.Deeds.{Deed, noted, ran, Doing, rests, turns, Did, notes_in}
use Rattle.mely_cause.proofs.TimedRuns.{TimedRun, regs_first, timed_of, timed_on}
use Rattle.mely_cause.proofs.DeedCutLemmas.{IsPart, over_did}

module _ {P : Type 0} where
  -- how many events of the colour are left to run of the turn that is out
  abbrev pub due : Colour → Doing P → ℕ
  due c rests = 0
  due c (turns d count left puts) = if d.0 == c.0 then left else 0

  -- and how many it has
  abbrev pub owed : Colour → Doing P → ℕ
  owed c rests = 0
  owed c (turns d count left puts) = if d.0 == c.0 then count else 0

module _ {S P : Type 0} where
  -- ---- how many runs

  ended-cons : (c : Colour) (note : Note S P) (notes : List (Note S P)) → ended_of (entries_of (note ∷ notes)) c ≡ finished_on c (entry_of note) + ended_of (entries_of notes) c
  ended-cons c note notes = sum_by-cons (finished_on c) (entry_of note) (entries_of notes)

  -- the runs on a colour are those of finished turns, but for the turns that are out first and last
  pub runs_counted : (n : ℕ) (c : Colour) (before : Doing P) (deeds : List (Deed S P)) (after : Doing P) (k : ℕ) → Did n before deeds after
      → length (timed_on c (timed_of k deeds)) + due c after + owed c before ≡ ended_of (entries_of (notes_in deeds)) c + due c before + owed c after
  runs_counted n c before deeds after k did = over_did n (λ now ds end. (k : ℕ) → length (timed_on c (timed_of k ds)) + due c end + owed c now ≡ ended_of (entries_of (notes_in ds)) c + due c now + owed c end)
      (λ now k. omega arith)
      (λ d count at more end did old k. let tail = old at.value.number in let more_is = ended-cons c (Take d n count at) (notes_in more) in one_take (d.0 == c.0) count (length (timed_on c (timed_of at.value.number more))) (due c end) (owed c end) (ended_of (entries_of (notes_in more)) c) _ more_is tail)
      (λ d from at more end did old k. let tail = old at.value.number in let more_is = ended-cons c (Steal d from n at) (notes_in more) in omega (arith, tail, more_is))
      (λ r count left more end did old k. one_run (r.colour.0 == c.0) (record { run = r; at = k; regs = regs_first more }) count left (timed_on c (timed_of k more)) (due c end) (owed c end) (ended_of (entries_of (notes_in more)) c) (old k))
      (λ d count left put puts load at more end value did old k. let tail = old at.value.number in let more_is = ended-cons c (Reg put.0 put.1 load n at) (notes_in more) in omega (arith, tail, more_is))
      (λ d count state at more end did old k. let tail = old at.value.number in let more_is = ended-cons c (Fin d n count state at) (notes_in more) in one_finish (d.0 == c.0) count (length (timed_on c (timed_of at.value.number more))) (due c end) (owed c end) (ended_of (entries_of (notes_in more)) c) _ more_is tail)
      before deeds after did k
    where
      one_take : (own : Bool) (count runs due_then owed_then ended more_ended : ℕ) → more_ended ≡ 0 + ended → runs + due_then + (if own then count else 0) ≡ ended + (if own then count else 0) + owed_then → runs + due_then + 0 ≡ more_ended + 0 + owed_then
      one_take true count runs due_then owed_then ended more_ended is old = omega (arith, is, old)
      one_take false count runs due_then owed_then ended more_ended is old = omega (arith, is, old)

      one_run : (own : Bool) (r : TimedRun S P) (count left : ℕ) (runs : List (TimedRun S P)) (due_then owed_then ended : ℕ) → length runs + due_then + (if own then count else 0) ≡ ended + (if own then left else 0) + owed_then → length (cond own (r ∷ runs) runs) + due_then + (if own then count else 0) ≡ ended + (if own then suc left else 0) + owed_then
      one_run true r count left runs due_then owed_then ended old = omega (arith, old)
      one_run false r count left runs due_then owed_then ended old = old

      one_finish : (own : Bool) (count runs due_then owed_then ended more_ended : ℕ) → more_ended ≡ (if own then count else 0) + ended → runs + due_then + 0 ≡ ended + 0 + owed_then → runs + due_then + (if own then count else 0) ≡ more_ended + (if own then 0 else 0) + owed_then
      one_finish true count runs due_then owed_then ended more_ended is old = omega (arith, is, old)
      one_finish false count runs due_then owed_then ended more_ended is old = omega (arith, is, old)

  -- while a turn is out nothing is finished
  pub none_ended : (c d : Colour) (deeds : List (Deed S P)) → AllByRecursion (IsPart d) deeds → ended_of (entries_of (notes_in deeds)) c ≡ 0
  none_ended c d [] parts = refl
  none_ended c d (ran run ∷ more) parts = none_ended c d more parts.1
  none_ended c d (noted (Reg e event load by at) ∷ more) parts = let rest = none_ended c d more parts.1 in let cons = ended-cons c (Reg e event load by at) (notes_in more) in omega (arith, rest, cons)
  none_ended c d (noted (Take e core count at) ∷ more) parts = absurd parts.0
  none_ended c d (noted (Fin e core count state at) ∷ more) parts = absurd parts.0
  none_ended c d (noted (Steal e from to at) ∷ more) parts = absurd parts.0

  -- from rest to rest, as many runs were made as events were finished
  pub rested-length : (n : ℕ) (c : Colour) (deeds : List (Deed S P)) (k : ℕ) → Did n rests deeds rests → length (timed_on c (timed_of k deeds)) ≡ ended_of (entries_of (notes_in deeds)) c
  rested-length n c deeds k did = let all = runs_counted n c rests deeds rests k did in omega (arith, all)

  -- of a turn that has nothing left, as many as it has events
  pub turn-length : (n : ℕ) (c : Colour) (count : ℕ) (deeds : List (Deed S P)) (k : ℕ) → Did n (turns c count count []) deeds (turns c count 0 []) → AllByRecursion (IsPart c) deeds → length (timed_on c (timed_of k deeds)) ≡ count
  turn-length n c count deeds k did parts =
      let all = runs_counted n c (turns c count count []) deeds (turns c count 0 []) k did in
      let none = none_ended c c deeds parts in
      one (c.0 == c.0) (eq-eqb c.0 c.0 refl) (length (timed_on c (timed_of k deeds))) (ended_of (entries_of (notes_in deeds)) c) all none
    where
      one : (own : Bool) → own ≡ true → (runs ended : ℕ) → runs + (if own then 0 else 0) + (if own then count else 0) ≡ ended + (if own then count else 0) + (if own then count else 0) → ended ≡ 0 → runs ≡ count
      one true is runs ended all none = omega (arith, all, none)
      one false is runs ended all none = cc

  -- ---- stamps that rise, one after another

  -- the stamps rise, from above this one on
  abbrev pub Rises : ℕ → List (Note S P) → Type 0
  Rises k [] = Unit {0}
  Rises k (note ∷ notes) = (k < stamp_of note) × Rises (stamp_of note) notes

  pub rises_from : (done notes : List (Note S P)) → Rise (done ++ notes) → Rises (latest done) notes
  rises_from done [] rise = tt
  rises_from done (note ∷ notes) rise =
      let late : latest done < stamp_of note = rise done notes note refl in
      let push = latest-push done note in
      let now : latest (done ++ note ∷ []) ≡ stamp_of note = omega (arith, push, late) in
      (late, subst (λ k. Rises k notes) now (rises_from (done ++ note ∷ []) notes (subst (λ l. Rise l) (sym (append_assoc done (note ∷ []) notes)) rise)))

  cut_above : (k : ℕ) (notes before : List (Note S P)) (note : Note S P) (after : List (Note S P)) → notes ≡ before ++ note ∷ after → Rises k notes → max k (latest before) < stamp_of note
  cut_above k [] [] note after is rises = cc
  cut_above k [] (x ∷ before) note after is rises = cc
  cut_above k (y ∷ notes) [] note after is rises =
      let same : y ≡ note = cc in
      let late : k < stamp_of note = subst (λ z. k < stamp_of z) same rises.0 in
      omega (arith, late)
  cut_above k (y ∷ notes) (x ∷ before) note after is rises =
      let same : y ≡ x = cc in
      let rest : notes ≡ before ++ note ∷ after = cc in
      let late = cut_above (stamp_of y) notes before note after rest rises.1 in
      let first = rises.0 in
      let stamps : stamp_of x ≡ stamp_of y = ap (λ z. stamp_of z) (sym same) in
      omega (arith, late, first, stamps)

  pub rise_of : (k : ℕ) (notes : List (Note S P)) → Rises k notes → Rise notes
  rise_of k notes rises before after note is = let late = cut_above k notes before note after is rises in omega (arith, late)

  pub rises_lower : (j k : ℕ) (notes : List (Note S P)) → j ≤ k → Rises k notes → Rises j notes
  rises_lower j k [] low rises = tt
  rises_lower j k (note ∷ notes) low rises = let late = rises.0 in (omega (arith, late, low), rises.1)

  pub rises_back : (k : ℕ) (a b : List (Note S P)) → Rises k (a ++ b) → Rises k b
  rises_back k [] b rises = rises
  rises_back k (note ∷ a) b rises = let late = rises.0 in rises_lower k (stamp_of note) b (omega (arith, late)) (rises_back (stamp_of note) a b rises.1)

  pub rises_front : (k : ℕ) (a b : List (Note S P)) → Rises k (a ++ b) → Rises k a
  rises_front k [] b rises = tt
  rises_front k (note ∷ a) b rises = (rises.0, rises_front (stamp_of note) a b rises.1)

  -- those before a note are below it
  pub all_below : (k : ℕ) (a : List (Note S P)) (note : Note S P) (b : List (Note S P)) → Rises k (a ++ note ∷ b) → AllByRecursion (λ m. stamp_of m < stamp_of note) a
  all_below k [] note b rises = tt
  all_below k (x ∷ a) note b rises = ((rises_back (stamp_of x) a (note ∷ b) rises.1).0, all_below (stamp_of x) a note b rises.1)

  -- those that begin are above
  first_above : (k j : ℕ) (deeds : List (Deed S P)) → k ≤ j → Rises j (notes_in deeds) → AllByRecursion (λ m. k < stamp_of m) (regs_first deeds)
  first_above k j [] low rises = tt
  first_above k j (ran run ∷ more) low rises = tt
  first_above k j (noted (Reg d event load by at) ∷ more) low rises = let late = rises.0 in (omega (arith, low, late), first_above k at.value.number more (omega (arith, low, late)) rises.1)
  first_above k j (noted (Take d core count at) ∷ more) low rises = tt
  first_above k j (noted (Fin d core count state at) ∷ more) low rises = tt
  first_above k j (noted (Steal d from to at) ∷ more) low rises = tt

  -- the notes behind a run are later than it
  pub regs_later : (k : ℕ) (deeds : List (Deed S P)) → Rises k (notes_in deeds) → AllByRecursion (λ (r : TimedRun S P). AllByRecursion (λ m. r.at < stamp_of m) r.regs) (timed_of k deeds)
  regs_later k [] rises = tt
  regs_later k (noted note ∷ more) rises = regs_later (stamp_of note) more rises.1
  regs_later k (ran run ∷ more) rises = (first_above k k more (omega arith) rises, regs_later k more rises)

  -- no run is earlier than the first stamp
  pub runs_behind : (j k : ℕ) (deeds : List (Deed S P)) → j ≤ k → Rises k (notes_in deeds) → AllByRecursion (λ (r : TimedRun S P). j ≤ r.at) (timed_of k deeds)
  runs_behind j k [] low rises = tt
  runs_behind j k (noted note ∷ more) low rises = let late = rises.0 in runs_behind j (stamp_of note) more (omega (arith, low, late)) rises.1
  runs_behind j k (ran run ∷ more) low rises = (low, runs_behind j k more low rises)

  -- the notes behind all runs rise
  abbrev regs_of : ℕ → List (Deed S P) → List (Note S P)
  regs_of k deeds = flat_map (λ (r : TimedRun S P). r.regs) (timed_of k deeds)

  skip_first : (k j : ℕ) (a b : List (Note S P)) → k < j → Rises j (a ++ b) → Rises k b
  skip_first k j a b late rises = rises_lower k j b (omega (arith, late)) (rises_back j a b rises)

  regs_rise_from : (k j : ℕ) (deeds : List (Deed S P)) → Rises k (notes_in deeds) → Rises k (regs_first deeds ++ regs_of j deeds)
  regs_rise_from k j [] rises = tt
  regs_rise_from k j (ran run ∷ more) rises = regs_rise_from k j more rises
  regs_rise_from k j (noted (Reg d event load by at) ∷ more) rises = (rises.0, regs_rise_from at.value.number at.value.number more rises.1)
  regs_rise_from k j (noted (Take d core count at) ∷ more) rises = skip_first k at.value.number (regs_first more) (regs_of at.value.number more) rises.0 (regs_rise_from at.value.number at.value.number more rises.1)
  regs_rise_from k j (noted (Fin d core count state at) ∷ more) rises = skip_first k at.value.number (regs_first more) (regs_of at.value.number more) rises.0 (regs_rise_from at.value.number at.value.number more rises.1)
  regs_rise_from k j (noted (Steal d from to at) ∷ more) rises = skip_first k at.value.number (regs_first more) (regs_of at.value.number more) rises.0 (regs_rise_from at.value.number at.value.number more rises.1)

  pub regs_rise : (k : ℕ) (deeds : List (Deed S P)) → Rises k (notes_in deeds) → Rise (flat_map (λ (r : TimedRun S P). r.regs) (timed_of k deeds))
  regs_rise k deeds rises = rise_of k (regs_of k deeds) (rises_back k (regs_first deeds) (regs_of k deeds) (regs_rise_from k k deeds rises))
