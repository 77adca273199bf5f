-- The runs of a core that has come to its end, with their times.
use Rattle.std.proofs.Common.{◌≡◌, ℕ, ◌+◌, ◌<◌, ◌≤◌, ◌==◌, ◌%◌, List, [], ◌∷◌, ◌++◌, Bool, true, false, cond, length, take, drop, filter, if◌then◌else◌, refl, sym, ◌∙◌, ap, subst, ⊎_elim, arith, eq-eqb, append_assoc}
use Rattle.std.specs.Prelude.{flat_map}
use Rattle.std.specs.List.{AllByRecursion}
use Rattle.std.specs.declared.snapshot.Snapshot.{Snapshot}
use Rattle.std.proofs.lemmas.Bool.{eqb-true}
use Rattle.std.proofs.lemmas.List.Elements.{filter-append, filter_map-append}
use Rattle.std.proofs.lemmas.List.Sums.{sum_by-append, sum_by-cons}
use Rattle.std.proofs.Math.Seq.{drop-append_seam, take-append_seam}
use Rattle.mely_event.specs.declared.colour.Colour.{Colour}
use Rattle.mely_history.specs.declared.setup.Setup.{Setup}
use Rattle.mely_history.specs.Entries.{colour_of, finished_on}
use Rattle.mely_history.specs.History.{ended_of}
use Rattle.mely_history.specs.Legal.{IsLegal}
use Rattle.mely_history.specs.Setup.{shape_of, shard_of}
use Rattle.mely_history.proofs.LegalLemmas.{legal_front}
use Rattle.mely_note.specs.declared.note.Note.{Note}
use Rattle.mely_note.specs.declared.note.Note.TheVariants.{Reg, Take, Fin, Steal}
use Rattle.mely_note.specs.declared.stamp.Stamp.{Stamp}
use Rattle.mely_note.specs.Notes.{entry_of, entries_of, loaded_of, noted_by, notes_by, stamp_of}
use Rattle.mely_note.proofs.NoteLemmas.{entries_of-append}
use Rattle.mely_tally.specs.Account.{HandlerRun}
use Rattle.mely_worker.specs.declared.phase.Phase.{Phase}
use Rattle.mely_worker.specs.declared.phase.Phase.TheVariants.{Free, Popped, Picked, Landing, Pushing, Turning}
use Rattle.mely_worker.specs.Phase.{is_turning}
use Rattle.mely_worker.specs.Worker.{WorkerState}
use Rattle.mely_chain.specs.Deeds.{Deed, noted, ran, rests, turns, Did, CoreDid, doing_of, note_in, notes_in, notes_at}
use Rattle.mely_chain.specs.Told.{finished_by}
use Rattle.mely_cause.proofs.TimedRuns.{TimedRun, CoreTimed, TurnWas, timed_of, regs_on, is_reg_on, timed_on}
use Rattle.mely_cause.proofs.DeedCutLemmas.{IsPart, StillOut, WasTaken, all_filter, puts_noted, regs_noted, none_first, timed_are, regs_all, last_stamp, timed_of-append, did_cut, finish_of, out_since}
use Rattle.mely_cause.proofs.DeedTimeLemmas.{Rises, none_ended, rested-length, turn-length, rises_from, rises_front, all_below, regs_later, runs_behind, regs_rise}
use Rattle.mely_cause.proofs.TakenLemmas.{IsReg, all_quiet, none_finishes, turn_registered}

-- what passes a test, cut at an element: there the whole list is cut
pub record FilterCut {X : Type 0} (test : X → Bool) (xs a : List X) (x : X) (b : List X) : Type 0 where
  pub before : List X
  pub after : List X
  pub is : xs ≡ before ++ x ∷ after
  pub first : filter test before ≡ a
  pub later : filter test after ≡ b

filter_cut : {X : Type 0} (test : X → Bool) (xs a : List X) (x : X) (b : List X) → filter test xs ≡ a ++ x ∷ b → FilterCut test xs a x b
filter_cut test [] [] x b is = cc
filter_cut test [] (z ∷ a) x b is = cc
filter_cut test (y ∷ xs) a x b is = for (test y) refl a is (λ l. filter_cut test xs l x b) where
  longer : (l : List _) (own : Bool) → test y ≡ own → FilterCut test xs l x b → FilterCut test (y ∷ xs) (cond own (y ∷ l) l) x b
  longer l own is cut = record {
    before = y ∷ cut.before;
    after = cut.after;
    is = ap (λ k. y ∷ k) cut.is;
    first = ap (λ t. cond t (y ∷ filter test cut.before) (filter test cut.before)) is ∙ ap (λ k. cond own (y ∷ k) k) cut.first;
    later = cut.later;
  }

  for : (own : Bool) → test y ≡ own → (a : List _) → cond own (y ∷ filter test xs) (filter test xs) ≡ a ++ x ∷ b → ((l : List _) → filter test xs ≡ l ++ x ∷ b → FilterCut test xs l x b) → FilterCut test (y ∷ xs) a x b
  for true t [] is cut =
      let same : y ≡ x = cc in
      let rest : filter test xs ≡ b = cc in
      record { before = []; after = xs; is = ap (λ z. z ∷ xs) same; first = refl; later = rest }
  for true t (z ∷ a) is cut =
      let same : y ≡ z = cc in
      let rest : filter test xs ≡ a ++ x ∷ b = cc in
      subst (λ z. FilterCut test (y ∷ xs) (z ∷ a) x b) same (longer a true t (cut a rest))
  for false t a is cut = longer a false t (cut a is)

-- where one test follows from the other, both keep what the one does
filter_within : {X : Type 0} (p q : X → Bool) → ((x : X) → p x ≡ true → q x ≡ true) → (xs : List X) → filter p (filter q xs) ≡ filter p xs
filter_within p q follows [] = refl
filter_within p q follows (x ∷ xs) = for (p x) (q x) refl refl (filter_within p q follows xs) where
  for : (own other : Bool) → p x ≡ own → q x ≡ other → filter p (filter q xs) ≡ filter p xs → filter p (cond other (x ∷ filter q xs) (filter q xs)) ≡ cond own (x ∷ filter p xs) (filter p xs)
  for own true is as_well rest = ap (λ t. cond t (x ∷ filter p (filter q xs)) (filter p (filter q xs))) is ∙ ap (λ l. cond own (x ∷ l) l) rest
  for true false is not rest = let wrong : true ≡ false = sym (follows x is) ∙ not in cc
  for false false is not rest = rest

-- a list between two others
take_middle : {X : Type 0} (a b c : List X) → take (length b) (drop (length a) (a ++ (b ++ c))) ≡ b
take_middle a b c = ap (take (length b)) (drop-append_seam a (b ++ c)) ∙ take-append_seam b c

module _ {S P : Type 0} where
  -- the notes of deeds, cut at a note: there the deeds are cut
  pub record DeedsCut (deeds : List (Deed S P)) (a : List (Note S P)) (note : Note S P) (b : List (Note S P)) : Type 0 where
    pub before : List (Deed S P)
    pub after : List (Deed S P)
    pub is : deeds ≡ before ++ noted note ∷ after
    pub first : notes_in before ≡ a
    pub later : notes_in after ≡ b

  longer_cut : (x y : Note S P) (deeds : List (Deed S P)) (a : List (Note S P)) (note : Note S P) (b : List (Note S P)) → x ≡ y → DeedsCut deeds a note b → DeedsCut (noted x ∷ deeds) (y ∷ a) note b
  longer_cut x y deeds a note b same cut = record { before = noted x ∷ cut.before; after = cut.after; is = ap (λ l. noted x ∷ l) cut.is; first = cc (same, cut.first); later = cut.later }

  deeds_cut : (deeds : List (Deed S P)) (a : List (Note S P)) (note : Note S P) (b : List (Note S P)) → notes_in deeds ≡ a ++ note ∷ b → DeedsCut deeds a note b
  deeds_cut [] [] note b is = cc
  deeds_cut [] (x ∷ a) note b is = cc
  deeds_cut (ran run ∷ deeds) a note b is =
      let cut = deeds_cut deeds a note b is in
      record { before = ran run ∷ cut.before; after = cut.after; is = ap (λ l. ran run ∷ l) cut.is; first = cut.first; later = cut.later }
  deeds_cut (noted x ∷ deeds) [] note b is =
      let same : x ≡ note = cc in
      let rest : notes_in deeds ≡ b = cc in
      record { before = []; after = deeds; is = ap (λ z. noted z ∷ deeds) same; first = refl; later = rest }
  deeds_cut (noted x ∷ deeds) (y ∷ a) note b is =
      let same : x ≡ y = cc in
      let rest : notes_in deeds ≡ a ++ note ∷ b = cc in
      longer_cut x y deeds a note b same (deeds_cut deeds a note b rest)

  notes_in-append : (a b : List (Deed S P)) → notes_in (a ++ b) ≡ notes_in a ++ notes_in b
  notes_in-append a b = filter_map-append note_in a b

  -- of deeds that are part of a turn each note is a registration
  part_regs : (c : Colour) (deeds : List (Deed S P)) → AllByRecursion (IsPart c) deeds → AllByRecursion IsReg (notes_in deeds)
  part_regs c [] parts = tt
  part_regs c (ran run ∷ more) parts = part_regs c more parts.1
  part_regs c (noted (Reg d event load by at) ∷ more) parts = (tt, part_regs c more parts.1)
  part_regs c (noted (Take d core count at) ∷ more) parts = absurd parts.0
  part_regs c (noted (Fin d core count state at) ∷ more) parts = absurd parts.0
  part_regs c (noted (Steal d from to at) ∷ more) parts = absurd parts.0

  module _ (setup : Setup) (c : Colour) where
    abbrev on_shard : Note S P → Bool
    on_shard note = shard_of setup (colour_of (entry_of note)) == shard_of setup c

    of_colour : (note : Note S P) → ((colour_of (entry_of note)).0 == c.0) ≡ true → on_shard note ≡ true
    of_colour note is = eq-eqb (shard_of setup (colour_of (entry_of note))) (shard_of setup c) (ap (λ k. k % (shape_of setup).shards) (eqb-true (colour_of (entry_of note)).0 c.0 is))

    -- a registration on the colour is in the history of its shard
    regs_at : (notes : List (Note S P)) → regs_on c (notes_at setup c notes) ≡ regs_on c notes
    regs_at notes = filter_within (is_reg_on c) on_shard there notes where
      there : (note : Note S P) → is_reg_on c note ≡ true → on_shard note ≡ true
      there (Reg d event load by at) is = of_colour (Reg d event load by at) is
      there (Take d core count at) is = cc
      there (Fin d core count state at) is = cc
      there (Steal d from to at) is = cc

    -- so is a finish
    ended_at : (notes : List (Note S P)) → ended_of (entries_of (notes_at setup c notes)) c ≡ ended_of (entries_of notes) c
    ended_at [] = refl
    ended_at (note ∷ notes) = for (on_shard note) refl (ended_at notes) where
      away : (note : Note S P) → on_shard note ≡ false → finished_on c (entry_of note) ≡ 0
      away (Reg d event load by at) not = refl
      away (Take d core count at) not = refl
      away (Steal d from to at) not = refl
      away (Fin d core count state at) not = other (d.0 == c.0) refl where
        other : (own : Bool) → (d.0 == c.0) ≡ own → (if own then count else 0) ≡ 0
        other true is = let wrong : true ≡ false = sym (of_colour (Fin d core count state at) is) ∙ not in cc
        other false is = refl

      for : (own : Bool) → on_shard note ≡ own → ended_of (entries_of (notes_at setup c notes)) c ≡ ended_of (entries_of notes) c → ended_of (entries_of (cond own (note ∷ notes_at setup c notes) (notes_at setup c notes))) c ≡ ended_of (entries_of (note ∷ notes)) c
      for true is rest =
          let one = sum_by-cons (finished_on c) (entry_of note) (entries_of (notes_at setup c notes)) in
          let other = sum_by-cons (finished_on c) (entry_of note) (entries_of notes) in
          omega (arith, one, other, rest)
      for false not rest =
          let none = away note not in
          let other = sum_by-cons (finished_on c) (entry_of note) (entries_of notes) in
          omega (arith, none, other, rest)

    -- ---- a turn that was finished

    -- what the core did up to the finish of a turn: it came to rest, took the turn, did what is part of it, and finished it
    pub record TurnDid (n : ℕ) (count : ℕ) (state : Snapshot S) (at : Snapshot Stamp) (deeds : List (Deed S P)) (done : List (Note S P)) : Type 0 where
      pub first : List (Deed S P)
      pub taken : Snapshot Stamp
      pub since : List (Deed S P)
      pub later : List (Deed S P)
      pub is : deeds ≡ first ++ noted (Take c n count taken) ∷ (since ++ noted (Fin c n count state at) ∷ later)
      pub rested : Did n rests first rests
      pub did : Did n (turns c count count []) since (turns c count 0 [])
      pub parts : AllByRecursion (IsPart c) since
      pub own : notes_by n done ≡ notes_at setup c (notes_in first) ++ Take c n count taken ∷ notes_at setup c (notes_in since)

    own_fin : (n count : ℕ) (state : Snapshot S) (at : Snapshot Stamp) (done after : List (Note S P)) → notes_by n (done ++ Fin c n count state at ∷ after) ≡ notes_by n done ++ Fin c n count state at ∷ notes_by n after
    own_fin n count state at done after = filter-append (λ m. noted_by m == n) done (Fin c n count state at ∷ after) ∙ ap (λ t. notes_by n done ++ cond t (Fin c n count state at ∷ notes_by n after) (notes_by n after)) (eq-eqb n n refl)

    at_take : (n count : ℕ) (taken : Snapshot Stamp) (first since : List (Deed S P)) → notes_at setup c (notes_in (first ++ noted (Take c n count taken) ∷ since)) ≡ notes_at setup c (notes_in first) ++ Take c n count taken ∷ notes_at setup c (notes_in since)
    at_take n count taken first since =
        ap (notes_at setup c) (notes_in-append first (noted (Take c n count taken) ∷ since))
        ∙ filter-append on_shard (notes_in first) (Take c n count taken ∷ notes_in since)
        ∙ ap (λ t. notes_at setup c (notes_in first) ++ cond t (Take c n count taken ∷ notes_at setup c (notes_in since)) (notes_at setup c (notes_in since))) (eq-eqb (shard_of setup c) (shard_of setup c) refl)

    turn_did : (n count : ℕ) (state : Snapshot S) (at : Snapshot Stamp) (deeds : List (Deed S P)) (notes done after : List (Note S P)) → Did n rests deeds rests → notes_at setup c (notes_in deeds) ≡ notes_by n notes → notes ≡ done ++ Fin c n count state at ∷ after → TurnDid n count state at deeds done
    turn_did n count state at deeds notes done after did same is =
        let fin : Note S P = Fin c n count state at in
        let shard = filter_cut on_shard (notes_in deeds) (notes_by n done) fin (notes_by n after) (same ∙ ap (notes_by n) is ∙ own_fin n count state at done after) in
        let deed = deeds_cut deeds shard.before fin shard.after shard.is in
        at_cut shard.before deed.before deed.after deed.is shard.first deed.first did
      where
        was_taken : (before later : List (Deed S P)) → deeds ≡ before ++ noted (Fin c n count state at) ∷ later → notes_by n done ≡ notes_at setup c (notes_in before) → WasTaken n c count rests before (turns c count 0 []) → TurnDid n count state at deeds done
        was_taken before later cut own was = record {
          first = was.first;
          taken = was.at;
          since = was.since;
          later = later;
          is = cut ∙ ap (λ l. l ++ noted (Fin c n count state at) ∷ later) was.is ∙ append_assoc was.first (noted (Take c n count was.at) ∷ was.since) (noted (Fin c n count state at) ∷ later);
          rested = was.rested;
          did = was.did;
          parts = was.parts;
          own = own ∙ ap (λ l. notes_at setup c (notes_in l)) was.is ∙ at_take n count was.at was.first was.since;
        }

        at_cut : (first : List (Note S P)) (before later : List (Deed S P)) → deeds ≡ before ++ noted (Fin c n count state at) ∷ later → notes_at setup c first ≡ notes_by n done → notes_in before ≡ first → Did n rests deeds rests → TurnDid n count state at deeds done
        at_cut first before later cut own noted_is did =
            let parts = did_cut n rests before (noted (Fin c n count state at)) later rests (subst (λ l. Did n rests l rests) cut did) in
            let here = finish_of n c count state at parts.here parts.next parts.does in
            ⊎_elim
            (λ (still : StillOut c count rests before). let wrong = still.out in cc)
            (λ (was : WasTaken n c count rests before (turns c count 0 [])). was_taken before later cut (sym (ap (notes_at setup c) noted_is ∙ own)) was)
            (out_since n c count 0 [] rests before (subst (Did n rests before) here parts.first))

    module _ (n count : ℕ) (state : Snapshot S) (at : Snapshot Stamp) (deeds : List (Deed S P)) (done : List (Note S P)) (turn : TurnDid n count state at deeds done) where
      -- the runs that were made of the turn
      abbrev turn_runs : List (TimedRun S P)
      turn_runs = timed_on c (timed_of turn.taken.value.number turn.since)

      finished_first : finished_by n done c ≡ ended_of (entries_of (notes_in turn.first)) c
      finished_first =
          let take : Note S P = Take c n count turn.taken in
          let front = notes_at setup c (notes_in turn.first) in
          let back = notes_at setup c (notes_in turn.since) in
          let all : finished_by n done c ≡ ended_of (entries_of front) c + ended_of (entries_of (take ∷ back)) c = ap (λ l. ended_of (entries_of l) c) turn.own ∙ ap (λ h. ended_of h c) (entries_of-append front (take ∷ back)) ∙ sum_by-append (finished_on c) (entries_of front) (entries_of (take ∷ back)) in
          let more = sum_by-cons (finished_on c) (entry_of take) (entries_of back) in
          let none = none_ended c c turn.since turn.parts in
          let there = ended_at (notes_in turn.first) in
          let same = ended_at (notes_in turn.since) in
          omega (arith, all, more, none, there, same)

      -- they are the next ones behind those of turns that were finished before
      runs_are : take count (drop (finished_by n done c) (timed_on c (timed_of 0 deeds))) ≡ turn_runs
      runs_are =
          let fin : Deed S P = noted (Fin c n count state at) in
          let first = timed_of 0 turn.first in
          let mid = timed_of turn.taken.value.number turn.since in
          let last = timed_of (last_stamp turn.taken.value.number turn.since) (fin ∷ turn.later) in
          let cut : timed_of 0 deeds ≡ first ++ (mid ++ last) = ap (timed_of 0) turn.is ∙ timed_of-append 0 turn.first (noted (Take c n count turn.taken) ∷ (turn.since ++ fin ∷ turn.later)) refl ∙ ap (λ l. first ++ l) (timed_of-append turn.taken.value.number turn.since (fin ∷ turn.later) refl) in
          let parts : timed_on c (timed_of 0 deeds) ≡ timed_on c first ++ (timed_on c mid ++ timed_on c last) = ap (timed_on c) cut ∙ filter-append (λ (r : TimedRun S P). r.run.colour.0 == c.0) first (mid ++ last) ∙ ap (λ l. timed_on c first ++ l) (filter-append (λ (r : TimedRun S P). r.run.colour.0 == c.0) mid last) in
          let many : length (timed_on c first) ≡ finished_by n done c = rested-length n c turn.first 0 turn.rested ∙ sym finished_first in
          let has : length (timed_on c mid) ≡ count = turn-length n c count turn.since turn.taken.value.number turn.did turn.parts in
          ap (λ k. take k (drop (finished_by n done c) (timed_on c (timed_of 0 deeds)))) (sym has)
          ∙ ap (λ k. take (length (timed_on c mid)) (drop k (timed_on c (timed_of 0 deeds)))) (sym many)
          ∙ ap (λ l. take (length (timed_on c mid)) (drop (length (timed_on c first)) l)) parts
          ∙ take_middle (timed_on c first) (timed_on c mid) (timed_on c last)

      -- its take and its finish among the notes of the core
      turn_notes : notes_in deeds ≡ (notes_in turn.first ++ Take c n count turn.taken ∷ []) ++ (notes_in turn.since ++ Fin c n count state at ∷ notes_in turn.later)
      turn_notes =
          let take : Note S P = Take c n count turn.taken in
          let fin : Note S P = Fin c n count state at in
          ap notes_in turn.is
          ∙ notes_in-append turn.first (noted take ∷ (turn.since ++ noted fin ∷ turn.later))
          ∙ ap (λ l. notes_in turn.first ++ take ∷ l) (notes_in-append turn.since (noted fin ∷ turn.later))
          ∙ sym (append_assoc (notes_in turn.first) (take ∷ []) (notes_in turn.since ++ fin ∷ notes_in turn.later))

      turn_rises : (k : ℕ) → Rises k (notes_in deeds) → Rises turn.taken.value.number (notes_in turn.since ++ Fin c n count state at ∷ notes_in turn.later)
      turn_rises k rises = from (notes_in turn.first) k (subst (Rises k) turn_notes rises) where
        from : (a : List (Note S P)) (k : ℕ) → Rises k ((a ++ Take c n count turn.taken ∷ []) ++ (notes_in turn.since ++ Fin c n count state at ∷ notes_in turn.later)) → Rises turn.taken.value.number (notes_in turn.since ++ Fin c n count state at ∷ notes_in turn.later)
        from [] k rises = rises.1
        from (x ∷ a) k rises = from a (stamp_of x) rises.1

      -- its runs are between its take and its finish
      turn_was : (k : ℕ) → Rises k (notes_in deeds) → IsLegal setup (entries_of done) → TurnWas n c done count at.value.number (take count (drop (finished_by n done c) (timed_on c (timed_of 0 deeds))))
      turn_was k rises legal = at_cut (filter_cut (λ m. noted_by m == n) done (notes_at setup c (notes_in turn.first)) (Take c n count turn.taken) (notes_at setup c (notes_in turn.since)) turn.own) where
        late : Rises turn.taken.value.number (notes_in turn.since ++ Fin c n count state at ∷ notes_in turn.later)
        late = turn_rises k rises

        behind : AllByRecursion (λ (r : TimedRun S P). turn.taken.value.number ≤ r.at) turn_runs
        behind = all_filter (λ (r : TimedRun S P). turn.taken.value.number ≤ r.at) (λ r. r.run.colour.0 == c.0) (timed_of turn.taken.value.number turn.since)
            (runs_behind turn.taken.value.number turn.taken.value.number turn.since (omega arith) (rises_front turn.taken.value.number (notes_in turn.since) (Fin c n count state at ∷ notes_in turn.later) late))

        ahead : AllByRecursion (λ (r : TimedRun S P). AllByRecursion (λ m. stamp_of m < at.value.number) r.regs) turn_runs
        ahead = all_filter (λ (r : TimedRun S P). AllByRecursion (λ m. stamp_of m < at.value.number) r.regs) (λ r. r.run.colour.0 == c.0) (timed_of turn.taken.value.number turn.since)
            (regs_all (λ m. stamp_of m < at.value.number) turn.taken.value.number turn.since (all_below turn.taken.value.number (notes_in turn.since) (Fin c n count state at) (notes_in turn.later) late))

        at_cut : FilterCut (λ m. noted_by m == n) done (notes_at setup c (notes_in turn.first)) (Take c n count turn.taken) (notes_at setup c (notes_in turn.since)) → TurnWas n c done count at.value.number (take count (drop (finished_by n done c) (timed_on c (timed_of 0 deeds))))
        at_cut cut =
            let quiet = all_quiet n c cut.after (subst (AllByRecursion IsReg) (sym cut.later) (all_filter IsReg on_shard (notes_in turn.since) (part_regs c turn.since turn.parts))) in
            let whole = subst (λ l. IsLegal setup (entries_of l)) cut.is legal in
            record {
              before = cut.before;
              since = cut.after;
              taken = turn.taken;
              is = cut.is;
              quiet = none_finishes n c setup cut.before cut.after count turn.taken whole quiet;
              registered = subst (λ l. ended_of (entries_of l) c + count ≤ length (loaded_of cut.before c)) (sym cut.is) (turn_registered n c setup cut.before cut.after count turn.taken whole quiet);
              behind = subst (AllByRecursion (λ (r : TimedRun S P). turn.taken.value.number ≤ r.at)) (sym runs_are) behind;
              ahead = subst (AllByRecursion (λ (r : TimedRun S P). AllByRecursion (λ m. stamp_of m < at.value.number) r.regs)) (sym runs_are) ahead;
            }

  -- ---- all of it

  -- a worker that has no turn rests
  doing_rests : (phase : Phase S P) → is_turning phase ≡ false → doing_of phase ≡ rests
  doing_rests (Free place) not = refl
  doing_rests (Popped mark) not = refl
  doing_rests (Picked mark victim) not = refl
  doing_rests (Landing mark) not = refl
  doing_rests (Pushing core mark) not = refl
  doing_rests (Turning turn hand puts) not = cc

  -- the notes before another are legal, where all are
  legal_done : (setup : Setup) (notes done after : List (Note S P)) → notes ≡ done ++ after → IsLegal setup (entries_of notes) → IsLegal setup (entries_of done)
  legal_done setup notes done after is legal = legal_front setup (entries_of done) (entries_of after) (subst (IsLegal setup) (ap entries_of is ∙ entries_of-append done after) legal)

  -- the runs of a core that has come to its end, with their times
  pub core_timed : (setup : Setup) (n : ℕ) (notes : Colour → List (Note S P)) (w : WorkerState S P) (runs : List (HandlerRun S P)) → ((c : Colour) → IsLegal setup (entries_of (notes c)))
      → (core : CoreDid setup n notes w runs) → w.lost ≡ [] → is_turning w.phase ≡ false → CoreTimed n notes runs (timed_of 0 core.deeds)
  core_timed setup n notes w runs legal core none_lost no_turn =
      let deeds = core.deeds in
      let did : Did n rests deeds rests = subst (Did n rests deeds) (doing_rests w.phase no_turn) (core.did none_lost) in
      let rises : Rises 0 (notes_in deeds) = rises_from [] (notes_in deeds) core.rise in
      record {
        are = timed_are 0 deeds ∙ core.came;
        regs = λ c. ap (regs_on c) (sym (core.noted_at c)) ∙ regs_at setup c (notes_in deeds) ∙ regs_noted n c rests deeds 0 did ∙ ap (λ l. regs_on c l ++ flat_map (λ (r : TimedRun S P). regs_on c r.regs) (timed_of 0 deeds)) (none_first n rests deeds did refl);
        of_puts = puts_noted n rests deeds 0 did;
        later = regs_later 0 deeds rises;
        rise = regs_rise 0 deeds rises;
        turns = λ c done after count state at is.
            turn_was setup c n count state at deeds done
            (turn_did setup c n count state at deeds (notes c) done after did (core.noted_at c) is) 0 rises
            (legal_done setup (notes c) done (Fin c n count state at ∷ after) is (legal c));
      }
