-- What a core did, deed by deed: the notes of what its runs put, and how many runs a turn has.
use Rattle.std.proofs.Common.{◌≡◌, ℕ, suc, ◌==◌, List, [], ◌∷◌, ◌++◌, ◌⊎◌, Option, Bool, true, false, cond, map, filter, refl, sym, ◌∙◌, ap, subst, inl, inr, ⊎_elim}
use Rattle.std.specs.Prelude.{flat_map}
use Rattle.std.specs.List.{AllByRecursion}
use Rattle.std.specs.declared.snapshot.Snapshot.{Snapshot}
use Rattle.mely_event.specs.declared.colour.Colour.{Colour}
use Rattle.mely_event.specs.declared.event.Event.{Event}
use Rattle.mely_note.specs.declared.note.Note.{Note}
use Rattle.mely_note.specs.declared.note.Note.TheVariants.{Reg, Take, Fin, Steal}
use Rattle.mely_note.specs.declared.stamp.Stamp.{Stamp}
use Rattle.mely_note.specs.Notes.{stamp_of}
use Rattle.mely_tally.specs.Account.{HandlerRun}
use Rattle.mely_chain.specs.Deeds.{Deed, noted, ran, Doing, rests, turns, Does, takes, steals, runs, registers, finishes, Did, notes_in, runs_in}
use Rattle.mely_cause.proofs.TimedRuns.{TimedRun, regs_first, timed_of, regs_on, AreOf}

module _ {P : Type 0} where
  -- what is left to register of what the last run put
  abbrev pub left_of : Doing P → List (Colour × Event × Option P)
  left_of rests = []
  left_of (turns c count left puts) = puts

module _ {S P : Type 0} (n : ℕ) (Q : Doing P → List (Deed S P) → Doing P → Type 0)
    (none : (now : Doing P) → Q now [] now)
    (take : (c : Colour) (count : ℕ) (at : Snapshot Stamp) (more : List (Deed S P)) (after : Doing P) → Did n (turns c count count []) more after → Q (turns c count count []) more after → Q rests (noted (Take c n count at) ∷ more) after)
    (steal : (c : Colour) (from : ℕ) (at : Snapshot Stamp) (more : List (Deed S P)) (after : Doing P) → Did n rests more after → Q rests more after → Q rests (noted (Steal c from n at) ∷ more) after)
    (run : (r : HandlerRun S P) (count left : ℕ) (more : List (Deed S P)) (after : Doing P) → Did n (turns r.colour count left r.puts) more after → Q (turns r.colour count left r.puts) more after → Q (turns r.colour count (suc left) []) (ran r ∷ more) after)
    (register : (c : Colour) (count left : ℕ) (put : Colour × Event × Option P) (puts : List (Colour × Event × Option P)) (load : Snapshot (Option P)) (at : Snapshot Stamp) (more : List (Deed S P)) (after : Doing P) → load.value ≡ put.2 → Did n (turns c count left puts) more after → Q (turns c count left puts) more after → Q (turns c count left (put ∷ puts)) (noted (Reg put.0 put.1 load n at) ∷ more) after)
    (finish : (c : Colour) (count : ℕ) (state : Snapshot S) (at : Snapshot Stamp) (more : List (Deed S P)) (after : Doing P) → Did n rests more after → Q rests more after → Q (turns c count 0 []) (noted (Fin c n count state at) ∷ more) after) where
  -- what holds of nothing done, and goes on over each deed that comes first, holds of all that was done
  pub over_did : (before : Doing P) (deeds : List (Deed S P)) (after : Doing P) → Did n before deeds after → Q before deeds after
  over_did before [] after is = subst (λ d. Q before [] d) (sym is) (none before)
  over_did before (deed ∷ more) after (next, does, rest) = one does (over_did next more after rest) where
    one : Does n before deed next → Q next more after → Q before (deed ∷ more) after
    one (takes c count at b d t) old = subst (λ z. Q z (deed ∷ more) after) (sym b) (subst (λ x. Q rests (x ∷ more) after) (sym d) (take c count at more after (subst (λ z. Did n z more after) t rest) (subst (λ z. Q z more after) t old)))
    one (steals c from at b d t) old = subst (λ z. Q z (deed ∷ more) after) (sym b) (subst (λ x. Q rests (x ∷ more) after) (sym d) (steal c from at more after (subst (λ z. Did n z more after) t rest) (subst (λ z. Q z more after) t old)))
    one (runs r count left b d t) old = subst (λ z. Q z (deed ∷ more) after) (sym b) (subst (λ x. Q (turns r.colour count (suc left) []) (x ∷ more) after) (sym d) (run r count left more after (subst (λ z. Did n z more after) t rest) (subst (λ z. Q z more after) t old)))
    one (registers c count left put puts load at b v d t) old = subst (λ z. Q z (deed ∷ more) after) (sym b) (subst (λ x. Q (turns c count left (put ∷ puts)) (x ∷ more) after) (sym d) (register c count left put puts load at more after v (subst (λ z. Did n z more after) t rest) (subst (λ z. Q z more after) t old)))
    one (finishes c count state at b d t) old = subst (λ z. Q z (deed ∷ more) after) (sym b) (subst (λ x. Q (turns c count 0 []) (x ∷ more) after) (sym d) (finish c count state at more after (subst (λ z. Did n z more after) t rest) (subst (λ z. Q z more after) t old)))

-- what holds of each holds of each that passes a test
pub all_filter : {X : Type 0} (Q : X → Type 0) (p : X → Bool) (xs : List X) → AllByRecursion Q xs → AllByRecursion Q (filter p xs)
all_filter Q p [] all = tt
all_filter Q p (x ∷ xs) all = for (p x) (all_filter Q p xs all.1) where
  for : (own : Bool) → AllByRecursion Q (filter p xs) → AllByRecursion Q (cond own (x ∷ filter p xs) (filter p xs))
  for true rest = (all.0, rest)
  for false rest = rest

module _ {S P : Type 0} where
  -- ---- the notes of what was put

  -- where the core comes to rest, the notes with which it goes on are of what is left to register
  pub first_left : (n : ℕ) (before : Doing P) (deeds : List (Deed S P)) → Did n before deeds rests → AreOf (regs_first deeds) (left_of before)
  first_left n before deeds did = over_did n (λ now ds after. after ≡ rests → AreOf (regs_first ds) (left_of now))
      (λ now is. subst (λ d. AreOf {S = S} [] (left_of d)) (sym is) tt)
      (λ c count at more after did old is. tt)
      (λ c from at more after did old is. tt)
      (λ r count left more after did old is. tt)
      (λ c count left put puts load at more after value did old is. (refl, refl, value, old is))
      (λ c count state at more after did old is. tt)
      before deeds rests did refl

  none_of : (notes : List (Note S P)) → AreOf notes [] → notes ≡ []
  none_of [] are = refl
  none_of (Reg d event load by at ∷ notes) are = absurd are
  none_of (Take d core count at ∷ notes) are = absurd are
  none_of (Fin d core count state at ∷ notes) are = absurd are
  none_of (Steal d from to at ∷ notes) are = absurd are

  -- where nothing is left to register, it goes on with no registration
  pub none_first : (n : ℕ) (before : Doing P) (deeds : List (Deed S P)) → Did n before deeds rests → left_of before ≡ [] → regs_first deeds ≡ []
  none_first n before deeds did none = none_of (regs_first deeds) (subst (AreOf (regs_first deeds)) none (first_left n before deeds did))

  -- the notes behind each run are of what it put
  pub puts_noted : (n : ℕ) (before : Doing P) (deeds : List (Deed S P)) (k : ℕ) → Did n before deeds rests → AllByRecursion (λ (r : TimedRun S P). AreOf r.regs r.run.puts) (timed_of k deeds)
  puts_noted n before deeds k did = over_did n (λ now ds after. (k : ℕ) → after ≡ rests → AllByRecursion (λ (r : TimedRun S P). AreOf r.regs r.run.puts) (timed_of k ds))
      (λ now k is. tt)
      (λ c count at more after did old k is. old at.value.number is)
      (λ c from at more after did old k is. old at.value.number is)
      (λ r count left more after did old k is. (first_left n (turns r.colour count left r.puts) more (subst (Did n (turns r.colour count left r.puts) more) is did), old k is))
      (λ c count left put puts load at more after value did old k is. old at.value.number is)
      (λ c count state at more after did old k is. old at.value.number is)
      before deeds rests did k refl

  -- the registrations on a colour are those with which the deeds begin, and those behind each run
  pub regs_noted : (n : ℕ) (c : Colour) (before : Doing P) (deeds : List (Deed S P)) (k : ℕ) → Did n before deeds rests → regs_on c (notes_in deeds) ≡ regs_on c (regs_first deeds) ++ flat_map (λ (r : TimedRun S P). regs_on c r.regs) (timed_of k deeds)
  regs_noted n c before deeds k did = over_did n (λ now ds after. (k : ℕ) → after ≡ rests → regs_on c (notes_in ds) ≡ regs_on c (regs_first ds) ++ flat_map (λ (r : TimedRun S P). regs_on c r.regs) (timed_of k ds))
      (λ now k is. refl)
      (λ d count at more after did old k is. old at.value.number is ∙ ap (λ l. regs_on c l ++ flat_map (λ (r : TimedRun S P). regs_on c r.regs) (timed_of at.value.number more)) (quiet (turns d count count []) more after did is refl))
      (λ d from at more after did old k is. old at.value.number is ∙ ap (λ l. regs_on c l ++ flat_map (λ (r : TimedRun S P). regs_on c r.regs) (timed_of at.value.number more)) (quiet rests more after did is refl))
      (λ r count left more after did old k is. old k is)
      (λ d count left put puts load at more after value did old k is. one (put.0.0 == c.0) (Reg put.0 put.1 load n at) (regs_on c (notes_in more)) (regs_on c (regs_first more)) (flat_map (λ (r : TimedRun S P). regs_on c r.regs) (timed_of at.value.number more)) (old at.value.number is))
      (λ d count state at more after did old k is. old at.value.number is ∙ ap (λ l. regs_on c l ++ flat_map (λ (r : TimedRun S P). regs_on c r.regs) (timed_of at.value.number more)) (quiet rests more after did is refl))
      before deeds rests did k refl
    where
      quiet : (now : Doing P) (more : List (Deed S P)) (after : Doing P) → Did n now more after → after ≡ rests → left_of now ≡ [] → regs_first more ≡ []
      quiet now more after did is none = none_first n now more (subst (Did n now more) is did) none

      one : (own : Bool) (x : Note S P) (xs ys zs : List (Note S P)) → xs ≡ ys ++ zs → cond own (x ∷ xs) xs ≡ cond own (x ∷ ys) ys ++ zs
      one true x xs ys zs is = ap (λ l. x ∷ l) is
      one false x xs ys zs is = is

  -- without their times they are the runs that were made
  pub timed_are : (k : ℕ) (deeds : List (Deed S P)) → map (λ (r : TimedRun S P). r.run) (timed_of k deeds) ≡ runs_in deeds
  timed_are k [] = refl
  timed_are k (noted note ∷ more) = timed_are (stamp_of note) more
  timed_are k (ran run ∷ more) = ap (λ l. run ∷ l) (timed_are k more)

  -- what holds of each note holds of those behind each run
  first_all : (Q : Note S P → Type 0) (deeds : List (Deed S P)) → AllByRecursion Q (notes_in deeds) → AllByRecursion Q (regs_first deeds)
  first_all Q [] all = tt
  first_all Q (ran run ∷ more) all = tt
  first_all Q (noted (Reg d event load by at) ∷ more) all = (all.0, first_all Q more all.1)
  first_all Q (noted (Take d core count at) ∷ more) all = tt
  first_all Q (noted (Fin d core count state at) ∷ more) all = tt
  first_all Q (noted (Steal d from to at) ∷ more) all = tt

  pub regs_all : (Q : Note S P → Type 0) (k : ℕ) (deeds : List (Deed S P)) → AllByRecursion Q (notes_in deeds) → AllByRecursion (λ (r : TimedRun S P). AllByRecursion Q r.regs) (timed_of k deeds)
  regs_all Q k [] all = tt
  regs_all Q k (noted note ∷ more) all = regs_all Q (stamp_of note) more all.1
  regs_all Q k (ran run ∷ more) all = (first_all Q more all, regs_all Q k more all)

  -- ---- what was done first, and what was done then

  -- the stamp of the last note
  abbrev pub last_stamp : ℕ → List (Deed S P) → ℕ
  last_stamp k [] = k
  last_stamp k (noted note ∷ more) = last_stamp (stamp_of note) more
  last_stamp k (ran run ∷ more) = last_stamp k more

  regs_first-append : (a b : List (Deed S P)) → regs_first b ≡ [] → regs_first (a ++ b) ≡ regs_first a
  regs_first-append [] b none = none
  regs_first-append (ran run ∷ a) b none = refl
  regs_first-append (noted (Reg d event load by at) ∷ a) b none = ap (λ l. Reg d event load by at ∷ l) (regs_first-append a b none)
  regs_first-append (noted (Take d core count at) ∷ a) b none = refl
  regs_first-append (noted (Fin d core count state at) ∷ a) b none = refl
  regs_first-append (noted (Steal d from to at) ∷ a) b none = refl

  pub timed_of-append : (k : ℕ) (a b : List (Deed S P)) → regs_first b ≡ [] → timed_of k (a ++ b) ≡ timed_of k a ++ timed_of (last_stamp k a) b
  timed_of-append k [] b none = refl
  timed_of-append k (noted note ∷ a) b none = timed_of-append (stamp_of note) a b none
  timed_of-append k (ran run ∷ a) b none =
      let rest = timed_of-append k a b none in
      let first = regs_first-append a b none in
      ap (λ l. record { run = run; at = k; regs = l } ∷ timed_of k (a ++ b)) first ∙ ap (λ l. record { run = run; at = k; regs = regs_first a } ∷ l) rest

  -- what was done, cut at a deed
  pub record DidCut (n : ℕ) (before : Doing P) (a : List (Deed S P)) (deed : Deed S P) (b : List (Deed S P)) (after : Doing P) : Type 0 where
    pub here : Doing P
    pub next : Doing P
    pub first : Did n before a here
    pub does : Does n here deed next
    pub later : Did n next b after

  pub did_cut : (n : ℕ) (before : Doing P) (a : List (Deed S P)) (deed : Deed S P) (b : List (Deed S P)) (after : Doing P) → Did n before (a ++ deed ∷ b) after → DidCut n before a deed b after
  did_cut n before [] deed b after (next, does, rest) = record { here = before; next = next; first = refl; does = does; later = rest }
  did_cut n before (x ∷ a) deed b after (next, does, rest) =
      let cut = did_cut n next a deed b after rest in
      record { here = cut.here; next = cut.next; first = (next, does, cut.first); does = cut.does; later = cut.later }

  -- a turn that is finished has nothing left
  pub finish_of : (n : ℕ) (c : Colour) (count : ℕ) (state : Snapshot S) (at : Snapshot Stamp) (here next : Doing P) → Does n here (noted (Fin c n count state at)) next → here ≡ turns c count 0 []
  finish_of n c count state at here next (takes d many at' b is t) = cc
  finish_of n c count state at here next (steals d from at' b is t) = cc
  finish_of n c count state at here next (runs r many left b is t) = cc
  finish_of n c count state at here next (registers d many left put puts load at' b v is t) = cc
  finish_of n c count state at here next (finishes d many state' at' b is t) =
      let same : d ≡ c = cc in
      let count_is : many ≡ count = cc in
      b ∙ ap (λ e. turns e many 0 []) same ∙ ap (λ k. turns c k 0 []) count_is

  -- ---- the turn that is out

  -- a run on the colour, or a registration
  abbrev pub IsPart : Colour → Deed S P → Type 0
  IsPart c (ran run) = run.colour ≡ c
  IsPart c (noted (Reg d event load by at)) = Unit {0}
  IsPart c (noted (Take d core count at)) = ⊥
  IsPart c (noted (Fin d core count state at)) = ⊥
  IsPart c (noted (Steal d from to at)) = ⊥

  -- the turn that is out then was out from the first, and nothing else was done
  pub record StillOut (c : Colour) (count : ℕ) (before : Doing P) (deeds : List (Deed S P)) : Type 0 where
    pub left : ℕ
    pub puts : List (Colour × Event × Option P)
    pub out : before ≡ turns c count left puts
    pub parts : AllByRecursion (IsPart c) deeds

  -- the turn that is out then was taken, and since then nothing else was done
  pub record WasTaken (n : ℕ) (c : Colour) (count : ℕ) (before : Doing P) (deeds : List (Deed S P)) (after : Doing P) : Type 0 where
    pub first : List (Deed S P)
    pub at : Snapshot Stamp
    pub since : List (Deed S P)
    pub is : deeds ≡ first ++ noted (Take c n count at) ∷ since
    pub rested : Did n before first rests
    pub did : Did n (turns c count count []) since after
    pub parts : AllByRecursion (IsPart c) since

  longer_out : (n : ℕ) (c : Colour) (count left : ℕ) (puts : List (Colour × Event × Option P)) (before next : Doing P) (deed : Deed S P) (more : List (Deed S P)) → Does n before deed next → Did n next more (turns c count left puts) → StillOut c count next more → StillOut c count before (deed ∷ more) ⊎ WasTaken n c count before (deed ∷ more) (turns c count left puts)
  longer_out n c count left puts before next deed more (takes d many at b is t) did still =
      let both : turns d many many [] ≡ turns c count still.left still.puts = sym t ∙ still.out in
      let same : d ≡ c = cc in
      let count_is : many ≡ count = cc in
      let deed_is : deed ≡ noted (Take c n count at) = is ∙ ap (λ e. noted (Take e n many at)) same ∙ ap (λ k. noted (Take c n k at)) count_is in
      let now : next ≡ turns c count count [] = t ∙ ap (λ e. turns e many many []) same ∙ ap (λ k. turns c k k []) count_is in
      inr (record { first = []; at = at; since = more; is = ap (λ x. x ∷ more) deed_is; rested = sym b; did = subst (λ z. Did n z more (turns c count left puts)) now did; parts = still.parts })
  longer_out n c count left puts before next deed more (steals d from at b is t) did still = let wrong : rests ≡ turns c count still.left still.puts = sym t ∙ still.out in cc
  longer_out n c count left puts before next deed more (runs r many rest b is t) did still =
      let both : turns r.colour many rest r.puts ≡ turns c count still.left still.puts = sym t ∙ still.out in
      let same : r.colour ≡ c = cc in
      let count_is : many ≡ count = cc in
      inl (record { left = suc rest; puts = []; out = b ∙ ap (λ e. turns e many (suc rest) []) same ∙ ap (λ k. turns c k (suc rest) []) count_is; parts = (subst (IsPart c) (sym is) same, still.parts) })
  longer_out n c count left puts before next deed more (registers d many rest put more_puts load at b v is t) did still =
      let both : turns d many rest more_puts ≡ turns c count still.left still.puts = sym t ∙ still.out in
      let same : d ≡ c = cc in
      let count_is : many ≡ count = cc in
      inl (record { left = rest; puts = put ∷ more_puts; out = b ∙ ap (λ e. turns e many rest (put ∷ more_puts)) same ∙ ap (λ k. turns c k rest (put ∷ more_puts)) count_is; parts = (subst (IsPart c) (sym is) tt, still.parts) })
  longer_out n c count left puts before next deed more (finishes d many state at b is t) did still = let wrong : rests ≡ turns c count still.left still.puts = sym t ∙ still.out in cc

  pub out_since : (n : ℕ) (c : Colour) (count left : ℕ) (puts : List (Colour × Event × Option P)) (before : Doing P) (deeds : List (Deed S P)) → Did n before deeds (turns c count left puts) → StillOut c count before deeds ⊎ WasTaken n c count before deeds (turns c count left puts)
  out_since n c count left puts before [] is = inl (record { left = left; puts = puts; out = sym is; parts = tt })
  out_since n c count left puts before (deed ∷ more) (next, does, rest) = ⊎_elim
      (λ (still : StillOut c count next more). longer_out n c count left puts before next deed more does rest still)
      (λ (was : WasTaken n c count next more (turns c count left puts)). inr (record { first = deed ∷ was.first; at = was.at; since = was.since; is = ap (λ l. deed ∷ l) was.is; rested = (next, does, was.rested); did = was.did; parts = was.parts }))
      (out_since n c count left puts next more rest)
