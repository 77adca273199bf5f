-- What each kind of entry does to the marks, the reports and the turns.
use Rattle.std.proofs.Common.{◌≡◌, ℕ, ◌+◌, ◌≤◌, ◌<◌, ◌⊎◌, true, false, List, [], ◌∷◌, ◌++◌, Option, Some, length, take, drop, refl, sym, ◌∙◌, ap, subst, arith, inl, inr, ⊎_elim}
use Rattle.std.proofs.lemmas.List.{take-append-le}
use Rattle.std.proofs.lemmas.Option.{same_Some}
use Rattle.mely_event.specs.declared.colour.Colour.{Colour}
use Rattle.mely_event.specs.declared.event.Event.{Event}
use Rattle.mely_event.specs.declared.mark.Mark.{Mark}
use Rattle.mely_history.specs.declared.setup.Setup.{Setup}
use Rattle.mely_history.specs.declared.entry.Entry.{Entry}
use Rattle.mely_history.specs.declared.entry.Entry.TheVariants.{Reg, Take, Fin, Steal}
use Rattle.mely_history.specs.Entries.{colour_of}
use Rattle.mely_history.specs.Legal.{MayTake, MayFinish, MaySteal, IsAllowed, IsLegal}
use Rattle.mely_history.specs.ColourAccount.{ColourAccount, account_of, next_account}
use Rattle.mely_history.proofs.LegalAccountLemmas.{begun_within, taken_within}
use Rattle.mely_weave.specs.Side.{Readiness, readiness_of}
use Rattle.mely_weave.specs.Marks.{Placed, is_told, bit, MarksStand}
use Rattle.mely_weave.proofs.Marks.CountsLemmas.{Alike}
use Rattle.mely_weave.proofs.Marks.MarkLemmas.{IsGrown, stand_changed, stand_grown, stand_alike, told_where}
use Rattle.mely_weave.proofs.Entries.EntryLemmas.{Histories, accounts, readinesses, Adds, account_moves, account_stays, readiness_stays, readiness_moves, by_colour, is_ready, runs_unready, none_unready, some_waits, none_waits, worth_grows, more_registered}

module _ (setup : Setup) (h h' : Histories) (entry : Entry) (adds : Adds setup h h' entry) (marks marks' : List Placed) where
  abbrev of : Colour → Readiness
  of = readinesses setup h

  abbrev of' : Colour → Readiness
  of' = readinesses setup h'

  abbrev c : Colour
  c = colour_of entry

  -- a colour that becomes ready gets a mark
  ready_keeps : (p : Placed) → p.1.colour.0 ≡ c.0 → (of c).ready ≡ false → (of' c).ready ≡ true → is_told of' p ≡ true → Alike marks' (p ∷ marks) → MarksStand of marks → MarksStand of' marks'
  ready_keeps p of_c was is told alike stands =
      stand_changed of of' c marks marks' [] (p ∷ []) marks (readiness_stays setup h h' entry adds) tt (of_c, tt) (sym (ap bit was)) (sym (ap bit is)) (told, tt) (λ q. refl) alike stands

  -- a ready colour that becomes unready gives up its mark
  unready_keeps : (p : Placed) → p.1.colour.0 ≡ c.0 → (of c).ready ≡ true → (of' c).ready ≡ false → Alike marks (p ∷ marks') → MarksStand of marks → MarksStand of' marks'
  unready_keeps p of_c was is alike stands =
      stand_changed of of' c marks marks' (p ∷ []) [] marks' (readiness_stays setup h h' entry adds) (of_c, tt) tt (sym (ap bit was)) (sym (ap bit is)) tt alike (λ q. refl) stands

  -- a colour that is ready neither before nor after
  quiet_keeps : (of c).ready ≡ false → (of' c).ready ≡ false → Alike marks' marks → MarksStand of marks → MarksStand of' marks'
  quiet_keeps was is alike stands =
      stand_changed of of' c marks marks' [] [] marks (readiness_stays setup h h' entry adds) tt tt (sym (ap bit was)) (sym (ap bit is)) tt (λ q. refl) alike stands

  -- a ready colour that gets another mark in the place of its own
  other_keeps : (p q : Placed) (rest : List Placed) → p.1.colour.0 ≡ c.0 → q.1.colour.0 ≡ c.0 → (of c).ready ≡ true → (of' c).ready ≡ true → is_told of' q ≡ true → Alike marks (p ∷ rest) → Alike marks' (q ∷ rest) → MarksStand of marks → MarksStand of' marks'
  other_keeps p q rest of_p of_q was is told alike alike' stands =
      stand_changed of of' c marks marks' (p ∷ []) (q ∷ []) rest (readiness_stays setup h h' entry adds) (of_p, tt) (of_q, tt) (sym (ap bit was)) (sym (ap bit is)) (told, tt) alike alike' stands

  -- a ready colour that is worth more
  grown_keeps : IsGrown (of c) (of' c) → Alike marks marks' → MarksStand of marks → MarksStand of' marks'
  grown_keeps grown alike stands =
      stand_alike of' marks marks' alike (stand_grown of of' marks (by_colour setup h h' entry adds (λ d. IsGrown (of d) (of' d)) grown
      (λ d other. subst (IsGrown (of d)) (sym (readiness_stays setup h h' entry adds d other)) (record { ready = refl; owner = refl; begun = refl; worth = omega arith }))) stands)

module _ (setup : Setup) (h h' : Histories) (c : Colour) (event : Event) (by : ℕ) (adds : Adds setup h h' (Reg c event by)) where
  abbrev s : ColourAccount
  s = accounts setup h c

  abbrev s' : ColourAccount
  s' = record s { registered = s.registered ++ event ∷ [] }

  within : s.begun ≤ length s.registered
  within = begun_within setup (h c) c adds.legal

  moves : readinesses setup h' c ≡ readiness_of setup s'
  moves = readiness_moves setup h h' (Reg c event by) adds

  -- a registration on a colour that rests is told of, and the colour is ready
  reg_ready : s.begun ≡ s.ended → (readinesses setup h' c).ready ≡ true
  reg_ready rest = ap (λ (r : Readiness). r.ready) moves ∙ is_ready setup s' rest (omega (arith, within, more_registered s event))

  pub woke_keeps : (marks marks' : List Placed) (owner started worth : ℕ) → s.begun ≡ s.ended → drop s.begun s.registered ≡ [] → owner ≡ (accounts setup h' c).owner → started ≡ (accounts setup h' c).begun → worth ≡ (readinesses setup h' c).worth
      → Alike marks' ((owner, record { colour = c; started = started; worth = worth }) ∷ marks) → MarksStand (readinesses setup h) marks → MarksStand (readinesses setup h') marks'
  woke_keeps marks marks' owner started worth rest none of_owner of_begun of_worth alike stands =
      let mark : Mark = record { colour = c; started = started; worth = worth } in
      ready_keeps setup h h' (Reg c event by) adds marks marks' (owner, mark) refl (none_unready setup s (none_waits s none)) (reg_ready rest)
      (told_where (readinesses setup h') owner mark of_owner of_begun (omega (arith, of_worth))) alike stands

  pub told_keeps : (marks marks' : List Placed) → s.begun ≡ s.ended → 0 < length (drop s.begun s.registered) → Alike marks marks' → MarksStand (readinesses setup h) marks → MarksStand (readinesses setup h') marks'
  told_keeps marks marks' rest some alike stands =
      let grown : IsGrown (readiness_of setup s) (readiness_of setup s') = record {
        ready = is_ready setup s' rest (omega (arith, within, more_registered s event)) ∙ sym (is_ready setup s rest (some_waits s some));
        owner = refl;
        begun = refl;
        worth = worth_grows setup s event within;
      } in
      grown_keeps setup h h' (Reg c event by) adds marks marks' (subst (IsGrown (readiness_of setup s)) (sym moves) grown) alike stands

  pub running_keeps : (marks marks' : List Placed) → s.ended < s.begun → Alike marks' marks → MarksStand (readinesses setup h) marks → MarksStand (readinesses setup h') marks'
  running_keeps marks marks' runs alike stands =
      quiet_keeps setup h h' (Reg c event by) adds marks marks' (runs_unready setup s (λ e. omega (arith, e, runs)))
      (ap (λ (r : Readiness). r.ready) moves ∙ runs_unready setup s' (λ e. omega (arith, e, runs))) alike stands

-- a take takes the mark of its colour away
pub take_keeps : (setup : Setup) (h h' : Histories) (c : Colour) (core count : ℕ) → Adds setup h h' (Take c core count) → (marks marks' : List Placed) (p : Placed) → p.1.colour.0 ≡ c.0 → Alike marks (p ∷ marks') → MarksStand (readinesses setup h) marks → MarksStand (readinesses setup h') marks'
take_keeps setup h h' c core count adds marks marks' p of_c alike stands =
    let s : ColourAccount = accounts setup h c in
    let may : MayTake setup (h c) c core count = adds.allowed in
    let within = taken_within setup (h c) c count may.ready.waiting may.whole_batch in
    let some : 0 < count = within.0 in
    unready_keeps setup h h' (Take c core count) adds marks marks' p of_c (is_ready setup s may.ready.at_rest (some_waits s may.ready.waiting))
    (ap (λ (r : Readiness). r.ready) (readiness_moves setup h h' (Take c core count) adds) ∙ runs_unready setup (next_account s (Take c core count)) (λ e. omega (arith, e, some, may.ready.at_rest))) alike stands

module _ (setup : Setup) (h h' : Histories) (c : Colour) (core count : ℕ) (adds : Adds setup h h' (Fin c core count)) (runs : (accounts setup h c).ended < (accounts setup h c).begun) where
  abbrev was : ColourAccount
  was = accounts setup h c

  fin_moves : readinesses setup h' c ≡ readiness_of setup (record was { ended = was.ended + count })
  fin_moves = readiness_moves setup h h' (Fin c core count) adds

  fin_account : accounts setup h' c ≡ record was { ended = was.ended + count }
  fin_account = account_moves setup h h' (Fin c core count) adds

  -- a finish with more makes the colour ready, and there is a mark for its owner
  pub more_keeps : (marks marks' : List Placed) (started worth : ℕ) → 0 < length (drop (accounts setup h' c).begun (accounts setup h' c).registered) → core ≡ (accounts setup h' c).owner → started ≡ (accounts setup h' c).begun → worth ≡ (readinesses setup h' c).worth
      → Alike marks' ((core, record { colour = c; started = started; worth = worth }) ∷ marks) → MarksStand (readinesses setup h) marks → MarksStand (readinesses setup h') marks'
  more_keeps marks marks' started worth some of_owner of_begun of_worth alike stands =
      let mark : Mark = record { colour = c; started = started; worth = worth } in
      let may : MayFinish (h c) c core count = adds.allowed in
      let some' : 0 < length (drop was.begun was.registered) = subst (λ (s : ColourAccount). 0 < length (drop s.begun s.registered)) fin_account some in
      ready_keeps setup h h' (Fin c core count) adds marks marks' (core, mark) refl (runs_unready setup was (λ e. omega (arith, e, runs)))
      (ap (λ (r : Readiness). r.ready) fin_moves ∙ is_ready setup (record was { ended = was.ended + count }) may.whole (some_waits was some'))
      (told_where (readinesses setup h') core mark of_owner of_begun (omega (arith, of_worth))) alike stands

  -- a finish with nothing more
  pub idle_keeps : (marks marks' : List Placed) → drop (accounts setup h' c).begun (accounts setup h' c).registered ≡ [] → Alike marks' marks → MarksStand (readinesses setup h) marks → MarksStand (readinesses setup h') marks'
  idle_keeps marks marks' none alike stands =
      let none' : drop was.begun was.registered ≡ [] = subst (λ (s : ColourAccount). drop s.begun s.registered ≡ []) fin_account none in
      quiet_keeps setup h h' (Fin c core count) adds marks marks' (runs_unready setup was (λ e. omega (arith, e, runs)))
      (ap (λ (r : Readiness). r.ready) fin_moves ∙ none_unready setup (record was { ended = was.ended + count }) (none_waits was none')) alike stands

-- a steal gives the colour another mark, for the thief
pub steal_keeps : (setup : Setup) (h h' : Histories) (c : Colour) (from to : ℕ) → Adds setup h h' (Steal c from to) → (marks marks' rest : List Placed) (p : Placed) (started worth : ℕ) → p.1.colour.0 ≡ c.0 → started ≡ (accounts setup h' c).begun → worth ≡ (readinesses setup h' c).worth
    → Alike marks (p ∷ rest) → Alike marks' ((to, record { colour = c; started = started; worth = worth }) ∷ rest) → MarksStand (readinesses setup h) marks → MarksStand (readinesses setup h') marks'
steal_keeps setup h h' c from to adds marks marks' rest p started worth of_c of_begun of_worth alike alike' stands =
    let s : ColourAccount = accounts setup h c in
    let mark : Mark = record { colour = c; started = started; worth = worth } in
    let may : MaySteal setup (h c) c from to = adds.allowed in
    other_keeps setup h h' (Steal c from to) adds marks marks' p (to, mark) rest of_c refl
    (is_ready setup s may.ready.at_rest (some_waits s may.ready.waiting))
    (ap (λ (r : Readiness). r.ready) (readiness_moves setup h h' (Steal c from to) adds) ∙ is_ready setup (record s { owner = to }) may.ready.at_rest (some_waits s may.ready.waiting))
    (told_where (readinesses setup h') to mark (sym (ap (λ (t : ColourAccount). t.owner) (account_moves setup h h' (Steal c from to) adds))) of_begun (omega (arith, of_worth))) alike alike' stands

-- no fewer events were begun, and where not more were, the colour is not worth less
pub record IsOnward (was is : Readiness) : Type 0 where
  pub begun : was.begun ≤ is.begun
  pub worth : is.begun ≡ was.begun → was.worth ≤ is.worth

onward_next : (setup : Setup) (history : List Entry) (entry : Entry) → IsLegal setup history → IsAllowed setup history entry
    → IsOnward (readiness_of setup (account_of setup history (colour_of entry))) (readiness_of setup (next_account (account_of setup history (colour_of entry)) entry))
onward_next setup history (Reg c event by) legal may = record {
  begun = omega arith;
  worth = λ _. worth_grows setup (account_of setup history c) event (begun_within setup history c legal);
}
onward_next setup history (Take c core count) legal may =
    let within = taken_within setup history c count may.ready.waiting may.whole_batch in
    let some : 0 < count = within.0 in
    record { begun = omega arith; worth = λ e. absurd (omega (arith, e, some)) }
onward_next setup history (Fin c core count) legal may = record { begun = omega arith; worth = λ _. omega arith }
onward_next setup history (Steal c from to) legal may = record { begun = omega arith; worth = λ _. omega arith }

-- each entry leads each colour onward
pub onward : (setup : Setup) (h h' : Histories) (entry : Entry) → Adds setup h h' entry → (d : Colour) → IsOnward (readinesses setup h d) (readinesses setup h' d)
onward setup h h' entry adds = by_colour setup h h' entry adds (λ d. IsOnward (readinesses setup h d) (readinesses setup h' d))
    (subst (IsOnward (readinesses setup h (colour_of entry))) (sym (readiness_moves setup h h' entry adds)) (onward_next setup (h (colour_of entry)) entry adds.legal adds.allowed))
    (λ d other. subst (IsOnward (readinesses setup h d)) (sym (readiness_stays setup h h' entry adds d other)) (record { begun = omega arith; worth = λ _. omega arith }))

-- a colour runs on a turn of the core
pub record RunsOn (s : ColourAccount) (core count : ℕ) : Type 0 where
  pub running : s.ended < s.begun
  pub last : s.last ≡ Some (core, count)

-- the entry is a finish by the core
abbrev pub IsFinishBy : ℕ → Entry → Type 0
IsFinishBy core (Reg c event by) = ⊥
IsFinishBy core (Take c k count) = ⊥
IsFinishBy core (Fin c k count) = k ≡ core
IsFinishBy core (Steal c from to) = ⊥

-- the entry is a take by the core
abbrev pub IsTakeBy : ℕ → Entry → Type 0
IsTakeBy core (Reg c event by) = ⊥
IsTakeBy core (Take c k count) = k ≡ core
IsTakeBy core (Fin c k count) = ⊥
IsTakeBy core (Steal c from to) = ⊥

same_core : (last : Option (ℕ × ℕ)) (k n core count : ℕ) → last ≡ Some (k, n) → last ≡ Some (core, count) → k ≡ core
same_core last k n core count one other =
    let took : ℕ × ℕ = (k, n) in
    let is : ℕ × ℕ = (core, count) in
    ap (λ (p : ℕ × ℕ). p.0) (same_Some took is (sym one ∙ other))

-- a turn that is out stays out until its core finishes it, on the events that it took
out_next : (setup : Setup) (history : List Entry) (entry : Entry) (core count : ℕ) (trail : List Event) → IsLegal setup history → IsAllowed setup history entry → (IsFinishBy core entry → ⊥)
    → RunsOn (account_of setup history (colour_of entry)) core count → trail ≡ take (account_of setup history (colour_of entry)).begun (account_of setup history (colour_of entry)).registered
    → RunsOn (next_account (account_of setup history (colour_of entry)) entry) core count × (trail ≡ take (next_account (account_of setup history (colour_of entry)) entry).begun (next_account (account_of setup history (colour_of entry)) entry).registered)
out_next setup history (Reg c event by) core count trail legal may other runs trailed =
    let s : ColourAccount = account_of setup history c in
    (record { running = runs.running; last = runs.last }, trailed ∙ sym (take-append-le s.begun s.registered (event ∷ []) (begun_within setup history c legal)))
out_next setup history (Take c k n) core count trail legal may other runs trailed =
    let rest = may.ready.at_rest in
    let less = runs.running in
    absurd (omega (arith, rest, less))
out_next setup history (Fin c k n) core count trail legal may other runs trailed =
    absurd (other (same_core (account_of setup history c).last k n core count may.last runs.last))
out_next setup history (Steal c from to) core count trail legal may other runs trailed =
    let rest = may.ready.at_rest in
    let less = runs.running in
    absurd (omega (arith, rest, less))

module _ (setup : Setup) (h h' : Histories) (entry : Entry) (adds : Adds setup h h' entry) (core count : ℕ) where
  abbrev IsOut : Histories → List Event → Colour → Type 0
  IsOut g trail d = RunsOn (accounts setup g d) core count × (trail ≡ take (accounts setup g d).begun (accounts setup g d).registered)

  pub out_stays : (trail : List Event) (d : Colour) → (d.0 ≡ (colour_of entry).0 → IsFinishBy core entry → ⊥) → IsOut h trail d → IsOut h' trail d
  out_stays trail = by_colour setup h h' entry adds (λ d. (d.0 ≡ (colour_of entry).0 → IsFinishBy core entry → ⊥) → IsOut h trail d → IsOut h' trail d)
      (λ other out. subst (λ (s : ColourAccount). RunsOn s core count × (trail ≡ take s.begun s.registered)) (sym (account_moves setup h h' entry adds)) (out_next setup (h (colour_of entry)) entry core count trail adds.legal adds.allowed (other refl) out.0 out.1))
      (λ d apart other out. subst (λ (s : ColourAccount). RunsOn s core count × (trail ≡ take s.begun s.registered)) (sym (account_stays setup h h' entry adds d apart)) out)

  out_before_next : (history : List Entry) (e : Entry) → IsAllowed setup history e → RunsOn (next_account (account_of setup history (colour_of e)) e) core count → (RunsOn (account_of setup history (colour_of e)) core count × (IsFinishBy core e → ⊥)) ⊎ IsTakeBy core e
  out_before_next history (Reg c event by) may runs = inl (record { running = runs.running; last = runs.last }, λ b. b)
  out_before_next history (Take c k n) may runs = inr (same_core (next_account (account_of setup history c) (Take c k n)).last k n core count refl runs.last)
  out_before_next history (Fin c k n) may runs =
      let whole = may.whole in
      let less = runs.running in
      absurd (omega (arith, whole, less))
  out_before_next history (Steal c from to) may runs =
      let rest = may.ready.at_rest in
      let less = runs.running in
      absurd (omega (arith, rest, less))

  -- what runs after the entry ran before it and wasn't finished by it, or was taken by it
  pub ran_before : (d : Colour) → RunsOn (accounts setup h' d) core count → (RunsOn (accounts setup h d) core count × (d.0 ≡ (colour_of entry).0 → IsFinishBy core entry → ⊥)) ⊎ ((d.0 ≡ (colour_of entry).0) × IsTakeBy core entry)
  ran_before = by_colour setup h h' entry adds (λ d. RunsOn (accounts setup h' d) core count → (RunsOn (accounts setup h d) core count × (d.0 ≡ (colour_of entry).0 → IsFinishBy core entry → ⊥)) ⊎ ((d.0 ≡ (colour_of entry).0) × IsTakeBy core entry))
      (λ runs. ⊎_elim
      (λ (b : RunsOn (accounts setup h (colour_of entry)) core count × (IsFinishBy core entry → ⊥)). inl (b.0, λ _. b.1))
      (λ (t : IsTakeBy core entry). inr (refl, t))
      (out_before_next (h (colour_of entry)) entry adds.allowed (subst (λ (s : ColourAccount). RunsOn s core count) (account_moves setup h h' entry adds) runs)))
      (λ d apart runs. inl (subst (λ (s : ColourAccount). RunsOn s core count) (account_stays setup h h' entry adds d apart) runs, λ is. absurd (apart is)))
