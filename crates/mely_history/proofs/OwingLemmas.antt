-- A colour that a pass took and has not finished runs on that take, whatever others do.
use Rattle.std.proofs.Common.{◌≡◌, ℕ, ◌+◌, ◌<◌, ◌≤◌, ◌==◌, ◌&&◌, List, [], ◌∷◌, ◌++◌, Option, Some, None, Bool, true, false, cond, length, take, min, if◌then◌else◌, refl, sym, ◌∙◌, ap, subst, arith, add-zero, append_assoc, take-add}
use Rattle.std.specs.Option.{option_or}
use Rattle.std.specs.List.{fold}
use Rattle.std.proofs.lemmas.Bool.{eqb-true, eq-eqb}
use Rattle.std.proofs.lemmas.List.{append-nil, take-append-le}
use Rattle.std.proofs.lemmas.List.Sums.{fold-append}
use Rattle.mely_event.specs.declared.colour.Colour.{Colour}
use Rattle.mely_event.specs.declared.event.Event.{Event}
use Rattle.mely_history.specs.declared.setup.Setup.{Setup}
use Rattle.mely_history.specs.Setup.{shape_of}
use Rattle.mely_history.specs.declared.entry.Entry.{Entry}
use Rattle.mely_history.specs.declared.entry.Entry.TheVariants.{Reg, Take, Fin, Steal}
use Rattle.mely_history.specs.Entries.{pass_of, entries_by, taken_on, finished_on, take_on, change_on}
use Rattle.mely_history.specs.History.{registered_of, begun_of, ended_of, queued_of, ran_of, last_take}
use Rattle.mely_history.specs.Legal.{IsAllowed, IsLegal, IsReady, MayTake}
use Rattle.mely_history.specs.ColourAccount.{ColourAccount}
use Rattle.mely_history.specs.Owing.{last_change, IsOwed, IsOwnFinish}
use Rattle.mely_history.proofs.ColourAccountLemmas.{account-with}
use Rattle.mely_history.proofs.LegalLemmas.{legal_before, legal_front, over_legal}
use Rattle.mely_history.proofs.LegalAccountLemmas.{begun_within}

-- what the history says of a colour, and which change of it a pass made last
pub record Says : Type 0 where
  pub change : Option Entry
  pub last : Option (ℕ × ℕ)
  pub begun : ℕ
  pub ended : ℕ

abbrev pub says : ℕ → Colour → List Entry → Says
says n c history = record { change = last_change n c history; last = last_take history c; begun = begun_of history c; ended = ended_of history c }

-- where the last change of the pass is a take, the colour runs on it
abbrev pub Holds : ℕ → Colour → Says → Type 0
Holds n c s = (core count : ℕ) → s.change ≡ Some (Take c core count) → (core ≡ n) × (s.last ≡ Some (core, count)) × (s.begun ≡ s.ended + count) × (0 < count)

abbrev says_more : ℕ → Colour → Says → Entry → Says
says_more n c s entry = record { change = option_or (change_on n c entry) s.change; last = option_or (take_on c entry) s.last; begun = s.begun + taken_on c entry; ended = s.ended + finished_on c entry }

says-more : (setup : Setup) (n : ℕ) (c : Colour) (history : List Entry) (entry : Entry) → says n c (history ++ entry ∷ []) ≡ says_more n c (says n c history) entry
says-more setup n c history entry =
    let with = account-with setup history entry c in
    rw (fold-append (λ found e. option_or (change_on n c e) found) None history (entry ∷ []), ap (λ (s : ColourAccount). s.last) with, ap (λ (s : ColourAccount). s.begun) with, ap (λ (s : ColourAccount). s.ended) with) refl

-- where none of these entries are of the pass, the first is not, and none of the others
pub others_first : (n : ℕ) (x : Entry) (xs : List Entry) → entries_by n (x ∷ xs) ≡ [] → ((pass_of x == n) ≡ false) × (entries_by n xs ≡ [])
others_first n x xs none = for (pass_of x == n) refl where
  for : (own : Bool) → (pass_of x == n) ≡ own → ((pass_of x == n) ≡ false) × (entries_by n xs ≡ [])
  for true is = let wrong : x ∷ entries_by n xs ≡ [] = sym (ap (λ b. cond b (x ∷ entries_by n xs) (entries_by n xs)) is) ∙ none in cc
  for false is = (is, sym (ap (λ b. cond b (x ∷ entries_by n xs) (entries_by n xs)) is) ∙ none)

same_core : (a b : ℕ × ℕ) → Some a ≡ Some b → a.0 ≡ b.0
same_core a b is = let same : a ≡ b = cc in ap (λ p. p.0) same

same_count : (a b : ℕ × ℕ) → Some a ≡ Some b → a.1 ≡ b.1
same_count a b is = let same : a ≡ b = cc in ap (λ p. p.1) same

module _ (n : ℕ) (c : Colour) where
  -- after a take
  holds_take : (s : Says) (by of_colour : Bool) (core' count' : ℕ) → (core' == n) ≡ by → (of_colour ≡ true → (s.begun ≡ s.ended) × (0 < count')) → Holds n c s
      → Holds n c (record { change = option_or (if by && of_colour then Some (Take c core' count') else None) s.change; last = option_or (if of_colour then Some (core', count') else None) s.last; begun = s.begun + (if of_colour then count' else 0); ended = s.ended + 0 })
  holds_take s true true core' count' is rest old core count taken =
      let ready = rest refl in
      let core_is : core' ≡ core = cc in
      let count_is : count' ≡ count = cc in
      (sym core_is ∙ eqb-true core' n is, ap (λ k. Some (k, count')) core_is ∙ ap (λ k. Some (core, k)) count_is, omega (arith, ready.0, count_is), omega (arith, ready.1, count_is))
  holds_take s true false core' count' is rest old core count taken = let was = old core count taken in (was.0, was.1, omega (arith, was.2), was.3)
  holds_take s false true core' count' is rest old core count taken = let was = old core count taken in let ready = rest refl in absurd (omega (arith, was.2, was.3, ready.0))
  holds_take s false false core' count' is rest old core count taken = let was = old core count taken in (was.0, was.1, omega (arith, was.2), was.3)

  -- after a finish
  holds_finish : (s : Says) (by of_colour : Bool) (core' count' : ℕ) → (core' == n) ≡ by → (of_colour ≡ true → s.last ≡ Some (core', count')) → Holds n c s
      → Holds n c (record { change = option_or (if by && of_colour then Some (Fin c core' count') else None) s.change; last = s.last; begun = s.begun + 0; ended = s.ended + (if of_colour then count' else 0) })
  holds_finish s true true core' count' is rest old core count taken = cc
  holds_finish s true false core' count' is rest old core count taken = let was = old core count taken in (was.0, was.1, omega (arith, was.2), was.3)
  holds_finish s false true core' count' is rest old core count taken =
      let was = old core count taken in
      let last = rest refl in
      let core_is : core' ≡ n = same_core (core', count') (core, count) (sym last ∙ was.1) ∙ was.0 in
      let wrong : true ≡ false = sym (eq-eqb core' n core_is) ∙ is in
      cc
  holds_finish s false false core' count' is rest old core count taken = let was = old core count taken in (was.0, was.1, omega (arith, was.2), was.3)

  -- after a steal
  holds_steal : (s : Says) (by of_colour : Bool) (from to : ℕ) → (of_colour ≡ true → s.begun ≡ s.ended) → Holds n c s
      → Holds n c (record { change = option_or (if by && of_colour then Some (Steal c from to) else None) s.change; last = s.last; begun = s.begun + 0; ended = s.ended + 0 })
  holds_steal s true true from to rest old core count taken = cc
  holds_steal s true false from to rest old core count taken = let was = old core count taken in (was.0, was.1, omega (arith, was.2), was.3)
  holds_steal s false true from to rest old core count taken = let was = old core count taken in let ready = rest refl in absurd (omega (arith, was.2, was.3, ready))
  holds_steal s false false from to rest old core count taken = let was = old core count taken in (was.0, was.1, omega (arith, was.2), was.3)

  -- after any entry that may follow
  holds_more : (setup : Setup) (history : List Entry) (entry : Entry) → IsAllowed setup history entry → Holds n c (says n c history) → Holds n c (says_more n c (says n c history) entry)
  holds_more setup history (Reg colour event by) may old = λ core count taken. let was = old core count taken in (was.0, was.1, omega (arith, was.2), was.3)
  holds_more setup history (Take colour core' count') may old =
      holds_take (says n c history) (core' == n) (colour.0 == c.0) core' count' refl
      (λ same. let is : colour.0 ≡ c.0 = eqb-true colour.0 c.0 same in
      let here : IsReady history c = subst (λ k. IsReady history (record { 0 = k })) is may.ready in
      let many : count' ≡ min (shape_of setup).batch (length (queued_of history c)) = may.whole_batch ∙ ap (λ k. min (shape_of setup).batch (length (queued_of history (record { 0 = k })))) is in
      let batch : 1 ≤ (shape_of setup).batch = setup.batch_in.0 in
      (here.at_rest, omega (arith, many, here.waiting, batch))) old
  holds_more setup history (Fin colour core' count') may old =
      holds_finish (says n c history) (core' == n) (colour.0 == c.0) core' count' refl
      (λ same. let is : colour.0 ≡ c.0 = eqb-true colour.0 c.0 same in
      ap (λ k. last_take history (record { 0 = k })) (sym is) ∙ may.last) old
  holds_more setup history (Steal colour from to) may old =
      holds_steal (says n c history) (to == n) (colour.0 == c.0) from to
      (λ same. let is : colour.0 ≡ c.0 = eqb-true colour.0 c.0 same in
      (subst (λ k. IsReady history (record { 0 = k })) is may.ready).at_rest) old

  -- a pass whose last change of a colour is its take finds the colour running on that turn
  pub running_on : (setup : Setup) (history : List Entry) → IsLegal setup history → Holds n c (says n c history)
  running_on setup = over_legal setup (λ history. Holds n c (says n c history))
      (λ core count taken. cc)
      (λ history entry legal may old. subst (Holds n c) (sym (says-more setup n c history entry)) (holds_more setup history entry may old))

  no_own : (by of_colour : Bool) (entry : Entry) → of_colour ≡ false → (if by && of_colour then Some entry else None) ≡ None
  no_own true true entry is = cc
  no_own true false entry is = refl
  no_own false true entry is = refl
  no_own false false entry is = refl

  -- while the colour runs on the pass's turn, an entry that may follow is its finish, or is no take
  -- of the colour and no change of it by the pass
  quiet_entry : (setup : Setup) (history : List Entry) (count : ℕ) (entry : Entry) → IsAllowed setup history entry → last_take history c ≡ Some (n, count) → begun_of history c ≡ ended_of history c + count → 0 < count → (IsOwnFinish n c entry → ⊥) → (change_on n c entry ≡ None) × (taken_on c entry ≡ 0)
  quiet_entry setup history count (Reg colour event by) may last away some other = (refl, refl)
  quiet_entry setup history count (Take colour core' count') may last away some other = for (colour.0 == c.0) refl where
    for : (same : Bool) → (colour.0 == c.0) ≡ same → ((if (core' == n) && same then Some (Take c core' count') else None) ≡ None) × ((if same then count' else 0) ≡ 0)
    for true test =
        let here : IsReady history c = subst (λ k. IsReady history (record { 0 = k })) (eqb-true colour.0 c.0 test) may.ready in
        let rest = here.at_rest in
        absurd (omega (arith, rest, away, some))
    for false test = (no_own (core' == n) false (Take c core' count') refl, refl)
  quiet_entry setup history count (Fin colour core' count') may last away some other = (for (core' == n) (colour.0 == c.0) refl refl (λ core k is. other (core, k, is)), refl) where
    for : (by same : Bool) → (core' == n) ≡ by → (colour.0 == c.0) ≡ same → ((core k : ℕ) → (if by && same then Some (Fin c core' count') else None) ≡ Some (Fin c core k) → ⊥) → (if by && same then Some (Fin c core' count') else None) ≡ None
    for true true own test not = absurd (not core' count' refl)
    for true false own test not = refl
    for false true own test not =
        let is : colour.0 ≡ c.0 = eqb-true colour.0 c.0 test in
        let core_is : core' ≡ n = same_core (core', count') (n, count) (sym may.last ∙ ap (λ k. last_take history (record { 0 = k })) is ∙ last) in
        let wrong : true ≡ false = sym (eq-eqb core' n core_is) ∙ own in
        cc
    for false false own test not = refl
  quiet_entry setup history count (Steal colour from to) may last away some other = (for (colour.0 == c.0) refl, refl) where
    for : (same : Bool) → (colour.0 == c.0) ≡ same → (if (to == n) && same then Some (Steal c from to) else None) ≡ None
    for true test =
        let here : IsReady history c = subst (λ k. IsReady history (record { 0 = k })) (eqb-true colour.0 c.0 test) may.ready in
        let rest = here.at_rest in
        absurd (omega (arith, rest, away, some))
    for false test = no_own (to == n) false (Steal c from to) refl

  -- a turn that is owed stays owed over any entry but its finish
  pub owed_more : (setup : Setup) (history : List Entry) (entry : Entry) (core count : ℕ) (trail : List Event) → IsLegal setup history → IsAllowed setup history entry → (IsOwnFinish n c entry → ⊥) → IsOwed n history c core count trail → IsOwed n (history ++ entry ∷ []) c core count trail
  owed_more setup history entry core count trail legal may other owed =
      let runs = running_on setup history legal core count owed.taken in
      let last : last_take history c ≡ Some (n, count) = runs.1 ∙ ap (λ k. Some (k, count)) runs.0 in
      let quiet = quiet_entry setup history count entry may last runs.2 runs.3 other in
      let more = says-more setup n c history entry in
      let with = account-with setup history entry c in
      let within = begun_within setup history c legal in
      let same_begun : begun_of (history ++ entry ∷ []) c ≡ begun_of history c = ap (λ (s : Says). s.begun) more ∙ ap (λ k. begun_of history c + k) quiet.1 ∙ add-zero (begun_of history c) in
      let same_change : last_change n c (history ++ entry ∷ []) ≡ last_change n c history = ap (λ (s : Says). s.change) more ∙ ap (λ o. option_or o (last_change n c history)) quiet.0 in
      let same_trail : take (begun_of (history ++ entry ∷ []) c) (registered_of (history ++ entry ∷ []) c) ≡ take (begun_of history c) (registered_of history c) =
      rw (same_begun, ap (λ (s : ColourAccount). s.registered) with) (take-append-le (begun_of history c) (registered_of history c) _ within) in
      record { by = owed.by; taken = same_change ∙ owed.taken; trailed = owed.trailed ∙ sym same_trail }

  -- an entry of another pass is no finish by this one
  other_entry : (entry : Entry) → (pass_of entry == n) ≡ false → IsOwnFinish n c entry → ⊥
  other_entry (Reg colour event by) not (core, count, is) = cc
  other_entry (Take colour core' count') not (core, count, is) = let none : change_on n c (Take colour core' count') ≡ None = rw not refl in cc
  other_entry (Fin colour core' count') not (core, count, is) = let none : change_on n c (Fin colour core' count') ≡ None = rw not refl in cc
  other_entry (Steal colour from to) not (core, count, is) = let none : change_on n c (Steal colour from to) ≡ None = rw not refl in cc

  -- a turn that is owed by what the pass has seen is owed at the point of its next call
  pub owed_at_point : (setup : Setup) (front between : List Entry) (core count : ℕ) (trail : List Event) → entries_by n between ≡ [] → IsLegal setup (front ++ between) → IsOwed n front c core count trail → IsOwed n (front ++ between) c core count trail
  owed_at_point setup front [] core count trail none legal owed = subst (λ h. IsOwed n h c core count trail) (sym (append-nil front)) owed
  owed_at_point setup front (entry ∷ between) core count trail none legal owed =
      let same : (front ++ entry ∷ []) ++ between ≡ front ++ entry ∷ between = append_assoc front (entry ∷ []) between in
      let whole = subst (IsLegal setup) (sym same) legal in
      let last = legal_before setup front entry (legal_front setup (front ++ entry ∷ []) between whole) in
      let not = others_first n entry between none in
      let one = owed_more setup front entry core count trail last.0 last.1 (other_entry entry not.0) owed in
      subst (λ h. IsOwed n h c core count trail) same (owed_at_point setup (front ++ entry ∷ []) between core count trail not.1 whole one)

  pub no_finish_reg : (colour : Colour) (event : Event) (by : ℕ) → IsOwnFinish n c (Reg colour event by) → ⊥
  no_finish_reg colour event by (core, count, is) = cc

  pub no_finish_take : (colour : Colour) (core count : ℕ) → IsOwnFinish n c (Take colour core count) → ⊥
  no_finish_take colour core count (core', count', is) = for ((core == n) && (colour.0 == c.0)) is where
    for : (b : Bool) → (if b then Some (Take c core count) else None) ≡ Some (Fin c core' count') → ⊥
    for true is = cc
    for false is = cc

  pub no_finish_steal : (colour : Colour) (from to : ℕ) → IsOwnFinish n c (Steal colour from to) → ⊥
  no_finish_steal colour from to (core', count', is) = for ((to == n) && (colour.0 == c.0)) is where
    for : (b : Bool) → (if b then Some (Steal c from to) else None) ≡ Some (Fin c core' count') → ⊥
    for true is = cc
    for false is = cc

  -- a turn that was just taken is owed
  pub owed_taken : (setup : Setup) (point : List Entry) (count : ℕ) → MayTake setup point c n count → IsOwed n (point ++ Take c n count ∷ []) c n count (ran_of point c ++ take count (queued_of point c))
  owed_taken setup point count may =
      let more = says-more setup n c point (Take c n count) in
      let with = account-with setup point (Take c n count) c in
      let own : (n == n) ≡ true = eq-eqb n n refl in
      let of_colour : (c.0 == c.0) ≡ true = eq-eqb c.0 c.0 refl in
      let rest = may.ready.at_rest in
      let change : last_change n c (point ++ Take c n count ∷ []) ≡ Some (Take c n count) = ap (λ (s : Says). s.change) more ∙ rw (own, of_colour) refl in
      let many : begun_of (point ++ Take c n count ∷ []) c ≡ begun_of point c + count = ap (λ (s : Says). s.begun) more ∙ rw of_colour refl in
      let same : registered_of (point ++ Take c n count ∷ []) c ≡ registered_of point c = ap (λ (s : ColourAccount). s.registered) with ∙ append-nil (registered_of point c) in
      record {
        by = refl;
        taken = change;
        trailed = ap (λ k. take k (registered_of point c) ++ take count (queued_of point c)) (sym rest) ∙ sym (take-add (begun_of point c) count (registered_of point c)) ∙ ap (λ k. take k (registered_of point c)) (sym many) ∙ ap (take (begun_of (point ++ Take c n count ∷ []) c)) (sym same);
      }

  -- where the last take of a running colour is the pass's, it is its last change of the colour
  abbrev pub IsTakers : Says → Type 0
  IsTakers s = (count : ℕ) → s.last ≡ Some (n, count) → (s.begun ≡ s.ended → ⊥) → s.change ≡ Some (Take c n count)

  takers_take : (s : Says) (by of_colour : Bool) (core' count' : ℕ) → (core' == n) ≡ by → IsTakers s
      → IsTakers (record { change = option_or (if by && of_colour then Some (Take c core' count') else None) s.change; last = option_or (if of_colour then Some (core', count') else None) s.last; begun = s.begun + (if of_colour then count' else 0); ended = s.ended + 0 })
  takers_take s true true core' count' is old count last away = let core_is : core' ≡ n = eqb-true core' n is in let count_is : count' ≡ count = same_count (core', count') (n, count) last in ap (λ k. Some (Take c k count')) core_is ∙ ap (λ k. Some (Take c n k)) count_is
  takers_take s false true core' count' is old count last away =
      let core_is : core' ≡ n = same_core (core', count') (n, count) last in
      let wrong : true ≡ false = sym (eq-eqb core' n core_is) ∙ is in
      cc
  takers_take s true false core' count' is old count last away = old count last (λ same. away (omega (arith, same)))
  takers_take s false false core' count' is old count last away = old count last (λ same. away (omega (arith, same)))

  takers_more : (setup : Setup) (history : List Entry) (entry : Entry) → IsAllowed setup history entry → IsTakers (says n c history) → IsTakers (says_more n c (says n c history) entry)
  takers_more setup history (Reg colour event by) may old = λ count last away. old count last (λ same. away (omega (arith, same)))
  takers_more setup history (Take colour core' count') may old = takers_take (says n c history) (core' == n) (colour.0 == c.0) core' count' refl old
  takers_more setup history (Fin colour core' count') may old = for (core' == n) (colour.0 == c.0) refl where
    for : (by same : Bool) → (colour.0 == c.0) ≡ same → IsTakers (record { change = option_or (if by && same then Some (Fin c core' count') else None) (last_change n c history); last = last_take history c; begun = begun_of history c + 0; ended = ended_of history c + (if same then count' else 0) })
    for by true test = λ count last away.
        let whole : begun_of history c ≡ ended_of history c + count' = subst (λ k. begun_of history (record { 0 = k }) ≡ ended_of history (record { 0 = k }) + count') (eqb-true colour.0 c.0 test) may.whole in
        absurd (away (omega (arith, whole)))
    for true false test = λ count last away. old count last (λ same. away (omega (arith, same)))
    for false false test = λ count last away. old count last (λ same. away (omega (arith, same)))
  takers_more setup history (Steal colour from to) may old = for (to == n) (colour.0 == c.0) refl where
    for : (by same : Bool) → (colour.0 == c.0) ≡ same → IsTakers (record { change = option_or (if by && same then Some (Steal c from to) else None) (last_change n c history); last = last_take history c; begun = begun_of history c + 0; ended = ended_of history c + 0 })
    for by true test = λ count last away.
        let here : IsReady history c = subst (λ k. IsReady history (record { 0 = k })) (eqb-true colour.0 c.0 test) may.ready in
        let rest = here.at_rest in
        absurd (away (omega (arith, rest)))
    for true false test = λ count last away. old count last (λ same. away (omega (arith, same)))
    for false false test = λ count last away. old count last (λ same. away (omega (arith, same)))

  pub taken_by : (setup : Setup) (history : List Entry) → IsLegal setup history → IsTakers (says n c history)
  taken_by setup = over_legal setup (λ history. IsTakers (says n c history))
      (λ count last away. cc)
      (λ history entry legal may old. subst IsTakers (sym (says-more setup n c history entry)) (takers_more setup history entry may old))

  -- entries of others change nothing of what a pass changed last
  pub last_change-others : (front between : List Entry) → entries_by n between ≡ [] → last_change n c (front ++ between) ≡ last_change n c front
  last_change-others front between none = fold-append (λ found e. option_or (change_on n c e) found) None front between ∙ quiet (last_change n c front) between none where
    no_change : (entry : Entry) → (pass_of entry == n) ≡ false → change_on n c entry ≡ None
    no_change (Reg colour event by) not = refl
    no_change (Take colour core count) not = rw not refl
    no_change (Fin colour core count) not = rw not refl
    no_change (Steal colour from to) not = rw not refl

    quiet : (found : Option Entry) (entries : List Entry) → entries_by n entries ≡ [] → fold (λ found e. option_or (change_on n c e) found) found entries ≡ found
    quiet found [] none = refl
    quiet found (entry ∷ entries) none =
        let not = others_first n entry entries none in
        ap (λ o. fold (λ found e. option_or (change_on n c e) found) (option_or o found) entries) (no_change entry not.0) ∙ quiet found entries not.1
