-- A bar of a legal history ends with its turn.
use Rattle.std.proofs.Common.{◌≡◌, ℕ, ◌+◌, ◌<◌, ◌==◌, Bool, true, false, List, [], ◌∷◌, ◌++◌, length, take, drop, Option, Some, None, if◌then◌else◌, refl, sym, ap, ◌∙◌, subst, arith, append_assoc, length-append, eq-eqb, true-eqb, take-append-drop}
use Rattle.std.specs.Option.{option_or}
use Rattle.std.specs.List.{AllByRecursion, sum_by, slice_get}
use Rattle.std.proofs.lemmas.List.Sums.{sum_by-append, fold-append}
use Rattle.std.proofs.lemmas.Option.{slice_get_within, slice_get-get_or, get_or_from_slice_get}
use Rattle.std.proofs.Math.Seq.{get_or-append_seam}
use Rattle.std.proofs.lemmas.Grind.{common_steps}
use Rattle.mely_event.specs.declared.colour.Colour.{Colour}
use Rattle.mely_history.specs.declared.setup.Setup.{Setup}
use Rattle.mely_history.specs.declared.entry.Entry.{Entry}
use Rattle.mely_history.specs.declared.entry.Entry.TheVariants.{Reg, Take, Fin, Steal}
use Rattle.mely_history.specs.Entries.{take_on, taken_on, finished_on}
use Rattle.mely_history.specs.History.{begun_of, ended_of, last_take}
use Rattle.mely_history.specs.Legal.{IsAllowed, IsLegal}
use Rattle.mely_history.proofs.LegalLemmas.{legal_before, legal_front}
use Rattle.mely_history.proofs.LegalAccountLemmas.{same_colour, taken_within}
use Rattle.mely_picture.specs.Marks.{finishes, before_finish}
use Rattle.mely_picture.proofs.ListLemmas.{drop_more}

-- an entry of a legal history was allowed
allowed_at : (setup : Setup) (a b : List Entry) (x : Entry) → IsLegal setup (a ++ x ∷ b) → IsAllowed setup a x
allowed_at setup a b x legal = (legal_before setup a x (legal_front setup (a ++ x ∷ []) b (subst (IsLegal setup) (sym (append_assoc a (x ∷ []) b)) legal))).1

-- the colour runs, since a take of this many events by this core
pub record Runs (a : List Entry) (c : Colour) (core count : ℕ) : Type 0 where
  pub runs : ended_of a c < begun_of a c
  pub last : last_take a c ≡ Some (core, count)

-- it does so after an entry that neither takes nor finishes it
still_runs : (a : List Entry) (c : Colour) (core count : ℕ) (x : Entry) → taken_on c x ≡ 0 → finished_on c x ≡ 0 → take_on c x ≡ None → Runs a c core count → Runs (a ++ x ∷ []) c core count
still_runs a c core count x none_taken none_finished no_take before =
    let begun : begun_of (a ++ x ∷ []) c ≡ begun_of a c + sum_by (taken_on c) (x ∷ []) = sum_by-append (taken_on c) a (x ∷ []) in
    let ended : ended_of (a ++ x ∷ []) c ≡ ended_of a c + sum_by (finished_on c) (x ∷ []) = sum_by-append (finished_on c) a (x ∷ []) in
    let one : sum_by (finished_on c) (x ∷ []) ≡ 0 + finished_on c x = refl in
    let runs = before.runs in
    record {
      runs = omega (arith, begun, ended, one, none_finished, runs);
      last = fold-append (λ found entry. option_or (take_on c entry) found) None a (x ∷ []) ∙ ap (λ t. option_or t (last_take a c)) no_take ∙ before.last;
    }

-- it does so after any entry that may follow and doesn't finish it
goes_on : (setup : Setup) (a : List Entry) (x : Entry) (c : Colour) (core count : ℕ) → IsAllowed setup a x → finishes c x ≡ false → Runs a c core count → Runs (a ++ x ∷ []) c core count
goes_on setup a (Reg d event by) c core count may unfinished before = still_runs a c core count (Reg d event by) refl refl refl before
goes_on setup a (Take d other n) c core count may unfinished before = for (d.0 == c.0) refl
  where
    for : (t : Bool) → (d.0 == c.0) ≡ t → Runs (a ++ Take d other n ∷ []) c core count
    for true is =
        let rests = subst (λ k. begun_of a k ≡ ended_of a k) (same_colour d c (true-eqb d.0 c.0 (sym is))) may.ready.at_rest in
        let runs = before.runs in absurd (omega (arith, rests, runs))
    for false is =
        still_runs a c core count (Take d other n) (ap (λ t. if t then n else 0) is) refl (ap (λ t. if t then Some (other, n) else None) is) before
goes_on setup a (Fin d other n) c core count may unfinished before = still_runs a c core count (Fin d other n) refl (ap (λ t. if t then n else 0) unfinished) refl before
goes_on setup a (Steal d from to) c core count may unfinished before = still_runs a c core count (Steal d from to) refl refl refl before

true_false : {X : Type 0} → false ≡ true → X
true_false e = absurd (no e)
  where
    no : false ≡ true → ⊥
    no e = cc

some_pair : (x y : ℕ × ℕ) → Some x ≡ Some y → x ≡ y
some_pair x y e = cc

pair_same : (a b c d : ℕ) → ◌≡◌ {A = Option (ℕ × ℕ)} (Some (a, b)) (Some (c, d)) → (a ≡ c) × (b ≡ d)
pair_same a b c d e = (ap (λ (p : ℕ × ℕ). p.0) (some_pair (a, b) (c, d) e), ap (λ (p : ℕ × ℕ). p.1) (some_pair (a, b) (c, d) e))

-- what finishes it then is the finish of that take
finish_is : (setup : Setup) (a : List Entry) (e : Entry) (c : Colour) (core count : ℕ) → IsAllowed setup a e → finishes c e ≡ true → Runs a c core count → e ≡ Fin c core count
finish_is setup a (Reg d event by) c core count may is before = true_false is
finish_is setup a (Take d other n) c core count may is before = true_false is
finish_is setup a (Fin d other n) c core count may is before =
    let same : d ≡ c = same_colour d c (true-eqb d.0 c.0 (sym is)) in
    let last : last_take a c ≡ Some (other, n) = subst (λ k. last_take a k ≡ Some (other, n)) same may.last in
    let pair = pair_same other n core count (sym last ∙ before.last) in
    ap (λ k. Fin k other n) same ∙ ap (λ k. Fin c k n) pair.0 ∙ ap (λ k. Fin c core k) pair.1
finish_is setup a (Steal d from to) c core count may is before = true_false is

-- the first entry that finishes it is that finish
turn_ends : (setup : Setup) (a mid more : List Entry) (e : Entry) (c : Colour) (core count : ℕ) → IsLegal setup (a ++ (mid ++ e ∷ more)) → AllByRecursion (λ x. finishes c x ≡ false) mid → finishes c e ≡ true
    → Runs a c core count → e ≡ Fin c core count
turn_ends setup a [] more e c core count legal none is before = finish_is setup a e c core count (allowed_at setup a more e legal) is before
turn_ends setup a (x ∷ mid) more e c core count legal none is before =
    turn_ends setup (a ++ x ∷ []) mid more e c core count (subst (IsLegal setup) (sym (append_assoc a (x ∷ []) (mid ++ e ∷ more))) legal) none.1 is
    (goes_on setup a x c core count (allowed_at setup a (mid ++ e ∷ more) x legal) none.0 before)

-- behind its take a colour runs
runs_taken : (setup : Setup) (a : List Entry) (c : Colour) (core count : ℕ) → IsAllowed setup a (Take c core count) → Runs (a ++ Take c core count ∷ []) c core count
runs_taken setup a c core count may =
    let own : (c.0 == c.0) ≡ true = eq-eqb c.0 c.0 refl in
    let x = Take c core count in
    let some = (taken_within setup a c count may.ready.waiting may.whole_batch).0 in
    let rests = may.ready.at_rest in
    let begun : begun_of (a ++ x ∷ []) c ≡ begun_of a c + sum_by (taken_on c) (x ∷ []) = sum_by-append (taken_on c) a (x ∷ []) in
    let ended : ended_of (a ++ x ∷ []) c ≡ ended_of a c + sum_by (finished_on c) (x ∷ []) = sum_by-append (finished_on c) a (x ∷ []) in
    let one : sum_by (taken_on c) (x ∷ []) ≡ 0 + count = ap (λ t. 0 + (if t then count else 0)) own in
    let two : sum_by (finished_on c) (x ∷ []) ≡ 0 = refl in
    record {
      runs = omega (arith, begun, ended, one, two, rests, some);
      last = fold-append (λ found entry. option_or (take_on c entry) found) None a (x ∷ []) ∙ ap (λ t. option_or (if t then Some (core, count) else None) (last_take a c)) own;
    }

-- where a list is cut that has an entry which finishes the colour
pub record IsCut (c : Colour) (rest : List Entry) : Type 0 where
  pub mid : List Entry
  pub e : Entry
  pub more : List Entry
  pub is : rest ≡ mid ++ e ∷ more
  pub long : length mid ≡ before_finish c rest
  pub none : AllByRecursion (λ x. finishes c x ≡ false) mid
  pub ends : finishes c e ≡ true

cut_more : (c : Colour) (x : Entry) (rest : List Entry) (t : Bool) → finishes c x ≡ t → before_finish c (x ∷ rest) < length (x ∷ rest) → (before_finish c rest < length rest → IsCut c rest) → IsCut c (x ∷ rest)
cut_more c x rest true is low later = record {
  mid = [];
  e = x;
  more = rest;
  is = refl;
  long = sym (ap (λ t. if t then 0 else before_finish c rest + 1) is);
  none = tt;
  ends = is;
}
cut_more c x rest false is low later =
    let counted : before_finish c (x ∷ rest) ≡ before_finish c rest + 1 = ap (λ t. if t then 0 else before_finish c rest + 1) is in
    let cut = later (omega (arith, counted, low)) in
    let long = cut.long in
    record {
      mid = x ∷ cut.mid;
      e = cut.e;
      more = cut.more;
      is = ap (λ l. x ∷ l) cut.is;
      long = omega (arith, counted, long);
      none = (is, cut.none);
      ends = cut.ends;
    }

cut_of : (c : Colour) (rest : List Entry) → before_finish c rest < length rest → IsCut c rest
cut_of c [] low = absurd (omega arith)
cut_of c (x ∷ rest) low = cut_more c x rest (finishes c x) refl low (λ k. cut_of c rest k)

pub ends_with_turn : (setup : Setup) (history : List Entry) (at : ℕ) (c : Colour) (core count : ℕ) → IsLegal setup history → slice_get history at ≡ Some (Take c core count)
    → at + 1 + before_finish c (drop (at + 1) history) < length history → slice_get history (at + 1 + before_finish c (drop (at + 1) history)) ≡ Some (Fin c core count)
ends_with_turn setup history at c core count legal there low =
    let x = Take c core count in
    let a = take at history in
    let rest = drop (at + 1) history in
    let within : at < length history = slice_get_within history at x there in
    let parts : history ≡ a ++ x ∷ rest =
    sym (take-append-drop at history) ∙ ap (λ l. a ++ l) (drop_more history at x within ∙ ap (λ y. y ∷ rest) (get_or_from_slice_get history at x x there)) in
    let whole : length history ≡ length a + length (x ∷ rest) = ap length parts ∙ length-append a (x ∷ rest) in
    let front : length a ≡ at = length_take at history within in
    let cut = cut_of c rest (omega (arith, whole, front, low)) in
    let long = cut.long in
    let b = a ++ x ∷ [] in
    let split : history ≡ b ++ (cut.mid ++ cut.e ∷ cut.more) = parts ∙ ap (λ r. a ++ x ∷ r) cut.is ∙ sym (append_assoc a (x ∷ []) (cut.mid ++ cut.e ∷ cut.more)) in
    let legal_split = subst (IsLegal setup) split legal in
    let taken = allowed_at setup a (cut.mid ++ cut.e ∷ cut.more) x (subst (IsLegal setup) (append_assoc a (x ∷ []) (cut.mid ++ cut.e ∷ cut.more)) legal_split) in
    let finish = turn_ends setup b cut.mid cut.more cut.e c core count legal_split cut.none cut.ends (runs_taken setup a c core count taken) in
    let head = b ++ cut.mid in
    let place : length head ≡ at + 1 + before_finish c rest = omega (arith, length-append b cut.mid, length-append a (x ∷ []), front, long) in
    let seam : history ≡ head ++ cut.e ∷ cut.more = split ∙ sym (append_assoc b cut.mid (cut.e ∷ cut.more)) in
    ap (λ h. slice_get h (at + 1 + before_finish c rest)) seam ∙ ap (slice_get (head ++ cut.e ∷ cut.more)) (sym place) ∙ found head cut.more cut.e ∙ ap (λ y. Some y) finish
  where
    length_take : (n : ℕ) (h : List Entry) → n < length h → length (take n h) ≡ n
    length_take n h few = let whole = ap length (take-append-drop n h) in grind (arith, common_steps)

    found : (p q : List Entry) (y : Entry) → slice_get (p ++ y ∷ q) (length p) ≡ Some y
    found p q y = slice_get-get_or (p ++ y ∷ q) (length p) y (let long = length-append p (y ∷ q) in omega (arith, long)) ∙ ap (λ z. Some z) (get_or-append_seam p y q y)
