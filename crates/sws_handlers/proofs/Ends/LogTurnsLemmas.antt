-- Turns that are 1, 2, 3 and so on, and the lines that have them.
use Rattle.std.proofs.Common.{cond, ◌≡◌, ℕ, zero, suc, ◌+◌, ◌-◌, ◌≤◌, ◌<◌, Bool, true, false, true≢false, if◌then◌else◌, Option, None, Some, List, [], ◌∷◌, ◌++◌, length, map, take, drop, refl, sym, ◌∙◌, ap, arith, inl, inr, eq-eqb}
use Rattle.std.proofs.lemmas.Bool.{eqb-true, ne_eqb}
use Rattle.std.proofs.lemmas.Bool.Decides.{eqb_tells}
use Rattle.std.proofs.lemmas.List.Elements.{filter_map-append}
use Rattle.std.proofs.lemmas.Option.{same_Some, slice_get_within, slice_get-get_or}
use Rattle.std.proofs.Math.ListN.{get_or}
use Rattle.std.specs.Prelude.{replicate, slice_get, slice_set, ◌==◌}
use Rattle.mely_weave.proofs.Lines.StepLemmas.{others_set}
use Rattle.std.specs.List.{AllByRecursion, range_with_len, cons_option}
use Rattle.sws_log.specs.declared.line.LogLine.{LogLine}
use Rattle.sws_handlers.specs.LogTurns.{lines_for, turn_in, turns_of, next_turn, last_of, is_last, is_numbered, AreLastTurns}

-- one more turn
last_more : (last : Option ℕ) (turns : List ℕ) (turn : ℕ) → last_of last (turns ++ turn ∷ []) ≡ next_turn (last_of last turns) turn
last_more last [] turn = refl
last_more last (t ∷ turns) turn = last_more (next_turn last t) turns turn

take_next : {A : Type 0} (xs : List A) (i : ℕ) (x : A) → slice_get xs i ≡ Some x → take (suc i) xs ≡ take i xs ++ x ∷ []
take_next [] i x at = cc
take_next (y ∷ ys) zero x at = ap (λ z. z ∷ []) (same_Some y x at)
take_next (y ∷ ys) (suc i) x at = ap (λ l. y ∷ l) (take_next ys i x at)

turns_next : (conn i : ℕ) (lines : List LogLine) (line : LogLine) → slice_get lines i ≡ Some line → turns_of conn (take (i + 1) lines) ≡ turns_of conn (take i lines) ++ turns_of conn (line ∷ [])
turns_next conn i lines line at = ap (λ (n : ℕ). turns_of conn (take n lines)) (let e : i + 1 ≡ suc i = omega arith in e) ∙ ap (λ (ls : List LogLine). turns_of conn ls) (take_next lines i line at) ∙ filter_map-append (turn_in conn) (take i lines) (line ∷ [])

-- a line of the connection counts, and another one doesn't
pub turn_counted : (conn i : ℕ) (lines : List LogLine) (line : LogLine) → slice_get lines i ≡ Some line → (line.conn == conn) ≡ true → last_of (Some 0) (turns_of conn (take (i + 1) lines)) ≡ next_turn (last_of (Some 0) (turns_of conn (take i lines))) line.turn
turn_counted conn i lines line at own =
    ap (λ (ns : List ℕ). last_of (Some 0) ns) (turns_next conn i lines line at)
    ∙ ap (λ (b : Bool). last_of (Some 0) (turns_of conn (take i lines) ++ cons_option (if b then Some line.turn else None) [])) own
    ∙ last_more (Some 0) (turns_of conn (take i lines)) line.turn

no_more : (last : Option ℕ) (turns : List ℕ) → last_of last (turns ++ []) ≡ last_of last turns
no_more last [] = refl
no_more last (t ∷ turns) = no_more (next_turn last t) turns

pub turn_passed : (conn i : ℕ) (lines : List LogLine) (line : LogLine) → slice_get lines i ≡ Some line → (line.conn == conn) ≡ false → last_of (Some 0) (turns_of conn (take (i + 1) lines)) ≡ last_of (Some 0) (turns_of conn (take i lines))
turn_passed conn i lines line at other =
    ap (λ (ns : List ℕ). last_of (Some 0) ns) (turns_next conn i lines line at)
    ∙ ap (λ (b : Bool). last_of (Some 0) (turns_of conn (take i lines) ++ cons_option (if b then Some line.turn else None) [])) other
    ∙ no_more (Some 0) (turns_of conn (take i lines))

-- ---- a table of last turns

pub counts_next : (lines : List LogLine) (k : ℕ) (line : LogLine) (turns : List (Option ℕ)) → slice_get lines k ≡ Some line → line.conn < length turns → AreLastTurns (take k lines) turns → AreLastTurns (take (k + 1) lines) (slice_set turns line.conn (next_turn (get_or turns line.conn None) line.turn))
counts_next lines k line turns at within counted =
    let old : Option ℕ = get_or turns line.conn None in
    let there : slice_get turns line.conn ≡ Some old = slice_get-get_or turns line.conn None within in
    others_set (λ (i : ℕ) (last : Option ℕ). last ≡ last_of (Some 0) (turns_of i (take (k + 1) lines))) turns line.conn old (next_turn old line.turn) there
    (λ i last other is. counted i last is ∙ sym (turn_passed i k lines line at (ne_eqb line.conn i (λ same. other (sym same)))))
    (ap (λ (o : Option ℕ). next_turn o line.turn) (counted line.conn old there) ∙ sym (turn_counted line.conn k lines line at (eq-eqb line.conn line.conn refl)))

pub passes_next : (lines : List LogLine) (k : ℕ) (line : LogLine) (turns : List (Option ℕ)) → slice_get lines k ≡ Some line → length turns ≤ line.conn → AreLastTurns (take k lines) turns → AreLastTurns (take (k + 1) lines) turns
passes_next lines k line turns at beyond counted i last is =
    counted i last is ∙ sym (turn_passed i k lines line at (ne_eqb line.conn i (λ same. let within = slice_get_within turns i last is in omega (arith, same, within, beyond))))

-- before the first line each last turn is 0
pub counts_none : (many : ℕ) → AreLastTurns [] (replicate many (Some 0))
counts_none zero i last is = cc
counts_none (suc many) zero last is = sym (same_Some (Some 0) last is)
counts_none (suc many) (suc i) last is = counts_none many i last is

-- ---- all turns up to one

range_last : (n k : ℕ) → last_of (Some k) (range_with_len (k + 1) n) ≡ Some (k + n)
range_last zero k = ap (λ m. Some m) (let e : k ≡ k + 0 = omega arith in e)
range_last (suc n) k =
    ap (λ (b : Bool). last_of (if b then Some (k + 1) else None) (range_with_len (k + 1 + 1) n)) (eq-eqb (k + 1) (k + 1) refl)
    ∙ range_last n (k + 1)
    ∙ ap (λ m. Some m) (let e : k + 1 + n ≡ k + suc n = omega arith in e)

pub all_numbered : (n : ℕ) (turns : List ℕ) → turns ≡ range_with_len 1 n → is_numbered n turns ≡ true
all_numbered n turns is = ap (λ (ts : List ℕ). is_last n (last_of (Some 0) ts)) is ∙ ap (is_last n) (range_last n 0) ∙ eq-eqb (0 + n) n (omega arith)

last_none : (turns : List ℕ) → last_of None turns ≡ None
last_none [] = refl
last_none (t ∷ turns) = last_none turns

record Counts (k m : ℕ) (turns : List ℕ) : Type 0 where
  pub many : ℕ
  pub sum : m ≡ k + many
  pub are : turns ≡ range_with_len (k + 1) many

counted : (turns : List ℕ) (k m : ℕ) → last_of (Some k) turns ≡ Some m → Counts k m turns
counted [] k m is = let same = same_Some k m is in record { many = 0; sum = omega (arith, same); are = refl }
counted (t ∷ turns) k m is = elim (eqb_tells t (k + 1)) [
  | inl next ↦
      let on : last_of (Some t) turns ≡ Some m = sym (ap (λ (b : Bool). last_of (if b then Some t else None) turns) next.0) ∙ is in
      let rest = counted turns t m on in
      let sum = rest.sum in
      let same = next.1 in
      record {
        many = suc rest.many;
        sum = omega (arith, sum, same);
        are = ap (λ (n : ℕ). n ∷ turns) same ∙ ap (λ (ns : List ℕ). (k + 1) ∷ ns) (rest.are ∙ ap (λ (n : ℕ). range_with_len (n + 1) rest.many) same);
      }
  | inr apart ↦
      let off : last_of None turns ≡ Some m = sym (ap (λ (b : Bool). last_of (if b then Some t else None) turns) apart.0) ∙ is in
      let none : None ≡ Some m = sym (last_none turns) ∙ off in
      cc
]

last_is : (n : ℕ) (last : Option ℕ) → is_last n last ≡ true → last ≡ Some n
last_is n None is = absurd (true≢false (sym is))
last_is n (Some last) is = ap (λ m. Some m) (eqb-true last n is)

pub numbered_are : (n : ℕ) (turns : List ℕ) → is_numbered n turns ≡ true → turns ≡ range_with_len 1 n
numbered_are n turns is =
    let c = counted turns 0 n (last_is n (last_of (Some 0) turns) is) in
    let sum = c.sum in
    let same : c.many ≡ n = omega (arith, sum) in
    c.are ∙ ap (λ (m : ℕ). range_with_len 1 m) same

-- ---- the lines that have these turns

-- the turns of a connection's lines, of these lines alone
pub turns_are : (i : ℕ) (lines : List LogLine) → map (λ line. line.turn) (lines_for i lines) ≡ turns_of i lines
turns_are i [] = refl
turns_are i (line ∷ lines) = for (line.conn == i) (turns_are i lines)
  where
    for : (own : Bool) → map (λ line. line.turn) (lines_for i lines) ≡ turns_of i lines
        → map (λ (line : LogLine). line.turn) (cond own (line ∷ lines_for i lines) (lines_for i lines)) ≡ cons_option (if own then Some line.turn else None) (turns_of i lines)
    for true rest = ap (λ (ns : List ℕ). line.turn ∷ ns) rest
    for false rest = rest

drop_at : {A : Type 0} (xs : List A) (k : ℕ) (x : A) → slice_get xs k ≡ Some x → drop k xs ≡ x ∷ drop (suc k) xs
drop_at [] k x at = cc
drop_at (y ∷ ys) zero x at = ap (λ z. z ∷ ys) (same_Some y x at)
drop_at (y ∷ ys) (suc k) x at = drop_at ys k x at

abbrev pub IsOfLog : ℕ → List LogLine → LogLine → Type 0
IsOfLog i log line = line.conn ≡ i → (1 ≤ line.turn) × (slice_get log (line.turn - 1) ≡ Some line)

head_same : (a b : ℕ) (xs ys : List ℕ) → a ∷ xs ≡ b ∷ ys → (a ≡ b) × (xs ≡ ys)
head_same a b xs ys is = (cc, cc)

module _ (i : ℕ) (log : List LogLine) where
  lines_from : (lines : List LogLine) (k n : ℕ) → AllByRecursion (IsOfLog i log) lines → turns_of i lines ≡ range_with_len (k + 1) n → lines_for i lines ≡ take n (drop k log)
  lines_from [] k zero told is = refl
  lines_from [] k (suc n) told is = cc
  lines_from (line ∷ lines) k n told is = elim (eqb_tells line.conn i) [
    | inl own ↦ own_line line lines k n (told.0 own.1) (ap (λ (b : Bool). cond b (line ∷ lines_for i lines) (lines_for i lines)) own.0) (sym (ap (λ (b : Bool). cons_option (if b then Some line.turn else None) (turns_of i lines)) own.0) ∙ is) (λ k2 n2 is2. lines_from lines k2 n2 told.1 is2)
    | inr other ↦ ap (λ (b : Bool). cond b (line ∷ lines_for i lines) (lines_for i lines)) other.0 ∙ lines_from lines k n told.1 (sym (ap (λ (b : Bool). cons_option (if b then Some line.turn else None) (turns_of i lines)) other.0) ∙ is)
  ]
    where
      own_line : (line : LogLine) (lines : List LogLine) (k n : ℕ) → (1 ≤ line.turn) × (slice_get log (line.turn - 1) ≡ Some line) → lines_for i (line ∷ lines) ≡ line ∷ lines_for i lines → line.turn ∷ turns_of i lines ≡ range_with_len (k + 1) n
          → ((k2 n2 : ℕ) → turns_of i lines ≡ range_with_len (k2 + 1) n2 → lines_for i lines ≡ take n2 (drop k2 log)) → lines_for i (line ∷ lines) ≡ take n (drop k log)
      own_line line lines k zero told first is rest = cc
      own_line line lines k (suc n) told first is rest =
          let both = head_same line.turn (k + 1) (turns_of i lines) (range_with_len (k + 1 + 1) n) is in
          let same = both.0 in
          let at : line.turn - 1 ≡ k = omega (arith, same) in
          let there : slice_get log k ≡ Some line = ap (λ (m : ℕ). slice_get log m) (sym at) ∙ told.1 in
          first ∙ ap (λ (ls : List LogLine). line ∷ ls) (rest (k + 1) n both.1) ∙ ap (λ (m : ℕ). line ∷ take n (drop m log)) (let e : k + 1 ≡ suc k = omega arith in e) ∙ sym (ap (λ (ls : List LogLine). take (suc n) ls) (drop_at log k line there))

  pub lines_are : (lines : List LogLine) (n : ℕ) → AllByRecursion (IsOfLog i log) lines → turns_of i lines ≡ range_with_len 1 n → lines_for i lines ≡ take n log
  lines_are lines n told is = lines_from lines 0 n told is
