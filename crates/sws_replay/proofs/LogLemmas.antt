-- The lines of a log: by the order of their connections, and by those of each, they are one list.
use Rattle.std.proofs.Common.{◌≡◌, ℕ, zero, suc, ◌≤◌, ◌<◌, ◌%◌, Bool, true, false, List, [], ◌∷◌, Option, None, Some, length, map, if◌then◌else◌, refl, sym, ap, ap₂, ◌∙◌, subst, arith, eq-eqb}
use Rattle.std.specs.Prelude.{slice_get, ◌==◌}
use Rattle.std.specs.List.{AllByRecursion}
use Rattle.std.proofs.lemmas.Bool.{eqb-true}
use Rattle.mely_history.specs.Setup.{shape_of}
use Rattle.mely_history.specs.declared.entry.Entry.{Entry}
use Rattle.mely_history.specs.declared.shape.Shape.{Shape}
use Rattle.mely_machine.specs.Rules.{Rules}
use Rattle.mely_weave.proofs.Wholes.GatherLemmas.{get_there}
use Rattle.mely_weave.specs.Side.{shard_of}
use Rattle.sws_handlers.specs.LogTurns.{lines_for}
use Rattle.sws_log.specs.declared.line.LogLine.{LogLine}
use Rattle.sws_script.specs.declared.input.ScriptConn.{ScriptConn}
use Rattle.sws_replay.specs.Expected.{Expected}
use Rattle.sws_replay.specs.Histories.{AreServed, colour_for}
use Rattle.sws_replay.specs.Logs.{AreLogged, IsLog}

-- ---- two lists of lines

head_is : {x y : LogLine} {xs ys : List LogLine} → x ∷ xs ≡ y ∷ ys → x ≡ y
head_is {x} {y} e = ap (λ (l : List LogLine). elim l [ [] ↦ x | first ∷ rest ↦ first ]) e

tail_is : {x y : LogLine} {xs ys : List LogLine} → x ∷ xs ≡ y ∷ ys → xs ≡ ys
tail_is {x} {y} {xs} e = ap (λ (l : List LogLine). elim l [ [] ↦ xs | first ∷ rest ↦ rest ]) e

own_line : (i : ℕ) (x : LogLine) (xs : List LogLine) → (x.conn == i) ≡ true → lines_for i (x ∷ xs) ≡ x ∷ lines_for i xs
own_line i x xs own = ap (λ (b : Bool). if b then x ∷ lines_for i xs else lines_for i xs) own

other_line : (i : ℕ) (x : LogLine) (xs : List LogLine) → (x.conn == i) ≡ false → lines_for i (x ∷ xs) ≡ lines_for i xs
other_line i x xs other = ap (λ (b : Bool). if b then x ∷ lines_for i xs else lines_for i xs) other

one_list : (xs ys : List LogLine) → map (λ line. line.conn) xs ≡ map (λ line. line.conn) ys → ((i : ℕ) → lines_for i xs ≡ lines_for i ys) → xs ≡ ys
one_list [] [] conns each = refl
one_list [] (y ∷ ys) conns each = cc
one_list (x ∷ xs) [] conns each = cc
one_list (x ∷ xs) (y ∷ ys) conns each =
    let same : y.conn ≡ x.conn = cc in
    let rest : map (λ line. line.conn) xs ≡ map (λ line. line.conn) ys = cc in
    let own : (x.conn == x.conn) ≡ true = eq-eqb x.conn x.conn refl in
    let own_y : (y.conn == x.conn) ≡ true = eq-eqb y.conn x.conn same in
    let both : x ∷ lines_for x.conn xs ≡ y ∷ lines_for x.conn ys = sym (own_line x.conn x xs own) ∙ each x.conn ∙ own_line x.conn y ys own_y in
    ap₂ (λ z zs. z ∷ zs) (head_is both) (one_list xs ys rest (tails same both))
  where
    tails : y.conn ≡ x.conn → x ∷ lines_for x.conn xs ≡ y ∷ lines_for x.conn ys → (i : ℕ) → lines_for i xs ≡ lines_for i ys
    tails same both i = by_test (x.conn == i) refl
      where
        by_test : (t : Bool) → (x.conn == i) ≡ t → lines_for i xs ≡ lines_for i ys
        by_test true own = subst (λ (k : ℕ). lines_for k xs ≡ lines_for k ys) (eqb-true x.conn i own) (tail_is both)
        by_test false other = sym (other_line i x xs other) ∙ each i ∙ other_line i y ys (ap (λ (k : ℕ). k == i) same ∙ other)

-- ---- of one run

none_for : (n i : ℕ) (lines : List LogLine) → n ≤ i → AllByRecursion (λ line. line.conn < n) lines → lines_for i lines ≡ []
none_for n i [] far known = refl
none_for n i (line ∷ lines) far known = by_test (line.conn == i) refl (none_for n i lines far known.1)
  where
    by_test : (t : Bool) → (line.conn == i) ≡ t → lines_for i lines ≡ [] → lines_for i (line ∷ lines) ≡ []
    by_test true own later = let same : line.conn ≡ i = eqb-true line.conn i own in let low = known.0 in absurd (omega (arith, same, low, far))
    by_test false other later = other_line i line lines other ∙ later

behind_all : {A : Type 0} (xs : List A) (i : ℕ) → slice_get xs i ≡ None → length xs ≤ i
behind_all [] i none = omega arith
behind_all (x ∷ xs) zero none = cc
behind_all (x ∷ xs) (suc i) none = let rest = behind_all xs i none in omega (arith, rest)

-- the lines of each number
each_alike : (expected : Expected) (conns : List ScriptConn) (one other : List LogLine) → AreLogged expected conns one → AreLogged expected conns other → (i : ℕ) → lines_for i one ≡ lines_for i other
each_alike expected conns one other first second i = by_conn (slice_get conns i) refl
  where
    by_conn : (o : Option ScriptConn) → slice_get conns i ≡ o → lines_for i one ≡ lines_for i other
    by_conn None none =
        let far = behind_all conns i none in none_for (length conns) i one far first.known ∙ sym (none_for (length conns) i other far second.known)
    by_conn (Some conn) at = first.each i conn at ∙ sym (second.each i conn at)

-- the shard of a colour is there, and by the rules it is the same for both
conns_alike : (expected : Expected) (shape : Shape) (conns : List ScriptConn) (one other : List LogLine) (histories : List (List Entry))
    → AreServed expected shape conns true one histories → AreServed expected shape conns true other histories → map (λ line. line.conn) one ≡ map (λ line. line.conn) other
conns_alike expected shape conns one other histories first second =
    let c = colour_for (length conns) in
    let some : 1 ≤ (shape_of first.setup).shards = first.setup.shards_in.0 in
    let shards_are : (shape_of first.setup).shards ≡ shape.shards = ap (λ (r : Rules). r.shape.shards) first.rules in
    let many = first.shards in
    let low : shard_of first.setup c < length histories = omega (arith, some, shards_are, many) in
    let there = get_there histories (shard_of first.setup c) low in
    let same : shard_of second.setup c ≡ shard_of first.setup c = ap (λ (r : Rules). c.0 % r.shape.shards) (second.rules ∙ sym first.rules) in
    sym (first.logged refl there.0 there.1) ∙ second.logged refl there.0 (ap (λ (n : ℕ). slice_get histories n) same ∙ there.1)

pub one_log : (expected : Expected) (shape : Shape) (conns : List ScriptConn) (log : Bool) (one other : List LogLine) (histories : List (List Entry))
    → IsLog expected conns log one → IsLog expected conns log other → AreServed expected shape conns log one histories → AreServed expected shape conns log other histories → one ≡ other
one_log expected shape conns false one other histories first second served served_too = first ∙ sym second
one_log expected shape conns true one other histories first second served served_too =
    one_list one other (conns_alike expected shape conns one other histories served served_too) (each_alike expected conns one other first second)
