-- Lines: where they end, and what entries and shards write.
use Rattle.std.proofs.Common.{◌≡◌, ℕ, ◌+◌, ◌^◌, ◌<◌, ◌≤◌, List, [], ◌∷◌, ◌++◌, length, codes, refl, sym, ap, ◌∙◌, arith, append_assoc, append-nil, length-append}
use Rattle.std.specs.Fmt.{decimal}
use Rattle.std.proofs.lemmas.Fmt.{length-decimal-le}
use Rattle.std.proofs.lemmas.Grind.{flat_map-append}
use Rattle.mely_history.specs.declared.entry.Entry.{Entry}
use Rattle.mely_history.specs.declared.entry.Entry.TheVariants.{Reg, Take, Fin, Steal}
use Rattle.sws_text.specs.Numbers.{space_number}
use Rattle.mely_journal.specs.Journal.{entry_line, shard_line}
use Rattle.mely_check.specs.Journals.{IsFit, HasNoFeed, IsLine, join_lines}
use Rattle.mely_check.specs.Reading.{IsHigh}
use Rattle.mely_check.proofs.ReadingLemmas.{IsHigh-decimal, head_is, tail_is}

-- ---- where a line ends

front_same : (f g x y : List ℕ) → HasNoFeed f → HasNoFeed g → f ++ 10 ∷ x ≡ g ++ 10 ∷ y → f ≡ g
front_same [] [] x y none none' is = refl
front_same [] (b ∷ g) x y none none' is = absurd (none'.0 (sym (head_is 10 b x (g ++ 10 ∷ y) is)))
front_same (a ∷ f) [] x y none none' is = absurd (none.0 (head_is a 10 (f ++ 10 ∷ x) y is))
front_same (a ∷ f) (b ∷ g) x y none none' is =
    ap (λ c. c ∷ f) (head_is a b (f ++ 10 ∷ x) (g ++ 10 ∷ y) is) ∙ ap (λ t. b ∷ t) (front_same f g x y none.1 none'.1 (tail_is a b (f ++ 10 ∷ x) (g ++ 10 ∷ y) is))

-- texts that begin with lines begin with the same one
pub line_same : (a b x y : List ℕ) → IsLine a → IsLine b → a ++ x ≡ b ++ y → a ≡ b
line_same a b x y line other is =
    let whole : line.front ++ 10 ∷ x ≡ other.front ++ 10 ∷ y =
    sym (append_assoc line.front (10 ∷ []) x) ∙ ap (λ t. t ++ x) (sym line.is) ∙ is ∙ ap (λ t. t ++ y) other.is ∙ append_assoc other.front (10 ∷ []) y in
    line.is ∙ ap (λ t. t ++ 10 ∷ []) (front_same line.front other.front x y line.no_feed other.no_feed whole) ∙ sym other.is

-- a line has some bytes
pub some_line : (line x : List ℕ) → IsLine line → line ++ x ≡ [] → ⊥
some_line line x is none =
    let long = length-append line x in
    let last = length-append is.front (10 ∷ []) in
    let none' = ap (λ t. length t) none in
    let whole = ap (λ t. length t) is.is in
    omega (arith, long, last, none', whole)

pub joined-push : (lines : List (List ℕ)) (line : List ℕ) → join_lines (lines ++ line ∷ []) ≡ join_lines lines ++ line
joined-push lines line = flat_map-append (λ l. l) lines (line ∷ []) ∙ ap (λ t. join_lines lines ++ t) (append-nil line)

-- ---- what is written

pub no_feed-append : (a b : List ℕ) → HasNoFeed a → HasNoFeed b → HasNoFeed (a ++ b)
no_feed-append [] b front back = back
no_feed-append (x ∷ a) b front back = (front.0, no_feed-append a b front.1 back)

no_feed-high : (bytes : List ℕ) → IsHigh bytes → HasNoFeed bytes
no_feed-high [] high = tt
no_feed-high (b ∷ bytes) high = (λ same. (let at = high.0 in omega arith), no_feed-high bytes high.1)

no_feed-spaced : (n : ℕ) → n < 2 ^ 64 → HasNoFeed (space_number n)
no_feed-spaced n small = (λ same. omega arith, no_feed-high (decimal n) (IsHigh-decimal n small))

no_feed-three : (word : List ℕ) (a b c : ℕ) → HasNoFeed word → a < 65536 → b < 65536 → c < 65536 → HasNoFeed (word ++ space_number a ++ space_number b ++ space_number c)
no_feed-three word a b c plain_word few_a few_b few_c =
    no_feed-append (word ++ space_number a ++ space_number b) (space_number c)
    (no_feed-append (word ++ space_number a) (space_number b) (no_feed-append word (space_number a) plain_word (no_feed-spaced a (omega arith))) (no_feed-spaced b (omega arith)))
    (no_feed-spaced c (omega arith))

is_line : (front line : List ℕ) → line ≡ front ++ 10 ∷ [] → HasNoFeed front → IsLine line
is_line front line is none = record { front = front; is = is; no_feed = none }

pub IsLine-entry : (e : Entry) → IsFit e → IsLine (entry_line e)
IsLine-entry (Reg c event by) fit =
    is_line (codes "reg" ++ space_number c.0 ++ space_number event.handler ++ space_number event.arg ++ space_number by) (entry_line (Reg c event by)) refl
    (no_feed-append (codes "reg" ++ space_number c.0 ++ space_number event.handler ++ space_number event.arg) (space_number by)
    (no_feed-three (codes "reg") c.0 event.handler event.arg (search arith) fit.0 (let h = fit.1 in omega arith) fit.2) (no_feed-spaced by (let h = fit.3 in omega arith)))
IsLine-entry (Take c core count) fit =
    is_line (codes "take" ++ space_number c.0 ++ space_number core ++ space_number count) (entry_line (Take c core count)) refl (no_feed-three (codes "take") c.0 core count (search arith) fit.0 fit.1 fit.2)
IsLine-entry (Fin c core count) fit =
    is_line (codes "fin" ++ space_number c.0 ++ space_number core ++ space_number count) (entry_line (Fin c core count)) refl (no_feed-three (codes "fin") c.0 core count (search arith) fit.0 fit.1 fit.2)
IsLine-entry (Steal c from to) fit =
    is_line (codes "steal" ++ space_number c.0 ++ space_number from ++ space_number to) (entry_line (Steal c from to)) refl (no_feed-three (codes "steal") c.0 from to (search arith) fit.0 fit.1 fit.2)

pub IsLine-shard : (number count : ℕ) → number < 2 ^ 64 → count < 2 ^ 64 → IsLine (shard_line number count)
IsLine-shard number count few small =
    is_line (codes "shard" ++ space_number number ++ space_number count) (shard_line number count) refl
    (no_feed-append (codes "shard" ++ space_number number) (space_number count) (no_feed-append (codes "shard") (space_number number) (search arith) (no_feed-spaced number few)) (no_feed-spaced count small))

-- ---- how long they are

length-spaced : (k n : ℕ) → 0 < k → n < 10 ^ k → n < 2 ^ 64 → length (space_number n) ≤ k + 1
length-spaced k n some small fits = let digits = length-decimal-le k n some small fits in omega arith

length-three : (word : List ℕ) (a b c : ℕ) → a < 65536 → b < 65536 → c < 65536 → length (word ++ space_number a ++ space_number b ++ space_number c) ≤ length word + 18
length-three word a b c few_a few_b few_c =
    let one = length-spaced 5 a (omega arith) (omega arith) (omega arith) in
    let two = length-spaced 5 b (omega arith) (omega arith) (omega arith) in
    let three = length-spaced 5 c (omega arith) (omega arith) (omega arith) in
    omega (arith, one, two, three, length-append (word ++ space_number a ++ space_number b) (space_number c), length-append (word ++ space_number a) (space_number b), length-append word (space_number a))

pub length-entry_line : (e : Entry) → IsFit e → length (entry_line e) ≤ 64
length-entry_line (Reg c event by) fit =
    let front = length-three (codes "reg") c.0 event.handler event.arg fit.0 (let h = fit.1 in omega arith) fit.2 in
    let last = length-spaced 5 by (omega arith) (let h = fit.3 in omega arith) (let h = fit.3 in omega arith) in
    omega (arith, front, last, length-append (codes "reg" ++ space_number c.0 ++ space_number event.handler ++ space_number event.arg) (space_number by), length-append (codes "reg" ++ space_number c.0 ++ space_number event.handler ++ space_number event.arg ++ space_number by) (10 ∷ []))
length-entry_line (Take c core count) fit =
    let front = length-three (codes "take") c.0 core count fit.0 fit.1 fit.2 in
    omega (arith, front, length-append (codes "take" ++ space_number c.0 ++ space_number core ++ space_number count) (10 ∷ []))
length-entry_line (Fin c core count) fit =
    let front = length-three (codes "fin") c.0 core count fit.0 fit.1 fit.2 in
    omega (arith, front, length-append (codes "fin" ++ space_number c.0 ++ space_number core ++ space_number count) (10 ∷ []))
length-entry_line (Steal c from to) fit =
    let front = length-three (codes "steal") c.0 from to fit.0 fit.1 fit.2 in
    omega (arith, front, length-append (codes "steal" ++ space_number c.0 ++ space_number from ++ space_number to) (10 ∷ []))

pub length-shard_line : (number count : ℕ) → number < 65536 → count < 2 ^ 64 → length (shard_line number count) ≤ 64
length-shard_line number count few small =
    let one = length-spaced 5 number (omega arith) (omega arith) (omega arith) in
    let two = length-spaced 20 count (omega arith) (omega arith) small in
    omega (arith, one, two, length-append (codes "shard" ++ space_number number ++ space_number count) (10 ∷ []), length-append (codes "shard" ++ space_number number) (space_number count), length-append (codes "shard") (space_number number))
