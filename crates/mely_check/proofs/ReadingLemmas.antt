-- What stands at the front of a text.
use Rattle.std.proofs.Common.{◌≡◌, ℕ, ◌+◌, ◌^◌, ◌<◌, ◌≤◌, Bool, true, false, not, List, [], ◌∷◌, ◌++◌, length, take, drop, Option, Some, None, refl, sym, ap, ◌∙◌, arith, append_assoc}
use Rattle.std.specs.Prelude.{MatchOption, nat_eq, codes}
use Rattle.std.specs.Fmt.{decimal}
use Rattle.std.specs.Str.Parse.{AllDigits}
use Rattle.std.specs.Cmp.Lexicographic.{same_text, other_text}
use Rattle.std.proofs.lemmas.Fmt.{decimal_is_IsNumeral}
use Rattle.std.proofs.lemmas.Fmt.{decimal_injective}
use Rattle.std.proofs.lemmas.Str.Parse.{digit_from_value}
use Rattle.std.proofs.lemmas.List.{take-append-drop}
use Rattle.std.proofs.Math.Seq.{take-append_seam}
use lib.Pointwise.{pointwise}
use Rattle.sws_text.specs.Numbers.{space_number}
use Rattle.mely_event.specs.declared.colour.Colour.{Colour}
use Rattle.mely_event.specs.declared.event.Event.{Event}
use Rattle.mely_history.specs.declared.entry.Entry.TheVariants.{Reg}
use Rattle.mely_journal.specs.Journal.{entry_line, shard_line}
use Rattle.mely_check.specs.Reading.{IsHigh, IsBehind}

-- ---- a word

pub prefix_cases : {X : Type 0} (now : X → List ℕ) (text word : List ℕ) (r : Option X)
    → MatchOption r (pointwise nat_eq (take (length word) text) word ≡ false) (λ x. (pointwise nat_eq (take (length word) text) word ≡ true) × (now x ≡ drop (length word) text) × (length (now x) + length word ≡ length text))
    → MatchOption r ((rest : List ℕ) → text ≡ word ++ rest → ⊥) (λ x. text ≡ word ++ now x)
prefix_cases now text word None not = λ rest is. other_text (take (length word) text) word (sym not) (ap (take (length word)) is ∙ take-append_seam word rest)
prefix_cases now text word (Some x) found =
    sym (take-append-drop (length word) text) ∙ ap (λ t. t ++ drop (length word) text) (same_text (take (length word) text) word (sym found.0)) ∙ ap (λ t. word ++ t) (sym found.1)

-- ---- a number

pub head_is : (a b : ℕ) (x y : List ℕ) → a ∷ x ≡ b ∷ y → a ≡ b
head_is a b x y e = cc

pub tail_is : (a b : ℕ) (x y : List ℕ) → a ∷ x ≡ b ∷ y → x ≡ y
tail_is a b x y e = cc

early : (x : List ℕ) (d : ℕ) (rest : List ℕ) → IsBehind x → 48 ≤ d → x ≡ d ∷ rest → ⊥
early [] d rest ends high e = cc
early (c ∷ x) d rest ends high e = let same = head_is c d x rest e in omega arith

-- two texts up to their first lesser byte are the same
high_split : (a b x y : List ℕ) → IsHigh a → IsHigh b → IsBehind x → IsBehind y → a ++ x ≡ b ++ y → (a ≡ b) × (x ≡ y)
high_split [] [] x y high_a high_b ends_x ends_y e = (refl, e)
high_split [] (d ∷ b) x y high_a high_b ends_x ends_y e = absurd (early x d (b ++ y) ends_x high_b.0 e)
high_split (c ∷ a) [] x y high_a high_b ends_x ends_y e = absurd (early y c (a ++ x) ends_y high_a.0 (sym e))
high_split (c ∷ a) (d ∷ b) x y high_a high_b ends_x ends_y e =
    let rest = high_split a b x y high_a.1 high_b.1 ends_x ends_y (tail_is c d (a ++ x) (b ++ y) e) in
    (ap (λ z. z ∷ a) (head_is c d (a ++ x) (b ++ y) e) ∙ ap (λ z. d ∷ z) rest.0, rest.1)

high_digits : (digits : List ℕ) → AllDigits 10 digits → IsHigh digits
high_digits [] all = tt
high_digits (d ∷ digits) all = (let at = digit_from_value d all.0 in omega arith, high_digits digits all.1)

pub IsHigh-decimal : (n : ℕ) → n < 2 ^ 64 → IsHigh (decimal n)
IsHigh-decimal n small = high_digits (decimal n) (decimal_is_IsNumeral n small).0.1

-- a number with a space before it, and what stands behind it
pub spaced_split : (m n : ℕ) (x y : List ℕ) → m < 2 ^ 64 → n < 2 ^ 64 → IsBehind x → IsBehind y → space_number m ++ x ≡ space_number n ++ y → (m ≡ n) × (x ≡ y)
spaced_split m n x y small_m small_n ends_x ends_y e =
    let parts = high_split (decimal m) (decimal n) x y (IsHigh-decimal m small_m) (IsHigh-decimal n small_n) ends_x ends_y (tail_is 32 32 (decimal m ++ x) (decimal n ++ y) e) in
    (decimal_injective m n small_m small_n parts.0, parts.1)

-- the digits behind a space are those of the number that is spelled there
pub digits_are : (text rest digits later behind : List ℕ) (n : ℕ) → text ≡ 32 ∷ rest → rest ≡ digits ++ later → IsHigh digits → IsBehind later → n < 2 ^ 64 → IsBehind behind → text ≡ space_number n ++ behind → digits ≡ decimal n
digits_are text rest digits later behind n at parts high ends small ends' is =
    (high_split digits (decimal n) later behind high (IsHigh-decimal n small) ends ends' (sym parts ∙ tail_is 32 32 rest (decimal n ++ behind) (sym at ∙ is))).0

-- behind a number that was read stands what is spelled there
pub rest_is : (text rest behind : List ℕ) (m n : ℕ) → m < 2 ^ 64 → n < 2 ^ 64 → IsBehind rest → IsBehind behind → text ≡ space_number m ++ rest → text ≡ space_number n ++ behind → rest ≡ behind
rest_is text rest behind m n small_m small_n ends ends' read is = (spaced_split m n rest behind small_m small_n ends ends' (sym read ∙ is)).1

-- ---- the numbers of a line

-- a space and a LF are below the digits
pub space_ends : 32 < 48
space_ends = omega arith

pub feed_ends : 10 < 48
feed_ends = omega arith

-- behind one number that was read of two stands the other
pub second_is : (text rest last : List ℕ) (first a b : ℕ) → first ≤ 65535 → a < 65536 → IsBehind rest → text ≡ space_number first ++ rest → text ≡ space_number a ++ (space_number b ++ last) → rest ≡ space_number b ++ last
second_is text rest last first a b few few_a ends read is = rest_is text rest (space_number b ++ last) first a (omega arith) (omega arith) ends space_ends read is

pub last_is : (text rest last : List ℕ) (first a high : ℕ) → first ≤ high → a ≤ high → high < 2 ^ 64 → IsBehind rest → IsBehind last → text ≡ space_number first ++ rest → text ≡ space_number a ++ last → rest ≡ last
last_is text rest last first a high few few_a small ends ends' read is = rest_is text rest last first a (omega arith) (omega arith) ends ends' read is

-- what stands behind the word of a shard
shard_rest : (number count : ℕ) → shard_line number count ≡ codes "shard" ++ (space_number number ++ (space_number count ++ 10 ∷ []))
shard_rest number count = simp append_assoc

pub cancel : (word a b : List ℕ) → word ++ a ≡ word ++ b → a ≡ b
cancel [] a b e = e
cancel (c ∷ word) a b e = cancel word a b (tail_is c c (word ++ a) (word ++ b) e)

pub shard_behind : (text rest : List ℕ) (number count : ℕ) → text ≡ codes "shard" ++ rest → text ≡ shard_line number count → rest ≡ space_number number ++ (space_number count ++ 10 ∷ [])
shard_behind text rest number count at is = cancel (codes "shard") rest (space_number number ++ (space_number count ++ 10 ∷ [])) (sym at ∙ is ∙ shard_rest number count)

-- and behind `reg`
pub reg_behind : (text : List ℕ) (colour : Colour) (event : Event) (by : ℕ) → codes "reg" ++ text ≡ entry_line (Reg colour event by)
    → text ≡ space_number colour.0 ++ (space_number event.handler ++ (space_number event.arg ++ (space_number by ++ 10 ∷ [])))
reg_behind text colour event by is =
    let whole : entry_line (Reg colour event by) ≡ codes "reg" ++ (space_number colour.0 ++ (space_number event.handler ++ (space_number event.arg ++ (space_number by ++ 10 ∷ [])))) = simp append_assoc in
    cancel (codes "reg") text (space_number colour.0 ++ (space_number event.handler ++ (space_number event.arg ++ (space_number by ++ 10 ∷ [])))) (is ∙ whole)

-- a rest that was told from the end of the line is another
pub not_feed : (rest feed : List ℕ) → feed ≡ 10 ∷ [] → true ≡ not (pointwise nat_eq rest feed) → rest ≡ 10 ∷ [] → ⊥
not_feed rest feed is told same = by_test (pointwise nat_eq rest feed) refl told
  where
    by_test : (t : Bool) → t ≡ pointwise nat_eq rest feed → true ≡ not t → ⊥
    by_test true at e = cc
    by_test false at e = other_text rest feed at (same ∙ sym is)
