-- A printed journal has one list of histories.
use Rattle.std.proofs.Common.{◌≡◌, ◌≢◌, ℕ, ◌+◌, ◌^◌, ◌<◌, List, [], ◌∷◌, ◌++◌, length, refl, sym, ap, ◌∙◌, arith, append_assoc}
use Rattle.std.specs.Prelude.{codes, ⊤}
use Rattle.std.specs.List.{flat_map, AllByRecursion}
use Rattle.std.specs.Fmt.{decimal}
use Rattle.std.specs.Str.Parse.{AllDigits}
use Rattle.std.proofs.lemmas.Fmt.{decimal_injective, decimal_is_IsNumeral}
use Rattle.std.proofs.lemmas.Str.Parse.{digit_from_value}
use Rattle.mely_event.specs.declared.colour.Colour.{Colour}
use Rattle.mely_event.specs.declared.event.Event.{Event}
use Rattle.mely_history.specs.declared.entry.Entry.{Entry}
use Rattle.mely_history.specs.declared.entry.Entry.TheVariants.{Reg, Take, Fin, Steal}
use Rattle.sws_text.specs.Numbers.{space_number}
use Rattle.mely_journal.specs.Journal.{entry_line, shard_text, journal_from, journal, IsSmall, AreSmall}

-- ---- numbers

-- what stands behind a number begins with no digit
abbrev pub Ends : List ℕ → Type 0
Ends [] = ⊤
Ends (byte ∷ rest) = byte < 48

head_is : (a b : ℕ) (x y : List ℕ) → a ∷ x ≡ b ∷ y → a ≡ b
head_is a b x y e = cc

tail_is : (a b : ℕ) (x y : List ℕ) → a ∷ x ≡ b ∷ y → x ≡ y
tail_is a b x y e = cc

pub nil_is : {X : Type 0} (a : ℕ) (x : List ℕ) → [] ≡ a ∷ x → X
nil_is a x e = absurd (no a x e)
  where
    no : (a : ℕ) (x : List ℕ) → [] ≡ a ∷ x → ⊥
    no a x e = cc

-- digits up to where none stands are the same, however they are read
digits_split : (a b x y : List ℕ) → AllDigits 10 a → AllDigits 10 b → Ends x → Ends y → a ++ x ≡ b ++ y → (a ≡ b) × (x ≡ y)
digits_split [] [] x y all_a all_b ends_x ends_y e = (refl, e)
digits_split [] (d ∷ b) x y all_a all_b ends_x ends_y e = absurd (early x d (b ++ y) ends_x all_b.0 e)
  where
    early : (x : List ℕ) (d : ℕ) (rest : List ℕ) → Ends x → Rattle.std.specs.Char.digit_value d < 10 → x ≡ d ∷ rest → ⊥
    early [] d rest ends digit e = nil_is d rest e
    early (c ∷ x) d rest ends digit e = let at = digit_from_value d digit in let same = head_is c d x rest e in omega arith
digits_split (c ∷ a) [] x y all_a all_b ends_x ends_y e = absurd (early y c (a ++ x) ends_y all_a.0 (sym e))
  where
    early : (x : List ℕ) (d : ℕ) (rest : List ℕ) → Ends x → Rattle.std.specs.Char.digit_value d < 10 → x ≡ d ∷ rest → ⊥
    early [] d rest ends digit e = nil_is d rest e
    early (c ∷ x) d rest ends digit e = let at = digit_from_value d digit in let same = head_is c d x rest e in omega arith
digits_split (c ∷ a) (d ∷ b) x y all_a all_b ends_x ends_y e =
    let rest = digits_split a b x y all_a.1 all_b.1 ends_x ends_y (tail_is c d (a ++ x) (b ++ y) e) in
    (ap (λ z. z ∷ a) (head_is c d (a ++ x) (b ++ y) e) ∙ ap (λ z. d ∷ z) rest.0, rest.1)

-- a number with a space before it, and what stands behind it
pub spaced_split : (m n : ℕ) (x y : List ℕ) → m < 2 ^ 64 → n < 2 ^ 64 → Ends x → Ends y → space_number m ++ x ≡ space_number n ++ y → (m ≡ n) × (x ≡ y)
spaced_split m n x y small_m small_n ends_x ends_y e =
    let parts = digits_split (decimal m) (decimal n) x y (decimal_is_IsNumeral m small_m).0.1 (decimal_is_IsNumeral n small_n).0.1 ends_x ends_y
    (tail_is 32 32 (decimal m ++ x) (decimal n ++ y) e) in
    (decimal_injective m n small_m small_n parts.0, parts.1)

-- two numbers, and three
three_split : (a b c d e f : ℕ) (x y : List ℕ) → (a < 2 ^ 64) × (b < 2 ^ 64) × (c < 2 ^ 64) → (d < 2 ^ 64) × (e < 2 ^ 64) × (f < 2 ^ 64)
    → space_number a ++ (space_number b ++ (space_number c ++ 10 ∷ x)) ≡ space_number d ++ (space_number e ++ (space_number f ++ 10 ∷ y)) → (a ≡ d) × (b ≡ e) × (c ≡ f) × (x ≡ y)
three_split a b c d e f x y small other is =
    let low : 32 < 48 = omega arith in
    let feed : 10 < 48 = omega arith in
    let first = spaced_split a d (space_number b ++ (space_number c ++ 10 ∷ x)) (space_number e ++ (space_number f ++ 10 ∷ y)) small.0 other.0 low low is in
    let second = spaced_split b e (space_number c ++ 10 ∷ x) (space_number f ++ 10 ∷ y) small.1 other.1 low low first.1 in
    let third = spaced_split c f (10 ∷ x) (10 ∷ y) small.2 other.2 feed feed second.1 in
    (first.0, second.0, third.0, tail_is 10 10 x y third.1)

-- ---- words

pub cancel : (word a b : List ℕ) → word ++ a ≡ word ++ b → a ≡ b
cancel [] a b e = e
cancel (c ∷ word) a b e = cancel word a b (tail_is c c (word ++ a) (word ++ b) e)

other_word : {X : Type 0} (c d : ℕ) (x y : List ℕ) → c ≢ d → c ∷ x ≡ d ∷ y → X
other_word c d x y not e = absurd (not (head_is c d x y e))

left_three : (word a b c x : List ℕ) → (word ++ a ++ b ++ c ++ 10 ∷ []) ++ x ≡ word ++ (a ++ (b ++ (c ++ 10 ∷ x)))
left_three word a b c x = simp append_assoc

left_four : (word a b c d x : List ℕ) → (word ++ a ++ b ++ c ++ d ++ 10 ∷ []) ++ x ≡ word ++ (a ++ (b ++ (c ++ (d ++ 10 ∷ x))))
left_four word a b c d x = simp append_assoc

left_two : (word a b r x : List ℕ) → ((word ++ a ++ b ++ 10 ∷ []) ++ r) ++ x ≡ word ++ (a ++ (b ++ 10 ∷ (r ++ x)))
left_two word a b r x = simp append_assoc

-- the numbers behind one word
numbers_split : (word : List ℕ) (a b c d e f : ℕ) (x y : List ℕ) → (a < 2 ^ 64) × (b < 2 ^ 64) × (c < 2 ^ 64) → (d < 2 ^ 64) × (e < 2 ^ 64) × (f < 2 ^ 64)
    → (word ++ space_number a ++ space_number b ++ space_number c ++ 10 ∷ []) ++ x ≡ (word ++ space_number d ++ space_number e ++ space_number f ++ 10 ∷ []) ++ y → (a ≡ d) × (b ≡ e) × (c ≡ f) × (x ≡ y)
numbers_split word a b c d e f x y small other is =
    three_split a b c d e f x y small other
    (cancel word (space_number a ++ (space_number b ++ (space_number c ++ 10 ∷ x))) (space_number d ++ (space_number e ++ (space_number f ++ 10 ∷ y)))
    (sym (left_three word (space_number a) (space_number b) (space_number c) x) ∙ is ∙ left_three word (space_number d) (space_number e) (space_number f) y))

colour_at : ℕ → Colour
colour_at number = record { 0 = number }

-- ---- entries

abbrev pub SameEntry : Entry → Entry → List ℕ → List ℕ → Type 0
SameEntry one other x y = (one ≡ other) × (x ≡ y)

three_numbers : (make : Colour → ℕ → ℕ → Entry) (c d : Colour) (m n p q : ℕ) (x y : List ℕ) → (c.0 ≡ d.0) × (m ≡ n) × (p ≡ q) × (x ≡ y) → (make c m p ≡ make d n q) × (x ≡ y)
unfolding colour_at
three_numbers make c d m n p q x y same =
    (ap (λ k. make (colour_at k) m p) same.0 ∙ ap (λ k. make d k p) same.1 ∙ ap (λ k. make d n k) same.2, same.3)

reg_split : (c d : Colour) (e f : Event) (by other : ℕ) (x y : List ℕ) → IsSmall (Reg c e by) → IsSmall (Reg d f other) → entry_line (Reg c e by) ++ x ≡ entry_line (Reg d f other) ++ y
    → SameEntry (Reg c e by) (Reg d f other) x y
unfolding colour_at
reg_split c d e f by other x y small small' is =
    let low : 32 < 48 = omega arith in
    let body : space_number c.0 ++ (space_number e.handler ++ (space_number e.arg ++ (space_number by ++ 10 ∷ x))) ≡ space_number d.0 ++ (space_number f.handler ++ (space_number f.arg ++ (space_number other ++ 10 ∷ y))) =
    cancel (codes "reg") (space_number c.0 ++ (space_number e.handler ++ (space_number e.arg ++ (space_number by ++ 10 ∷ x)))) (space_number d.0 ++ (space_number f.handler ++ (space_number f.arg ++ (space_number other ++ 10 ∷ y))))
    (sym (left_four (codes "reg") (space_number c.0) (space_number e.handler) (space_number e.arg) (space_number by) x) ∙ is ∙ left_four (codes "reg") (space_number d.0) (space_number f.handler) (space_number f.arg) (space_number other) y) in
    let first = spaced_split c.0 d.0 (space_number e.handler ++ (space_number e.arg ++ (space_number by ++ 10 ∷ x))) (space_number f.handler ++ (space_number f.arg ++ (space_number other ++ 10 ∷ y))) small.0 small'.0 low low body in
    let rest = three_split e.handler e.arg by f.handler f.arg other x y (small.1, small.2, small.3) (small'.1, small'.2, small'.3) first.1 in (
      ap (λ k. Reg (colour_at k) e by) first.0 ∙ ap (λ k. Reg d (record { handler = k; arg = e.arg }) by) rest.0
          ∙ ap (λ k. Reg d (record { handler = f.handler; arg = k }) by) rest.1 ∙ ap (λ k. Reg d f k) rest.2,
      rest.3,
    )

pub entry_split : (one other : Entry) (x y : List ℕ) → IsSmall one → IsSmall other → entry_line one ++ x ≡ entry_line other ++ y → SameEntry one other x y
entry_split (Reg c e by) (Reg d f other) x y small small' is = reg_split c d e f by other x y small small' is
entry_split (Reg c e by) (Take d n q) x y small small' is = other_word 114 116 _ _ (λ s. omega arith) is
entry_split (Reg c e by) (Fin d n q) x y small small' is = other_word 114 102 _ _ (λ s. omega arith) is
entry_split (Reg c e by) (Steal d n q) x y small small' is = other_word 114 115 _ _ (λ s. omega arith) is
entry_split (Take c m p) (Reg d f other) x y small small' is = other_word 116 114 _ _ (λ s. omega arith) is
entry_split (Take c m p) (Take d n q) x y small small' is = three_numbers Take c d m n p q x y (numbers_split (codes "take") c.0 m p d.0 n q x y small small' is)
entry_split (Take c m p) (Fin d n q) x y small small' is = other_word 116 102 _ _ (λ s. omega arith) is
entry_split (Take c m p) (Steal d n q) x y small small' is = other_word 116 115 _ _ (λ s. omega arith) is
entry_split (Fin c m p) (Reg d f other) x y small small' is = other_word 102 114 _ _ (λ s. omega arith) is
entry_split (Fin c m p) (Take d n q) x y small small' is = other_word 102 116 _ _ (λ s. omega arith) is
entry_split (Fin c m p) (Fin d n q) x y small small' is = three_numbers Fin c d m n p q x y (numbers_split (codes "fin") c.0 m p d.0 n q x y small small' is)
entry_split (Fin c m p) (Steal d n q) x y small small' is = other_word 102 115 _ _ (λ s. omega arith) is
entry_split (Steal c m p) (Reg d f other) x y small small' is = other_word 115 114 _ _ (λ s. omega arith) is
entry_split (Steal c m p) (Take d n q) x y small small' is = other_word 115 116 _ _ (λ s. omega arith) is
entry_split (Steal c m p) (Fin d n q) x y small small' is = other_word 115 102 _ _ (λ s. omega arith) is
entry_split (Steal c m p) (Steal d n q) x y small small' is = three_numbers Steal c d m n p q x y (numbers_split (codes "steal") c.0 m p d.0 n q x y small small' is)

-- ---- histories

entries_split : (a b : List Entry) (x y : List ℕ) → AllByRecursion IsSmall a → AllByRecursion IsSmall b → length a ≡ length b → flat_map entry_line a ++ x ≡ flat_map entry_line b ++ y → (a ≡ b) × (x ≡ y)
entries_split [] [] x y small small' long is = (refl, is)
entries_split [] (f ∷ b) x y small small' long is = absurd (omega arith)
entries_split (e ∷ a) [] x y small small' long is = absurd (omega arith)
entries_split (e ∷ a) (f ∷ b) x y small small' long is =
    let first = entry_split e f (flat_map entry_line a ++ x) (flat_map entry_line b ++ y) small.0 small'.0
    (sym (append_assoc (entry_line e) (flat_map entry_line a) x) ∙ is ∙ append_assoc (entry_line f) (flat_map entry_line b) y) in
    let rest = entries_split a b x y small.1 small'.1 (omega arith) first.1 in
    (ap (λ z. z ∷ a) first.0 ∙ ap (λ z. f ∷ z) rest.0, rest.1)

pub shard_split : (number : ℕ) (a b : List Entry) (x y : List ℕ) → AreSmall a → AreSmall b → shard_text number a ++ x ≡ shard_text number b ++ y → (a ≡ b) × (x ≡ y)
shard_split number a b x y small small' is =
    let feed : 10 < 48 = omega arith in
    let counted = cancel (space_number number) (space_number (length a) ++ 10 ∷ (flat_map entry_line a ++ x)) (space_number (length b) ++ 10 ∷ (flat_map entry_line b ++ y))
    (cancel (codes "shard") (space_number number ++ (space_number (length a) ++ 10 ∷ (flat_map entry_line a ++ x))) (space_number number ++ (space_number (length b) ++ 10 ∷ (flat_map entry_line b ++ y)))
    (sym (left_two (codes "shard") (space_number number) (space_number (length a)) (flat_map entry_line a) x) ∙ is
    ∙ left_two (codes "shard") (space_number number) (space_number (length b)) (flat_map entry_line b) y)) in
    let parts = spaced_split (length a) (length b) (10 ∷ (flat_map entry_line a ++ x)) (10 ∷ (flat_map entry_line b ++ y)) small.1 small'.1 feed feed counted in
    entries_split a b x y small.0 small'.0 parts.0 (tail_is 10 10 (flat_map entry_line a ++ x) (flat_map entry_line b ++ y) parts.1)

journal_split : (number : ℕ) (a b : List (List Entry)) → AllByRecursion AreSmall a → AllByRecursion AreSmall b → journal_from number a ≡ journal_from number b → a ≡ b
journal_split number [] [] small small' is = refl
journal_split number [] (h ∷ b) small small' is = nil_is 115 _ is
journal_split number (g ∷ a) [] small small' is = nil_is 115 _ (sym is)
journal_split number (g ∷ a) (h ∷ b) small small' is =
    let first = shard_split number g h (journal_from (number + 1) a) (journal_from (number + 1) b) small.0 small'.0 is in
    ap (λ z. z ∷ a) first.0 ∙ ap (λ z. h ∷ z) (journal_split (number + 1) a b small.1 small'.1 first.1)

-- a journal has one list of histories
pub journal-unique : (a b : List (List Entry)) → AllByRecursion AreSmall a → AllByRecursion AreSmall b → journal a ≡ journal b → a ≡ b
journal-unique a b small small' is = journal_split 0 a b small small' is
