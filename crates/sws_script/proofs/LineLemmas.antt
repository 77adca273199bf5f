-- Laws of lines: a line spells one, by the word with which it begins and what stands behind it.
use Rattle.std.proofs.Common.{◌≡◌, ℕ, ◌<◌, Bool, true, false, cond, eqb, List, [], ◌∷◌, ◌++◌, Option, Some, None, refl, sym, ap, ◌∙◌, subst, inl, inr, lit<, arith, append-nil, true-eqb}
use Rattle.std.specs.Fmt.{decimal}
use Rattle.std.specs.Str.Parse.{AllDigits}
use Rattle.std.proofs.lemmas.Fmt.{decimal_injective}
use Rattle.std.proofs.lemmas.Str.Parse.{digit_from_value}
use Rattle.sws_text.proofs.TextLemmas.{StandsFor-unique}
use Rattle.sws_text.proofs.WrittenLemmas.{StandsFor-bytes}
use Rattle.sws_script.specs.declared.input.Item.TheVariants as item
use Rattle.sws_script.specs.declared.line.Line.{Line}
use Rattle.sws_script.specs.declared.line.Line.TheVariants as line
use Rattle.sws_script.specs.declared.words.Word.{Word}
use Rattle.sws_script.specs.declared.words.Word.TheVariants.{ScheduleHead, End, ScriptHead, Conn, Step, Cut, Send, Fill, Pause, Fault}
use Rattle.sws_script.specs.Lines.{SpellsLine, IsLine, IsSpelled}
use Rattle.sws_script.specs.Words.{word_text, strip_word, onward, first_word, all_words, word_in, Says, HasNo}
use Rattle.sws_text.proofs.NumberLemmas.{decimal_digits}
use Rattle.sws_script.proofs.WordLemmas.{word_at}

-- ---- words

-- a word is found again
word_in-word_text : (word : Word) (rest : List ℕ) → word_in (word_text word ++ rest) ≡ word_at word rest
unfolding word_in
word_in-word_text ScheduleHead rest = refl
word_in-word_text End rest = refl
word_in-word_text ScriptHead rest = refl
word_in-word_text Conn rest = refl
word_in-word_text Step rest = refl
word_in-word_text Cut rest = refl
word_in-word_text Send rest = refl
word_in-word_text Fill rest = refl
word_in-word_text Pause rest = refl
word_in-word_text Fault rest = refl

word_same : (v w : Word) (a b : List ℕ) → word_at v a ≡ word_at w b → (v ≡ w) × (a ≡ b)
word_same v w a b e = let same = some_same (v, a) (w, b) e in (ap (λ (p : Word × List ℕ). p.0) same, ap (λ (p : Word × List ℕ). p.1) same)
  where
    some_same : (x y : Word × List ℕ) → Some x ≡ Some y → x ≡ y
    some_same x y e = cc

word_none : {X : Type 0} (w : Word) (a : List ℕ) → None ≡ word_at w a → X
word_none w a e = absurd (none_some (w, a) e)
  where
    none_some : {A : Type 0} (x : A) → None ≡ Some x → ⊥
    none_some x e = cc

stripped-is : (word text rest : List ℕ) → strip_word word text ≡ Some rest → text ≡ word ++ rest
stripped-is [] text rest e = same text rest e
  where
    same : (a b : List ℕ) → Some a ≡ Some b → a ≡ b
    same a b e = cc
stripped-is (letter ∷ word) [] rest e = absurd (none_some rest e)
  where
    none_some : (a : List ℕ) → None ≡ Some a → ⊥
    none_some a e = cc
stripped-is (letter ∷ word) (byte ∷ text) rest e = by_test (eqb byte letter) refl e (stripped-is word text rest)
  where
    none_some : (a : List ℕ) → None ≡ Some a → ⊥
    none_some a e = cc

    by_test : (t : Bool) → t ≡ eqb byte letter → cond t (strip_word word text) None ≡ Some rest → (strip_word word text ≡ Some rest → text ≡ word ++ rest) → byte ∷ text ≡ letter ∷ (word ++ rest)
    by_test true is e more = ap (λ b. b ∷ text) (true-eqb byte letter is) ∙ ap (λ t. letter ∷ t) (more e)
    by_test false is e more = absurd (none_some rest e)

first_word-is : (words : List Word) (text : List ℕ) (word : Word) (rest : List ℕ) → first_word words text ≡ word_at word rest → text ≡ word_text word ++ rest
first_word-is [] text word rest e = word_none word rest e
first_word-is (w ∷ words) text word rest e = by_front (strip_word (word_text w) text) refl e (first_word-is words text word rest)
  where
    by_front : (o : Option (List ℕ)) → strip_word (word_text w) text ≡ o → onward w o (first_word words text) ≡ word_at word rest
        → (first_word words text ≡ word_at word rest → text ≡ word_text word ++ rest) → text ≡ word_text word ++ rest
    by_front None is e more = more e
    by_front (Some front) is e more =
        let same = word_same w word front rest e in
        stripped-is (word_text w) text front is ∙ ap (λ v. word_text v ++ front) same.0 ∙ ap (λ r. word_text word ++ r) same.1

pub word_in-is : (text : List ℕ) (word : Word) (rest : List ℕ) → word_in text ≡ word_at word rest → text ≡ word_text word ++ rest
unfolding word_in
word_in-is text word rest e = first_word-is all_words text word rest e

-- ---- lines

-- the word with which a line begins, and what stands behind it
pub record Begins (text : List ℕ) (says : Line) : Type 0 where
  pub word : Word
  pub rest : List ℕ
  pub is : text ≡ word_text word ++ rest
  pub of : Says word rest says

alone : (text : List ℕ) (word : Word) (says : Line) → text ≡ word_text word → Says word [] says → Begins text says
alone text word says is of = record { word = word; rest = []; is = is ∙ sym (append-nil (word_text word)); of = of }

Begins-line : (text : List ℕ) (says : Line) → SpellsLine text says → IsLine says → Begins text says
Begins-line text line.ScheduleHead spells is = alone text ScheduleHead line.ScheduleHead spells (refl, refl)
Begins-line text (line.Run core count) spells is =
    record { word = Step; rest = decimal core ++ 32 ∷ decimal count; is = spells; of = inr (core, count, refl, refl, is.0, is.1) }
Begins-line text line.End spells is = alone text End line.End spells (refl, refl)
Begins-line text line.ScriptHead spells is = alone text ScriptHead line.ScriptHead spells (refl, refl)
Begins-line text line.Conn spells is = alone text Conn line.Conn spells (refl, refl)
Begins-line text (line.Step count) spells is = record { word = Step; rest = decimal count; is = spells; of = inl (count, refl, refl, is) }
Begins-line text (line.Cut count) spells is = record { word = Cut; rest = decimal count; is = spells; of = (count, refl, refl, is) }
Begins-line text (line.Item (item.Send bytes)) spells is = record { word = Send; rest = spells.0; is = spells.1; of = (bytes, refl, spells.2, is.0) }
Begins-line text (line.Item (item.Fill count)) spells is = record { word = Fill; rest = decimal count; is = spells; of = (count, refl, refl, is) }
Begins-line text (line.Item (item.Pause count)) spells is = record { word = Pause; rest = decimal count; is = spells; of = (count, refl, refl, is) }
Begins-line text (line.Item item.Fault) spells is = alone text Fault (line.Item item.Fault) spells (refl, refl)

by_rest : (word : List ℕ) (rest : List ℕ) (what : List ℕ) → rest ≡ what → word ++ rest ≡ word ++ what
by_rest word rest what e = ap (λ r. word ++ r) e

told : (text : List ℕ) (one other : Line) → other ≡ one → IsSpelled text one → IsSpelled text other
told text one other e is = subst (IsSpelled text) (sym e) is

pub IsSpelled-says : (word : Word) (rest : List ℕ) (says : Line) → Says word rest says → IsSpelled (word_text word ++ rest) says
IsSpelled-says ScheduleHead rest says of = told _ line.ScheduleHead says of.1 (record { spells = by_rest (word_text ScheduleHead) rest [] of.0; is = tt })
IsSpelled-says End rest says of = told _ line.End says of.1 (record { spells = by_rest (word_text End) rest [] of.0; is = tt })
IsSpelled-says ScriptHead rest says of = told _ line.ScriptHead says of.1 (record { spells = by_rest (word_text ScriptHead) rest [] of.0; is = tt })
IsSpelled-says Conn rest says of = told _ line.Conn says of.1 (record { spells = by_rest (word_text Conn) rest [] of.0; is = tt })
IsSpelled-says Step rest says (inl of) =
    told _ (line.Step of.0) says of.1 (record { spells = by_rest (word_text Step) rest (decimal of.0) of.2; is = of.3 })
IsSpelled-says Step rest says (inr of) =
    told _ (line.Run of.0 of.1) says of.2 (record { spells = by_rest (word_text Step) rest (decimal of.0 ++ 32 ∷ decimal of.1) of.3; is = (of.4, of.5) })
IsSpelled-says Cut rest says of = told _ (line.Cut of.0) says of.1 (record { spells = by_rest (word_text Cut) rest (decimal of.0) of.2; is = of.3 })
IsSpelled-says Send rest says of =
    told _ (line.Item (item.Send of.0)) says of.1 (record { spells = (rest, refl, of.2); is = (of.3, StandsFor-bytes rest of.0 of.2) })
IsSpelled-says Fill rest says of = told _ (line.Item (item.Fill of.0)) says of.1 (record { spells = by_rest (word_text Fill) rest (decimal of.0) of.2; is = of.3 })
IsSpelled-says Pause rest says of = told _ (line.Item (item.Pause of.0)) says of.1 (record { spells = by_rest (word_text Pause) rest (decimal of.0) of.2; is = of.3 })
IsSpelled-says Fault rest says of = told _ (line.Item item.Fault) says of.1 (record { spells = by_rest (word_text Fault) rest [] of.0; is = tt })

-- ---- one line

-- what stands before the first byte of a kind, and what behind it
pub split_once : (byte : ℕ) (a b x y : List ℕ) → HasNo byte a → HasNo byte b → a ++ byte ∷ x ≡ b ++ byte ∷ y → (a ≡ b) × (x ≡ y)
split_once byte [] [] x y no_a no_b e = (refl, tail byte byte x y e)
  where
    tail : (c d : ℕ) (x y : List ℕ) → c ∷ x ≡ d ∷ y → x ≡ y
    tail c d x y e = cc
split_once byte [] (d ∷ b) x y no_a no_b e = absurd (no_b.0 (head byte d x (b ++ byte ∷ y) e))
  where
    head : (c d : ℕ) (x y : List ℕ) → c ∷ x ≡ d ∷ y → d ≡ c
    head c d x y e = cc
split_once byte (c ∷ a) [] x y no_a no_b e = absurd (no_a.0 (head c byte (a ++ byte ∷ x) y e))
  where
    head : (c d : ℕ) (x y : List ℕ) → c ∷ x ≡ d ∷ y → c ≡ d
    head c d x y e = cc
split_once byte (c ∷ a) (d ∷ b) x y no_a no_b e = both (head c d _ _ e) (split_once byte a b x y no_a.1 no_b.1 (tail c d _ _ e))
  where
    head : (c d : ℕ) (x y : List ℕ) → c ∷ x ≡ d ∷ y → c ≡ d
    head c d x y e = cc

    tail : (c d : ℕ) (x y : List ℕ) → c ∷ x ≡ d ∷ y → x ≡ y
    tail c d x y e = cc

    both : c ≡ d → (a ≡ b) × (x ≡ y) → (c ∷ a ≡ d ∷ b) × (x ≡ y)
    both h t = (ap (λ z. z ∷ a) h ∙ ap (λ z. d ∷ z) t.0, t.1)

-- a byte that a text has not doesn't stand in it
pub not_among : (byte : ℕ) (a x y : List ℕ) → HasNo byte y → y ≡ a ++ byte ∷ x → ⊥
not_among byte a x y none e = there a x byte (subst (HasNo byte) e none)
  where
    there : (a x : List ℕ) (byte : ℕ) → HasNo byte (a ++ byte ∷ x) → ⊥
    there [] x byte none = none.0 refl
    there (c ∷ a) x byte none = there a x byte none.1

-- digits are not spaces
digits_no_space : (digits : List ℕ) → AllDigits 10 digits → HasNo 32 digits
digits_no_space [] all = tt
digits_no_space (c ∷ digits) all = (λ e. let at = digit_from_value c all.0 in omega arith, digits_no_space digits all.1)

pub decimal_no_space : (n : ℕ) → n < 10000000000 → HasNo 32 (decimal n)
decimal_no_space n small = digits_no_space (decimal n) (decimal_digits 10 n (lit< tt) small (omega arith)).digits

-- of two numbers
pub two_numbers : (a b c d : ℕ) → a < 10000000000 → b < 10000000000 → c < 10000000000 → d < 10000000000 → decimal a ++ 32 ∷ decimal b ≡ decimal c ++ 32 ∷ decimal d → (a ≡ c) × (b ≡ d)
two_numbers a b c d small_a small_b small_c small_d e =
    let same = split_once 32 (decimal a) (decimal c) (decimal b) (decimal d) (decimal_no_space a small_a) (decimal_no_space c small_c) e in
    (decimal_injective a c (omega arith) (omega arith) same.0, decimal_injective b d (omega arith) (omega arith) same.1)

one_number : (a b : ℕ) (rest : List ℕ) → a < 10000000000 → b < 10000000000 → rest ≡ decimal a → rest ≡ decimal b → a ≡ b
one_number a b rest small_a small_b e f = decimal_injective a b (omega arith) (omega arith) (sym e ∙ f)

Says-unique : (word : Word) (rest : List ℕ) (one other : Line) → Says word rest one → Says word rest other → one ≡ other
Says-unique ScheduleHead rest one other a b = a.1 ∙ sym b.1
Says-unique End rest one other a b = a.1 ∙ sym b.1
Says-unique ScriptHead rest one other a b = a.1 ∙ sym b.1
Says-unique Conn rest one other a b = a.1 ∙ sym b.1
Says-unique Step rest one other (inl a) (inl b) =
    a.1 ∙ ap line.Step (one_number a.0 b.0 rest (omega (arith, a.3.1)) (omega (arith, b.3.1)) a.2 b.2) ∙ sym b.1
Says-unique Step rest one other (inl a) (inr b) =
    absurd (not_among 32 (decimal b.0) (decimal b.1) (decimal a.0) (decimal_no_space a.0 (omega (arith, a.3.1))) (sym a.2 ∙ b.3))
Says-unique Step rest one other (inr a) (inl b) =
    absurd (not_among 32 (decimal a.0) (decimal a.1) (decimal b.0) (decimal_no_space b.0 (omega (arith, b.3.1))) (sym b.2 ∙ a.3))
Says-unique Step rest one other (inr a) (inr b) =
    let same = two_numbers a.0 a.1 b.0 b.1 (omega (arith, a.4)) (omega (arith, a.5.1)) (omega (arith, b.4)) (omega (arith, b.5.1)) (sym a.3 ∙ b.3) in
    a.2 ∙ ap (λ n. line.Run n a.1) same.0 ∙ ap (λ n. line.Run b.0 n) same.1 ∙ sym b.2
Says-unique Cut rest one other a b = a.1 ∙ ap line.Cut (one_number a.0 b.0 rest (omega (arith, a.3.1)) (omega (arith, b.3.1)) a.2 b.2) ∙ sym b.1
Says-unique Send rest one other a b = a.1 ∙ ap (λ bytes. line.Item (item.Send bytes)) (StandsFor-unique rest a.0 b.0 a.2 b.2) ∙ sym b.1
Says-unique Fill rest one other a b =
    a.1 ∙ ap (λ n. line.Item (item.Fill n)) (one_number a.0 b.0 rest (omega (arith, a.3.1)) (omega (arith, b.3.1)) a.2 b.2) ∙ sym b.1
Says-unique Pause rest one other a b =
    a.1 ∙ ap (λ n. line.Item (item.Pause n)) (one_number a.0 b.0 rest (omega (arith, a.3.1)) (omega (arith, b.3.1)) a.2 b.2) ∙ sym b.1
Says-unique Fault rest one other a b = a.1 ∙ sym b.1

-- what a line spells is what its word says by what stands behind it
pub Says-line : (text : List ℕ) (word : Word) (rest : List ℕ) (says : Line) → word_in text ≡ word_at word rest → SpellsLine text says → IsLine says → Says word rest says
Says-line text word rest says found spells is =
    let begins = Begins-line text says spells is in
    let same = word_same begins.word word begins.rest rest (sym (word_in-word_text begins.word begins.rest) ∙ ap word_in (sym begins.is) ∙ found) in
    subst (λ r. Says word r says) same.1 (subst (λ w. Says w begins.rest says) same.0 begins.of)

-- a line without a word spells none
pub no_line : (text : List ℕ) (says : Line) → word_in text ≡ None → SpellsLine text says → IsLine says → ⊥
no_line text says none spells is =
    let begins = Begins-line text says spells is in
    word_none begins.word begins.rest (sym none ∙ ap word_in begins.is ∙ word_in-word_text begins.word begins.rest)

-- a line spells one
pub SpellsLine-unique : (text : List ℕ) (one other : Line) → IsSpelled text one → IsSpelled text other → one ≡ other
SpellsLine-unique text one other a b =
    let begins = Begins-line text one a.spells a.is in
    Says-unique begins.word begins.rest one other begins.of
    (Says-line text begins.word begins.rest other (ap word_in begins.is ∙ word_in-word_text begins.word begins.rest) b.spells b.is)
