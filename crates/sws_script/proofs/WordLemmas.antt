-- Laws of the words with which lines begin.
use Rattle.std.proofs.Common.{◌≡◌, ℕ, suc, Bool, true, false, cond, eqb, ◌&&◌, List, [], ◌∷◌, length, take, drop, Option, Some, None, refl, sym, ap, ◌∙◌}
use Rattle.std.proofs.Common.{◌+◌, ◌<◌, get_or, add-one, drop-cons}
use Rattle.std.proofs.lemmas.Bool.{false≢true}
use lib.Pointwise.{pointwise}
use Rattle.sws_script.specs.declared.words.Word.{Word}
use Rattle.sws_script.specs.Words.{word_text, strip_word, onward, first_word}

-- what `strip_prefix` answers, by whether the front is the word
pub stripped-yes : (word line : List ℕ) → pointwise eqb (take (length word) line) word ≡ true → strip_word word line ≡ Some (drop (length word) line)
stripped-yes [] line e = refl
stripped-yes (letter ∷ word) [] e = absurd (false≢true e)
stripped-yes (letter ∷ word) (byte ∷ line) e = by_test (eqb byte letter) e (stripped-yes word line)
  where
    by_test : (t : Bool) → (t && pointwise eqb (take (length word) line) word) ≡ true
        → (pointwise eqb (take (length word) line) word ≡ true → strip_word word line ≡ Some (drop (length word) line)) → cond t (strip_word word line) None ≡ Some (drop (length word) line)
    by_test true e more = more e
    by_test false e more = absurd (false≢true e)

pub stripped-no : (word line : List ℕ) → pointwise eqb (take (length word) line) word ≡ false → strip_word word line ≡ None
stripped-no [] line e = absurd (false≢true (sym e))
stripped-no (letter ∷ word) [] e = refl
stripped-no (letter ∷ word) (byte ∷ line) e = by_test (eqb byte letter) e (stripped-no word line)
  where
    by_test : (t : Bool) → (t && pointwise eqb (take (length word) line) word) ≡ false
        → (pointwise eqb (take (length word) line) word ≡ false → strip_word word line ≡ None) → cond t (strip_word word line) None ≡ None
    by_test true e more = more e
    by_test false e more = refl

-- a word, and what stands behind it
abbrev pub word_at : Word → List ℕ → Option (Word × List ℕ)
word_at word rest = Some (word, rest)

-- the word at a place is the first of those from there on with which the line begins
pub first_word_found : (words : List Word) (i : ℕ) (d : Word) (line rest : List ℕ) → i < length words → strip_word (word_text (get_or words i d)) line ≡ Some rest
    → first_word (drop i words) line ≡ word_at (get_or words i d) rest
first_word_found words i d line rest lt e =
    ap (λ ws. first_word ws line) (drop-cons words i d lt) ∙ ap (λ o. onward (get_or words i d) o (first_word (drop (suc i) words) line)) e

-- where the line doesn't begin with the word at a place, the first is among those behind it
pub first_word_next : (words : List Word) (i : ℕ) (d : Word) (line : List ℕ) → i < length words → strip_word (word_text (get_or words i d)) line ≡ None
    → first_word (drop (i + 1) words) line ≡ first_word (drop i words) line
first_word_next words i d line lt e =
    sym (ap (λ ws. first_word ws line) (drop-cons words i d lt) ∙ ap (λ o. onward (get_or words i d) o (first_word (drop (suc i) words) line)) e
    ∙ ap (λ k. first_word (drop k words) line) (sym (add-one i)))
