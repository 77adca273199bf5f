-- How a line is read, step by step.
use Rattle.std.proofs.Common.{◌≡◌, ℕ, ◌<◌, List, ◌∷◌, ◌++◌, Option, Some, None, sym, ap, ◌∙◌, subst, inl, inr, arith}
use Rattle.std.specs.Prelude.{MatchOption}
use Rattle.std.specs.Fmt.{decimal}
use Rattle.sws_script.specs.declared.line.Line.{Line}
use Rattle.sws_script.specs.declared.line.Line.TheVariants as line
use Rattle.sws_script.specs.declared.words.Word.{Word}
use Rattle.sws_script.specs.declared.words.Word.TheVariants as word
use Rattle.sws_script.specs.Lines.{SpellsLine, IsLine, IsWithin, IsSpelled}
use Rattle.sws_script.specs.Words.{HasNo, Says, word_in}
use Rattle.sws_script.proofs.WordLemmas.{word_at}
use Rattle.sws_script.proofs.LineLemmas.{not_among, split_once, decimal_no_space, Says-line, IsSpelled-says, word_in-is}

-- what was read is what the word says, or it says nothing
abbrev pub ReadsRest : Word → List ℕ → Option Line → Type 0
ReadsRest word rest read = MatchOption read ((says : Line) → Says word rest says → ⊥) (λ says. Says word rest says)

pub step_alone : (rest : List ℕ) (read : Option Line) → HasNo 32 rest
    → MatchOption read ((n : ℕ) → rest ≡ decimal n → IsWithin 1 65536 n → ⊥) (λ says. (n : ℕ) × (says ≡ line.Step n) × (rest ≡ decimal n) × IsWithin 1 65536 n)
    → ReadsRest word.Step rest read
step_alone rest None none not = λ says of. no_step says of
  where
    no_step : (says : Line) → Says word.Step rest says → ⊥
    no_step says (inl of) = not of.0 of.2 of.3
    no_step says (inr of) = not_among 32 (decimal of.0) (decimal of.1) rest none of.3
step_alone rest (Some says) none is = inl is

same_core : (rest core count : List ℕ) (m n : ℕ) → HasNo 32 core → rest ≡ core ++ 32 ∷ count → m < 65536 → rest ≡ decimal m ++ 32 ∷ decimal n → (core ≡ decimal m) × (count ≡ decimal n)
same_core rest core count m n none is small e = split_once 32 core (decimal m) count (decimal n) none (decimal_no_space m (omega arith)) (sym is ∙ e)

pub step_of_core : (rest core count : List ℕ) (read : Option Line) → HasNo 32 core → rest ≡ core ++ 32 ∷ count
    → MatchOption read ((m n : ℕ) → core ≡ decimal m → IsWithin 0 65535 m → count ≡ decimal n → IsWithin 1 1000000 n → ⊥)
    (λ says. (m : ℕ) × (n : ℕ) × (says ≡ line.Run m n) × (core ≡ decimal m) × IsWithin 0 65535 m × (count ≡ decimal n) × IsWithin 1 1000000 n)
    → ReadsRest word.Step rest read
step_of_core rest core count None none is not = λ says of. no_step says of
  where
    no_step : (says : Line) → Says word.Step rest says → ⊥
    no_step says (inl of) = not_among 32 core count (decimal of.0) (decimal_no_space of.0 (omega (arith, of.3.1))) (sym of.2 ∙ is)
    no_step says (inr of) =
        let same = same_core rest core count of.0 of.1 none is of.4 of.3 in
        not of.0 of.1 same.0 (omega arith, omega (arith, of.4)) same.1 of.5
step_of_core rest core count (Some says) none is of =
    inr (of.0, of.1, of.2, is ∙ ap (λ c. c ++ 32 ∷ count) of.3 ∙ ap (λ n. decimal of.0 ++ 32 ∷ n) of.5, omega (arith, of.4.1), of.6)

-- what was read is the line that is spelled, or it spells none
abbrev pub ReadsLine : List ℕ → Option Line → Type 0
ReadsLine text read = MatchOption read ((says : Line) → SpellsLine text says → IsLine says → ⊥) (λ says. SpellsLine text says × IsLine says)

pub line_read : (text : List ℕ) (w : Word) (rest : List ℕ) → word_in text ≡ word_at w rest → (read : Option Line) → ReadsRest w rest read → ReadsLine text read
line_read text w rest found None not = λ says spells is. not says (Says-line text w rest says found spells is)
line_read text w rest found (Some says) of =
    let spelled = subst (λ t. IsSpelled t says) (sym (word_in-is text w rest found)) (IsSpelled-says w rest says of) in
    (spelled.spells, spelled.is)
