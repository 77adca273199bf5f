-- Where a text is longer than a script may be, it goes wrong at the same line
-- whatever stands behind it.
use Rattle.std.specs.Prelude.{codes}
use Rattle.std.specs.List.{onto_first}
use Rattle.std.proofs.Common.{◌≡◌, ℕ, zero, suc, ◌+◌, ◌<◌, ◌≤◌, Bool, true, false, cond, eqb, List, [], ◌∷◌, ◌++◌, length, take, refl, sym, ◌∙◌, ap, subst, arith, length-append}
use Rattle.sws_script.specs.Grammar.{lines_of, size_of, conns_in, Begin, MayStand, IsFirstOutside, IsFirstTooMany, IsCause}
use Rattle.sws_script.specs.Limits.{byte_limit}
use Rattle.sws_link.specs.Limits.{conn_limit}
use Rattle.sws_script.specs.declared.fault.ScriptFault.{ScriptFault}
use Rattle.sws_script.specs.declared.fault.ScriptFault.TheVariants.{Bad, TooMany, Memory}
use Rattle.sws_script.proofs.AnswerLemmas.{MayStand-earlier}

-- so many lines stand in front of both lists, and are the same
abbrev SameFront : ℕ → List (List ℕ) → List (List ℕ) → Type 0
SameFront n one other = (n ≤ length one) × (n ≤ length other) × (take n one ≡ take n other)

same_with : (byte n : ℕ) (one other : List (List ℕ)) → SameFront (suc n) one other → SameFront (suc n) (onto_first byte one) (onto_first byte other)
same_with byte n [] other same = absurd (let less = same.0 in omega arith)
same_with byte n (l ∷ one) [] same = absurd (let less = same.1 in omega arith)
same_with byte n (l ∷ one) (k ∷ other) same =
    let first : l ≡ k = cc in
    let others : take n one ≡ take n other = cc in
    (same.0, same.1, (let e : (byte ∷ l) ∷ take n one ≡ (byte ∷ k) ∷ take n other = cc in e))

same_next : (n : ℕ) (one other : List (List ℕ)) → SameFront n one other → SameFront (suc n) ([] ∷ one) ([] ∷ other)
same_next n one other same =
    let less = same.0 in let more = same.1 in
    (omega arith, omega arith, ap (λ ls. [] ∷ ls) same.2)

-- a text has no more bytes than its lines with their LF
onto_first-more : (byte : ℕ) (lines : List (List ℕ)) → size_of lines + 1 ≤ size_of (onto_first byte lines)
onto_first-more byte [] = omega arith
onto_first-more byte (l ∷ lines) = omega arith

length-lines : (text : List ℕ) → length text ≤ size_of (lines_of text)
length-lines [] = omega arith
length-lines (byte ∷ bytes) = by_test (eqb byte 10) (length-lines bytes)
  where
    by_test : (t : Bool) → length bytes ≤ size_of (lines_of bytes) → length (byte ∷ bytes) ≤ size_of (cond t ([] ∷ lines_of bytes) (onto_first byte (lines_of bytes)))
    by_test true few = omega arith
    by_test false few = let more = onto_first-more byte (lines_of bytes) in omega arith

-- without its first byte a first line is one byte shorter
shorter : (byte n k : ℕ) (lines : List (List ℕ)) → k ≤ size_of lines → suc n ≤ length (onto_first byte lines) → size_of (take (suc n) (onto_first byte lines)) ≤ suc k
    → (suc n ≤ length lines) × (size_of (take (suc n) lines) ≤ k)
shorter byte n k [] more le few = absurd (omega arith)
shorter byte n k (l ∷ lines) more le few = (omega arith, omega arith)

not_none : (n : ℕ) (lines : List (List ℕ)) → suc n ≤ length lines → size_of (take (suc n) lines) ≤ 0 → ⊥
not_none n [] le few = omega arith
not_none n (l ∷ lines) le few = omega arith

-- ---- the lines that end within a text are those of any longer text

abbrev Stays : List ℕ → List ℕ → Type 0
Stays text rest = (n : ℕ) → n ≤ length (lines_of text) → size_of (take n (lines_of text)) ≤ length text → SameFront n (lines_of text) (lines_of (text ++ rest))

stays_by : (byte : ℕ) (bytes rest : List ℕ) (n : ℕ) (t : Bool) → Stays bytes rest
    → n ≤ length (cond t ([] ∷ lines_of bytes) (onto_first byte (lines_of bytes)))
    → size_of (take n (cond t ([] ∷ lines_of bytes) (onto_first byte (lines_of bytes)))) ≤ length (byte ∷ bytes)
    → SameFront n (cond t ([] ∷ lines_of bytes) (onto_first byte (lines_of bytes))) (cond t ([] ∷ lines_of (bytes ++ rest)) (onto_first byte (lines_of (bytes ++ rest))))
stays_by byte bytes rest zero t ih le few = (omega arith, omega arith, refl)
stays_by byte bytes rest (suc n) true ih le few =
    same_next n (lines_of bytes) (lines_of (bytes ++ rest)) (ih n (omega arith) (omega arith))
stays_by byte bytes rest (suc n) false ih le few =
    let less = shorter byte n (length bytes) (lines_of bytes) (length-lines bytes) le few in
    same_with byte n (lines_of bytes) (lines_of (bytes ++ rest)) (ih (suc n) less.0 less.1)

stays : (text rest : List ℕ) → Stays text rest
stays [] rest zero le few = (omega arith, omega arith, refl)
stays [] rest (suc n) le few = absurd (omega arith)
stays (byte ∷ bytes) rest n le few = stays_by byte bytes rest n (eqb byte 10) (stays bytes rest) le few

abbrev Stood : List ℕ → List ℕ → Type 0
Stood text rest = (n : ℕ) → n ≤ length (lines_of (text ++ rest)) → size_of (take n (lines_of (text ++ rest))) ≤ length text → SameFront n (lines_of text) (lines_of (text ++ rest))

stood_by : (byte : ℕ) (bytes rest : List ℕ) (n : ℕ) (t : Bool) → Stood bytes rest
    → n ≤ length (cond t ([] ∷ lines_of (bytes ++ rest)) (onto_first byte (lines_of (bytes ++ rest))))
    → size_of (take n (cond t ([] ∷ lines_of (bytes ++ rest)) (onto_first byte (lines_of (bytes ++ rest))))) ≤ length (byte ∷ bytes)
    → SameFront n (cond t ([] ∷ lines_of bytes) (onto_first byte (lines_of bytes))) (cond t ([] ∷ lines_of (bytes ++ rest)) (onto_first byte (lines_of (bytes ++ rest))))
stood_by byte bytes rest zero t ih le few = (omega arith, omega arith, refl)
stood_by byte bytes rest (suc n) true ih le few =
    same_next n (lines_of bytes) (lines_of (bytes ++ rest)) (ih n (omega arith) (omega arith))
stood_by byte bytes rest (suc n) false ih le few =
    let long = length-lines (bytes ++ rest) in
    let less = shorter byte n (length bytes) (lines_of (bytes ++ rest)) (omega (arith, length-append bytes rest)) le few in
    same_with byte n (lines_of bytes) (lines_of (bytes ++ rest)) (ih (suc n) less.0 less.1)

stood : (text rest : List ℕ) → Stood text rest
stood [] rest zero le few = (omega arith, omega arith, refl)
stood [] rest (suc n) le few = absurd (not_none n (lines_of rest) le few)
stood (byte ∷ bytes) rest n le few = stood_by byte bytes rest n (eqb byte 10) (stood bytes rest) le few

-- ---- faults of a text that is too long

module _ (schedule : Bool) (cores : ℕ) (text rest : List ℕ) (long : byte_limit < length text) where
  -- lines that may stand end within the text
  stands_on : (n : ℕ) → MayStand schedule cores text n → MayStand schedule cores (text ++ rest) n
  stands_on n may =
      let within = may.within in
      let same = stays text rest n may.there (omega arith) in
      record {
        there = same.1;
        begin = subst (Begin schedule cores) same.2 may.begin;
        within = let size = ap size_of same.2 in omega arith;
      }

  stood_on : (n : ℕ) → MayStand schedule cores (text ++ rest) n → MayStand schedule cores text n
  stood_on n may =
      let within = may.within in
      let longer = length-append text rest in
      let same = stood text rest n may.there (omega arith) in
      record {
        there = same.0;
        begin = subst (Begin schedule cores) (sym same.2) may.begin;
        within = let size = ap size_of same.2 in omega arith;
      }

  same_lines : (n : ℕ) → MayStand schedule cores text n → take n (lines_of text) ≡ take n (lines_of (text ++ rest))
  same_lines n may = let within = may.within in (stays text rest n may.there (omega arith)).2

  first_outside : (before : ℕ) → IsFirstOutside schedule cores text before → IsFirstOutside schedule cores (text ++ rest) before
  first_outside before out = record {
    stand = stands_on before out.stand;
    next = λ lt may. let stand = stood_on (before + 1) may in out.next (let there = stand.there in omega arith) stand;
    whole = λ input is spells. let short = spells.short in let longer = length-append text rest in absurd (omega arith);
  }

  too_many : (before : ℕ) → IsFirstTooMany schedule cores text before → IsFirstTooMany schedule cores (text ++ rest) before
  too_many before many =
      let earlier = same_lines before (MayStand-earlier schedule cores text before (before + 1) (omega arith) many.stand) in
      record {
        stand = stands_on (before + 1) many.stand;
        conn = sym (same_lines (before + 1) many.stand) ∙ many.conn ∙ ap (λ ls. ls ++ codes "conn" ∷ []) earlier;
        count = sym (ap conns_in earlier) ∙ many.count;
      }

  -- whatever stands behind the text, it goes wrong at the same line
  pub cause_of_front : (fault : ScriptFault) → IsCause schedule cores text fault → IsCause schedule cores (text ++ rest) fault
  cause_of_front (Bad line) cause =
      (cause.0, cause.1, first_outside cause.0 cause.2, subst (λ ls. conns_in ls ≤ conn_limit) (same_lines cause.0 cause.2.stand) cause.3)
  cause_of_front (TooMany line) cause = (cause.0, cause.1, too_many cause.0 cause.2)
  cause_of_front Memory cause = tt
