-- The lines within a number of bytes.
use Rattle.std.proofs.Common.{◌≡◌, ℕ, ◌+◌, ◌-◌, ◌≤◌, nat_le, List, [], ◌∷◌, ◌++◌, Bool, true, false, sum_by, if◌then◌else◌, refl, sym, ap, ◌∙◌, subst, arith, leb-true, leb-false}
use Rattle.std.proofs.lemmas.List.Sums.{sum_by-cons}
use Rattle.sws_log.specs.declared.line.LogLine.{LogLine}
use Rattle.sws_log.specs.Lines.{lines_within}

-- the lengths of lines together
abbrev pub lengths : List LogLine → ℕ
lengths lines = sum_by (λ line. line.length) lines

pub are_in_front : (written : ℕ) (lines : List LogLine) → (behind : List LogLine) × (lines ≡ lines_within written lines ++ behind)
are_in_front written [] = ([], refl)
are_in_front written (line ∷ lines) =
    let rest = are_in_front (written - line.length) lines in by_test (nat_le line.length written) rest.0 rest.1
  where
    by_test : (t : Bool) (behind : List LogLine) → lines ≡ lines_within (written - line.length) lines ++ behind
        → (more : List LogLine) × (line ∷ lines ≡ (if t then line ∷ lines_within (written - line.length) lines else []) ++ more)
    by_test true behind is = (behind, ap (λ l. line ∷ l) is)
    by_test false behind is = (line ∷ lines, refl)

pub sum_to_no_more : (written : ℕ) (lines : List LogLine) → lengths (lines_within written lines) ≤ written
sum_to_no_more written [] = omega arith
sum_to_no_more written (line ∷ lines) =
    by_test (nat_le line.length written) refl (sum_to_no_more (written - line.length) lines)
  where
    by_test : (t : Bool) → t ≡ nat_le line.length written → lengths (lines_within (written - line.length) lines) ≤ written - line.length
        → lengths (if t then line ∷ lines_within (written - line.length) lines else []) ≤ written
    by_test true e few =
        let fits = leb-true line.length written (sym e) in
        subst (λ sum. sum ≤ written) (sym (sum_by-cons (λ l. l.length) line (lines_within (written - line.length) lines))) (omega arith)
    by_test false e few = let none : 0 ≤ written = omega arith in none

pub are_the_longest : (written : ℕ) (front behind : List LogLine) → lengths front ≤ written
    → (rest : List LogLine) × (lines_within written (front ++ behind) ≡ front ++ rest)
are_the_longest written [] behind few = (lines_within written behind, refl)
are_the_longest written (line ∷ front) behind few =
    let rest = are_the_longest (written - line.length) front behind (let sum = together in omega arith) in
    by_test (nat_le line.length written) refl rest.0 rest.1
  where
    together : line.length + lengths front ≤ written
    together = subst (λ n. n ≤ written) (sum_by-cons (λ l. l.length) line front) few

    by_test : (t : Bool) → t ≡ nat_le line.length written → (rest : List LogLine) → lines_within (written - line.length) (front ++ behind) ≡ front ++ rest
        → (more : List LogLine) × ((if t then line ∷ lines_within (written - line.length) (front ++ behind) else []) ≡ line ∷ front ++ more)
    by_test true e rest is = (rest, ap (λ l. line ∷ l) is)
    by_test false e rest is =
        let sum = together in let more = leb-false line.length written (sym e) in absurd (omega arith)
