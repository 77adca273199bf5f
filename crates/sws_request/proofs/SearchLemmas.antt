-- Laws of a search that goes on: where it stopped, and bytes that end no line.
use Rattle.std.specs.Prelude.{◌≡◌, ℕ, ◌<◌, ◌≤◌, ◌==◌, nat_le, Bool, true, false, ◌||◌, if◌then◌else◌, List, [], ◌∷◌, ◌++◌, length, take, None}
use Rattle.std.specs.List.{list_any}
use Rattle.std.proofs.Common.{refl, sym, ap, ◌∙◌, subst, arith, length-append, leb-true}
use Rattle.std.proofs.Math.Seq.{take-append_seam}
use Rattle.sws_request.specs.declared.scans.Scan.{Scan}
use Rattle.sws_request.specs.declared.cuts.Cut.TheVariants.{TooLong, NotYet}
use Rattle.sws_request.specs.Head.{join_lines, line_feed, head_limit}
use Rattle.sws_request.specs.Cuts.{before_first, lines_of, cut_by, cut_of}
use Rattle.sws_request.specs.Scans.{whole_lines, rest_len, StandsFor}
use Rattle.sws_request.proofs.LineLemmas.{whole_lines-front, lines_of-whole}
use Rattle.sws_request.proofs.ScanLemmas.{front_short, no_end}

-- it stopped before as many bytes as a head may have
pub StandsFor-short : (scan : Scan) (front : List ℕ) → StandsFor scan front → scan.at < head_limit
StandsFor-short scan front stands = let short = front_short scan front stands in let at = stands.at in omega arith

-- the whole lines of some bytes are the first so many of them
pub StandsFor-front : (scan : Scan) (bytes : List ℕ) → StandsFor scan (whole_lines bytes) → (scan.at ≤ length bytes) × StandsFor scan (take scan.at bytes)
StandsFor-front scan bytes stands = (
  (let at = stands.at in let all = ap length split.1 in omega (arith, length-append (whole_lines bytes) split.0)),
  subst (StandsFor scan) (sym (ap (λ n. take n bytes) stands.at ∙ ap (take (length (whole_lines bytes))) split.1 ∙ take-append_seam (whole_lines bytes) split.0)) stands,
)
  where
    split : (rest : List ℕ) × (bytes ≡ whole_lines bytes ++ rest)
    split = whole_lines-front bytes

-- ---- bytes without a line end

-- whether one of the bytes is LF
abbrev pub has_feed : List ℕ → Bool
has_feed bytes = list_any (λ byte. byte == line_feed) bytes

no_lines : (more : List ℕ) → has_feed more ≡ false → lines_of more ≡ []
unfolding lines_of
no_lines [] quiet = refl
no_lines (b ∷ more) quiet = by_test (b == 10) quiet (no_lines more)
  where
    by_test : (t : Bool) → (t || has_feed more) ≡ false → (has_feed more ≡ false → lines_of more ≡ [])
        → (if t then (b ∷ []) ∷ lines_of more else before_first b (lines_of more)) ≡ []
    by_test true quiet later = cc
    by_test false quiet later = ap (before_first b) (later quiet)

-- they end no line
lines_of-quiet : (bytes more : List ℕ) → has_feed more ≡ false → lines_of (bytes ++ more) ≡ lines_of bytes
unfolding lines_of
lines_of-quiet [] more quiet = no_lines more quiet
lines_of-quiet (b ∷ bytes) more quiet =
    ap (λ lines. if b == 10 then (b ∷ []) ∷ lines else before_first b lines) (lines_of-quiet bytes more quiet)

-- and so the search stops where it did
pub StandsFor-quiet : (scan : Scan) (bytes more : List ℕ) → has_feed more ≡ false → StandsFor scan (whole_lines bytes)
    → StandsFor scan (whole_lines (bytes ++ more))
StandsFor-quiet scan bytes more quiet stands = subst (λ lines. StandsFor scan (join_lines lines)) (sym (lines_of-quiet bytes more quiet)) stands

-- nothing is found in few bytes whose whole lines were searched
pub cut_of-searched : (scan : Scan) (bytes : List ℕ) → StandsFor scan (whole_lines bytes) → length bytes < head_limit → cut_of bytes ≡ NotYet
unfolding cut_of
cut_of-searched scan bytes stands short =
    let none : rest_len false (lines_of bytes) ≡ None =
    ap (rest_len false) (sym (lines_of-whole bytes)) ∙ no_end (whole_lines bytes) stands.not_yet in
    ap (λ found. cut_by found (length bytes)) none
    ∙ ap (λ t. if t then TooLong else NotYet) (by_length (nat_le head_limit (length bytes)) refl)
  where
    by_length : (t : Bool) → t ≡ nat_le head_limit (length bytes) → t ≡ false
    by_length true e = let long = leb-true head_limit (length bytes) (sym e) in absurd (omega arith)
    by_length false e = refl
