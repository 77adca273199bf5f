-- What a search behind whole lines says of all bytes.
use Rattle.std.specs.Prelude.{◌≡◌, ◌≢◌, ℕ, ◌+◌, ◌-◌, ◌<◌, ◌≤◌, min, false, ◌||◌, List, [], ◌∷◌, ◌++◌, length, take, Option, Some, None, option_map}
use Rattle.std.proofs.Common.{refl, sym, ap, ◌∙◌, subst, arith, length-append, append_assoc}
use Rattle.std.proofs.lemmas.List.Folds.{list_any-append}
use Rattle.sws_request.specs.declared.cuts.Cut.{Cut}
use Rattle.sws_request.specs.declared.cuts.Cut.TheVariants.{Head, TooLong, NotYet}
use Rattle.sws_request.specs.declared.scans.Scan.{Scan}
use Rattle.sws_request.specs.Head.{HasNoHeadWithin, head_limit, IsCutOf, join_lines}
use Rattle.sws_request.specs.Cuts.{lines_of, is_empty_line, cut_of}
use Rattle.sws_request.specs.Scans.{whole_lines, has_other, StandsFor, rest_len}
use Rattle.sws_request.proofs.LineLemmas.{ending-is, IsEnding, whole_lines-front, whole_lines-end, lines_of-whole, lines_of-behind, whole_lines-ends, rest_len-behind}
use Rattle.sws_request.proofs.CuttingLemmas.{IsCutOf-head, HasNoHeadWithin-never}
use Rattle.sws_request.proofs.CutLemmas.{cut_of-is, IsCutOf-cut_of, cut_of-append}

-- no head ends in the lines of bytes whose cut isn't there yet
pub no_end : (bytes : List ℕ) → cut_of bytes ≡ NotYet → rest_len false (lines_of bytes) ≡ None
no_end bytes not_yet = by_end (rest_len false (lines_of bytes)) (ending-is false bytes)
  where
    is : IsCutOf bytes NotYet
    is = IsCutOf-cut_of bytes NotYet not_yet

    by_end : (found : Option ℕ) → IsEnding false bytes found → found ≡ None
    by_end None never = refl
    by_end (Some len) at = absurd (is.0 len (let fits = at.fits in let short = is.1 in omega arith) at.ends)

module _ (scan : Scan) (front : List ℕ) (stands : StandsFor scan front) where
  -- the front is short
  pub front_short : length front < head_limit
  front_short = (IsCutOf-cut_of front NotYet stands.not_yet).1

  -- where the head ends in what stands behind the front
  behind : (rest : List ℕ) → rest_len false (lines_of (front ++ rest)) ≡ option_map (λ len. scan.at + len) (rest_len scan.begun (lines_of rest))
  behind rest =
      ap (rest_len false) (lines_of-behind front rest stands.whole)
      ∙ rest_len-behind false (lines_of front) (lines_of rest) (no_end front stands.not_yet)
      ∙ ap (λ b. option_map (λ len. length (join_lines (lines_of front)) + len) (rest_len b (lines_of rest))) (sym stands.begun)
      ∙ ap (λ n. option_map (λ len. n + len) (rest_len scan.begun (lines_of rest))) (ap length (whole_lines-ends front stands.whole) ∙ sym stands.at)

  -- the bytes of which a head may consist
  within : (rest : List ℕ) (most : ℕ) → most ≡ min (length rest) (head_limit - scan.at)
      → take (min (length (front ++ rest)) head_limit) (front ++ rest) ≡ front ++ take most rest
  within rest most is =
      let at = stands.at in
      let short = front_short in
      let all = length-append front rest in
      let same : min (length (front ++ rest)) head_limit ≡ length front + most = omega arith in
      ap (λ n. take n (front ++ rest)) same ∙ take-past front rest most
    where
      take-past : (a b : List ℕ) (n : ℕ) → take (length a + n) (a ++ b) ≡ a ++ take n b
      take-past [] b n = let none : 0 + n ≡ n = omega arith in ap (λ k. take k b) none
      take-past (x ∷ a) b n = (let one : length (x ∷ a) + n ≡ Rattle.std.proofs.Common.suc (length a + n) = omega arith in ap (λ k. take k (x ∷ (a ++ b))) one ∙ ap (λ r. x ∷ r) (take-past a b n))

  -- an end that was found
  pub cut-found : (rest : List ℕ) (most len : ℕ) → most ≡ min (length rest) (head_limit - scan.at)
      → rest_len scan.begun (lines_of (take most rest)) ≡ Some len → Head (scan.at + len) ≡ cut_of (front ++ rest)
  cut-found rest most len is found =
      let whole = take (min (length (front ++ rest)) head_limit) (front ++ rest) in
      let ends : rest_len false (lines_of whole) ≡ Some (scan.at + len) =
      ap (λ b. rest_len false (lines_of b)) (within rest most is) ∙ behind (take most rest) ∙ ap (option_map (λ len. scan.at + len)) found in
      sym (cut_of-is (front ++ rest) (Head (scan.at + len)) (IsCutOf-head (front ++ rest) (scan.at + len) (subst (IsEnding false whole) ends (ending-is false whole))))

  -- no end in as many bytes as a head may have
  none_within : (rest : List ℕ) (most : ℕ) → most ≡ min (length rest) (head_limit - scan.at)
      → rest_len scan.begun (lines_of (take most rest)) ≡ None → HasNoHeadWithin head_limit (front ++ rest)
  none_within rest most is none =
      let whole = take (min (length (front ++ rest)) head_limit) (front ++ rest) in
      let ends : rest_len false (lines_of whole) ≡ None =
      ap (λ b. rest_len false (lines_of b)) (within rest most is) ∙ behind (take most rest) ∙ ap (option_map (λ len. scan.at + len)) none in
      HasNoHeadWithin-never (front ++ rest) (subst (IsEnding false whole) ends (ending-is false whole))

  pub cut-too_long : (rest : List ℕ) (most : ℕ) → most ≡ min (length rest) (head_limit - scan.at) → head_limit - scan.at ≤ length rest
      → rest_len scan.begun (lines_of (take most rest)) ≡ None → TooLong ≡ cut_of (front ++ rest)
  cut-too_long rest most is long none =
      sym (cut_of-is (front ++ rest) TooLong (none_within rest most is none, (let at = stands.at in omega (arith, length-append front rest))))

  pub cut-not_yet : (rest : List ℕ) (most : ℕ) → most ≡ min (length rest) (head_limit - scan.at) → length rest < head_limit - scan.at
      → rest_len scan.begun (lines_of (take most rest)) ≡ None → NotYet ≡ cut_of (front ++ rest)
  cut-not_yet rest most is short none =
      sym (cut_of-is (front ++ rest) NotYet (none_within rest most is none, (let at = stands.at in omega (arith, length-append front rest))))

  -- the whole lines of all bytes, in which no head has ended
  pub stands-on : (rest : List ℕ) (next : Scan) → NotYet ≡ cut_of (front ++ rest) → next.at ≡ scan.at + length (whole_lines rest)
      → next.begun ≡ (scan.begun || has_other (lines_of rest)) → StandsFor next (whole_lines (front ++ rest))
  stands-on rest next not_yet at begun = record {
    at = at ∙ ap (λ n. n + length (whole_lines rest)) (stands.at ∙ ap length (sym (whole_lines-ends front stands.whole)))
        ∙ sym (length-append (whole_lines front) (whole_lines rest)) ∙ ap length (sym (joined-behind (lines_of front) (lines_of rest)) ∙ ap join_lines (sym lines));
    whole = whole_lines-end all;
    not_yet = by_cut (cut_of (whole_lines all)) refl;
    begun = begun ∙ ap (λ b. b || has_other (lines_of rest)) stands.begun
        ∙ sym (list_any-append (λ line. Rattle.std.specs.Prelude.not (is_empty_line line)) (lines_of front) (lines_of rest)) ∙ ap has_other (sym lines ∙ sym (lines_of-whole all));
  }
    where
      all : List ℕ
      all = front ++ rest

      lines : lines_of (front ++ rest) ≡ lines_of front ++ lines_of rest
      lines = lines_of-behind front rest stands.whole

      joined-behind : (a b : List (List ℕ)) → join_lines (a ++ b) ≡ join_lines a ++ join_lines b
      joined-behind [] b = refl
      joined-behind (line ∷ a) b = ap (λ l. line ++ l) (joined-behind a b) ∙ sym (append_assoc line (join_lines a) (join_lines b))

      grown : (cut : Cut) → cut_of (whole_lines (front ++ rest)) ≡ cut → cut ≢ NotYet → cut ≡ NotYet
      grown cut e there =
          let more = whole_lines-front (front ++ rest) in
          absurd (there (sym e ∙ sym (cut_of-append (whole_lines (front ++ rest)) more.0 (λ f. there (sym e ∙ f))) ∙ ap cut_of (sym more.1) ∙ sym not_yet))

      by_cut : (cut : Cut) → cut_of (whole_lines (front ++ rest)) ≡ cut → cut ≡ NotYet
      by_cut (Head len) e = grown (Head len) e (λ f. cc)
      by_cut TooLong e = grown TooLong e (λ f. cc)
      by_cut NotYet e = refl
