-- The lines of a log, and how many of them were given to a link.
use Rattle.std.specs.Prelude.{◌==◌, if◌then◌else◌, slice_get, ⊤}
use Rattle.std.proofs.Common.{inl, inr, ◌⊎◌, ◌≡◌, ℕ, zero, suc, ◌+◌, ◌-◌, ◌<◌, ◌≤◌, Bool, true, false, List, [], ◌∷◌, ◌++◌, length, take, drop, Some, None, refl, sym, ap, ◌∙◌, subst, arith, append_assoc, append-nil, length-append, take-append-drop}
use Rattle.std.proofs.Math.Seq.{take-append-add, take-append_seam}
use Rattle.sws_steps.proofs.Inputs.InputLemmas.{nat_le-true, nat_le-false}
use Rattle.std.proofs.lemmas.List.Concat.{flat_map-append}
use Rattle.sws_link.specs.Links.{LinkContents, input_of}
use Rattle.sws_log.specs.declared.line.LogLine.{LogLine}
use Rattle.sws_log.specs.Lines.{lines_within}
use Rattle.sws_parts.specs.Parts.{unsent_bytes}
use Rattle.sws_steps.specs.Protocol.{Protocol, IsOrderly, Cut, Whole, TooLong, NotYet, Asked, request, too_long, later_unless, text_of, texts_of}
use Rattle.sws_steps.specs.ConnCore.{ConnCoreState, is_sent}
use Rattle.sws_steps.specs.Sound.{Progress, IsUnanswered, IsWriting}
use Rattle.sws_steps.specs.Logs.{line_of, log_from, log_of, IsLineOf}
use Rattle.sws_steps.specs.Talks.{talk_view, LinesOf}
use Rattle.sws_steps.proofs.Inputs.PartLemmas.{nothing-rest, something-rest}
use Rattle.sws_steps.specs.LogLaws.{log-append}

slice_get-seam : {A : Type 0} (front : List A) (one : A) (behind : List A) → slice_get (front ++ one ∷ behind) (length front) ≡ Some one
slice_get-seam [] one behind = refl
slice_get-seam (first ∷ front) one behind = slice_get-seam front one behind

pub take-none : {A : Type 0} (l : List A) → take 0 l ≡ []
take-none [] = refl
take-none (a ∷ l) = refl

-- one element more
pub take-more : {A : Type 0} (n : ℕ) (l : List A) (one : A) → slice_get l n ≡ Some one → take (n + 1) l ≡ take n l ++ one ∷ []
take-more n [] one e = absurd (let no : None ≡ Some one = e in cc)
take-more zero (first ∷ l) one e = let same : first ≡ one = cc in ap (λ a. a ∷ []) same
take-more (suc n) (first ∷ l) one e = ap (λ k. take k (first ∷ l)) (let next : suc n + 1 ≡ suc (n + 1) = omega arith in next) ∙ ap (λ r. first ∷ r) (take-more n l one e)

module _ {Hall Answer : Type 0} (p : Protocol Hall Answer) where
  -- ---- the lines of some answers

  pub log-length : (conn turn : ℕ) (given : List Answer) → length (log_from p conn turn given) ≡ length given
  unfolding log_from
  log-length conn turn [] = refl
  log-length conn turn (answer ∷ later) = let rest = log-length conn (turn + 1) later in omega arith

  -- the line of the answer with this number
  pub log-at : (conn : ℕ) (earlier : List Answer) (answer : Answer) (later : List Answer)
      → slice_get (log_from p conn 1 (earlier ++ answer ∷ later)) (length earlier) ≡ Some (line_of conn (length earlier + 1) (p.note answer))
  unfolding log_from
  log-at conn earlier answer later =
      ap (λ l. slice_get l (length earlier)) (log-append p conn 1 earlier (answer ∷ later))
      ∙ ap (λ n. slice_get (log_from p conn 1 earlier ++ log_from p conn (1 + length earlier) (answer ∷ later)) n) (sym (log-length conn 1 earlier))
      ∙ slice_get-seam (log_from p conn 1 earlier) (line_of conn (1 + length earlier) (p.note answer)) (log_from p conn (1 + length earlier + 1) later)
      ∙ ap (λ n. Some (line_of conn n (p.note answer))) (let same : 1 + length earlier ≡ length earlier + 1 = omega arith in same)

  -- ---- the lines within some bytes

  -- the next answer has more bytes than these
  StopsAt : ℕ → List Answer → Type 0
  StopsAt left [] = ⊤
  StopsAt left (answer ∷ later) = left < length (text_of p answer)

  module _ (orderly : IsOrderly p) (logs : p.logs ≡ true) where
    within-front : (written conn turn : ℕ) (front behind : List Answer) → length (texts_of p front) ≤ written
        → lines_within written (log_from p conn turn (front ++ behind))
        ≡ log_from p conn turn front ++ lines_within (written - length (texts_of p front)) (log_from p conn (turn + length front) behind)
    unfolding log_from
    within-front written conn turn [] behind few =
        ap (λ w. lines_within w (log_from p conn turn behind)) (let same : written ≡ written - 0 = omega arith in same)
        ∙ ap (λ n. lines_within (written - 0) (log_from p conn n behind)) (let same : turn ≡ turn + 0 = omega arith in same)
    within-front written conn turn (answer ∷ front) behind few =
        ap (λ t. if t then line ∷ lines_within (written - line.length) (log_from p conn (turn + 1) (front ++ behind)) else [])
        (nat_le-true line.length written (let sum = together in let size = measured in omega arith))
        ∙ ap (λ l. line ∷ l)
        (within-front (written - line.length) conn (turn + 1) front behind (let sum = together in let size = measured in omega arith)
        ∙ ap (λ w. log_from p conn (turn + 1) front ++ lines_within w (log_from p conn (turn + 1 + length front) behind))
        (let sum = together in let size = measured in
        let same : written - line.length - length (texts_of p front) ≡ written - length (texts_of p (answer ∷ front)) = omega arith in same)
        ∙ ap (λ n. log_from p conn (turn + 1) front ++ lines_within (written - length (texts_of p (answer ∷ front))) (log_from p conn n behind))
        (let same : turn + 1 + length front ≡ turn + length (answer ∷ front) = omega arith in same))
      where
        line : LogLine
        line = line_of conn turn (p.note answer)

        measured : line.length ≡ length (text_of p answer)
        measured = orderly.measured logs answer

        together : length (texts_of p (answer ∷ front)) ≡ length (text_of p answer) + length (texts_of p front)
        together = length-append (text_of p answer) (texts_of p front)

    within-none : (left conn turn : ℕ) (behind : List Answer) → StopsAt left behind → lines_within left (log_from p conn turn behind) ≡ []
    unfolding StopsAt log_from
    within-none left conn turn [] stops = refl
    within-none left conn turn (answer ∷ later) stops =
        let size = orderly.measured logs answer in
        ap (λ t. if t then line_of conn turn (p.note answer) ∷ lines_within (left - (p.note answer).length) (log_from p conn (turn + 1) later) else [])
        (nat_le-false (p.note answer).length left (omega arith))

    -- the first answers are those that fit
    fitting : (written conn : ℕ) (front behind : List Answer) → length (texts_of p front) ≤ written → StopsAt (written - length (texts_of p front)) behind
        → take (length front) (log_from p conn 1 (front ++ behind)) ≡ lines_within written (log_from p conn 1 (front ++ behind))
    fitting written conn front behind few stops =
        ap (take (length front)) (log-append p conn 1 front behind)
        ∙ ap (λ n. take n (log_from p conn 1 front ++ log_from p conn (1 + length front) behind)) (sym (log-length conn 1 front))
        ∙ take-append_seam (log_from p conn 1 front) (log_from p conn (1 + length front) behind)
        ∙ sym (append-nil (log_from p conn 1 front))
        ∙ ap (λ l. log_from p conn 1 front ++ l) (sym (within-none (written - length (texts_of p front)) conn (1 + length front) behind stops))
        ∙ sym (within-front written conn 1 front behind few)

    -- an answer that is logged has bytes
    some-bytes : (hall : Hall) (asked : Asked) (last : Bool) → 0 < length (text_of p (p.answer hall asked last))
    some-bytes hall asked last = by_bytes (text_of p (p.answer hall asked last)) (sym (orderly.empty_is hall asked last) ∙ orderly.logged logs hall asked last)
      where
        by_bytes : (bytes : List ℕ) → (length bytes == 0) ≡ false → 0 < length bytes
        by_bytes [] e = cc
        by_bytes (byte ∷ bytes) e = omega arith

    stops-first : (first : List Answer) (hall : Hall) (asked : Asked) (last : Bool) (later : List Answer) → first ≡ p.answer hall asked last ∷ later → StopsAt 0 first
    unfolding StopsAt
    stops-first first hall asked last later is = subst (StopsAt 0) (sym is) (some-bytes hall asked last)

    -- so nothing fits into no bytes
    stops-at : (left : ℕ) (hall : Hall) (bytes : List ℕ) → StopsAt 0 (p.answers left hall bytes)
    unfolding StopsAt
    stops-at zero hall bytes = subst (StopsAt 0) (sym (orderly.none_left hall bytes)) tt
    stops-at (suc left) hall bytes = by_cut (p.cut bytes) refl
      where
        by_cut : (cut : Cut) → p.cut bytes ≡ cut → StopsAt 0 (p.answers (suc left) hall bytes)
        by_cut NotYet e = subst (StopsAt 0) (sym (orderly.none_yet (suc left) hall bytes e)) tt
        by_cut TooLong e = stops-first (p.answers (suc left) hall bytes) hall too_long (suc left == 1) []
            (ap (p.answers (suc left) hall) (sym (append-nil bytes)) ∙ orderly.refused (suc left) hall bytes [] (omega arith) e)
        by_cut (Whole len) e = stops-first (p.answers (suc left) hall bytes) hall (request (take len bytes)) (suc left == 1)
            (later_unless (p.closes (p.answer hall (request (take len bytes)) (suc left == 1))) (p.answers (suc left - 1) hall (drop len bytes)))
            (ap (p.answers (suc left) hall) (sym (take-append-drop len bytes)) ∙ orderly.one_more (suc left) hall bytes (drop len bytes) len (omega arith) e)

    stops-unless : (closes : Bool) (left : ℕ) (hall : Hall) (bytes : List ℕ) → StopsAt 0 (later_unless closes (p.answers left hall bytes))
    unfolding StopsAt
    stops-unless true left hall bytes = tt
    stops-unless false left hall bytes = stops-at left hall bytes

  module _ (orderly : IsOrderly p) where
    -- ---- the lines that were given

    -- the answers to the whole input are those that were given, and more
    pub record WholeLog (c : ConnCoreState Hall) (tells : LinkContents) (given : List Answer) : Type 0 where
      pub more : List ℕ
      pub is : p.answers_to c.hall (input_of tells) ≡ given ++ later_unless c.closes (p.answers (p.answer_limit c.hall - c.answered) c.hall more)

    pub answers-given : (c : ConnCoreState Hall) (tells : LinkContents) (taken sent : List ℕ) (k : Progress p c taken sent) → tells.taken ≡ taken → WholeLog c tells k.given
    answers-given c tells taken sent k taken_is = record {
      more = more;
      is = orderly.all c.hall (input_of tells) ∙ ap (p.answers (p.answer_limit c.hall) c.hall) counted ∙ k.given_first more;
    }
      where
        behind : List ℕ
        behind = c.buffer ++ tells.left

        more : List ℕ
        more = take (p.input_limit c.hall - length k.consumed) behind

        no_longer : length k.consumed ≤ p.input_limit c.hall
        no_longer = let few = k.read_few in let long = k.read_is in let all = ap length k.taken_is in omega (arith, length-append k.consumed c.buffer)

        counted : take (p.input_limit c.hall) (input_of tells) ≡ k.consumed ++ more
        counted =
            ap (λ t. take (p.input_limit c.hall) (t ++ tells.left)) (taken_is ∙ k.taken_is)
            ∙ ap (take (p.input_limit c.hall)) (append_assoc k.consumed c.buffer tells.left)
            ∙ ap (λ n. take n (k.consumed ++ behind)) (let few = no_longer in let sum : p.input_limit c.hall ≡ length k.consumed + (p.input_limit c.hall - length k.consumed) = omega arith in sum)
            ∙ take-append-add k.consumed behind (p.input_limit c.hall - length k.consumed)

    -- as many lines were given as answers were written whole
    pub lines-served : (c : ConnCoreState Hall) (tells : LinkContents) (taken sent : List ℕ) (conn : ℕ) → Progress p c taken sent → tells.taken ≡ taken
        → LinesOf (log_of p c.hall conn (input_of tells)) (talk_view p c)
    unfolding StopsAt
    lines-served c tells taken sent conn k taken_is = by_logs p.logs refl
      where
        whole : WholeLog c tells k.given
        whole = answers-given c tells taken sent k taken_is

        later : List Answer
        later = later_unless c.closes (p.answers (p.answer_limit c.hall - c.answered) c.hall whole.more)

        -- of all answers so many were written whole, and not the next one
        served : (lines : ℕ) (front behind : List Answer) → p.logs ≡ true → lines ≡ length front → k.given ++ later ≡ front ++ behind
            → length (texts_of p front) ≤ c.written → StopsAt (c.written - length (texts_of p front)) behind
            → LinesOf (log_from p conn 1 (p.answers_to c.hall (input_of tells))) (record (talk_view p c) { lines = lines })
        served lines front behind logs many is few stops =
            let all : p.answers_to c.hall (input_of tells) ≡ front ++ behind = whole.is ∙ is in
            subst (λ answers. LinesOf (log_from p conn 1 answers) (record (talk_view p c) { lines = lines })) (sym all) (record {
              lines = ap (λ n. take n (log_from p conn 1 (front ++ behind))) many ∙ fitting orderly logs c.written conn front behind few stops;
              there = omega (arith, log-length conn 1 (front ++ behind), length-append front behind);
            })

        all_sent : is_sent c.parts ≡ true → sent ≡ texts_of p k.given
        all_sent e = sym (append-nil sent) ∙ ap (λ r. sent ++ r) (sym (nothing-rest c.parts e)) ∙ k.sent_is

        by_sent : (here : Bool) → here ≡ is_sent c.parts → p.logs ≡ true
            → LinesOf (log_from p conn 1 (p.answers_to c.hall (input_of tells))) (record (talk_view p c) { lines = if here then c.answered else c.answered - 1 })
        by_sent true e logs =
            let size : c.written ≡ length (texts_of p k.given) = k.written_is ∙ ap length (all_sent (sym e)) in
            served c.answered k.given later logs (sym k.count) refl (omega arith)
            (subst (λ n. StopsAt n later) (let none : 0 ≡ c.written - length (texts_of p k.given) = omega arith in none)
            (stops-unless orderly logs c.closes (p.answer_limit c.hall - c.answered) c.hall whole.more))
        by_sent false e logs = by_last k.last
          where
            some : 0 < length (unsent_bytes c.parts)
            some = something-rest c.parts (sym e)

            by_last : IsUnanswered p c.parts k.given ⊎ IsWriting p c.parts c.note k.given
                → LinesOf (log_from p conn 1 (p.answers_to c.hall (input_of tells))) (record (talk_view p c) { lines = c.answered - 1 })
            by_last (inl none) = let no = ap length none.nothing in let more = some in absurd (omega arith)
            by_last (inr last) =
                served (c.answered - 1) last.earlier (last.answer ∷ later) logs
                (let all = ap length last.given_is in let many = k.count in omega (arith, length-append last.earlier (last.answer ∷ [])))
                (ap (λ g. g ++ later) last.given_is ∙ append_assoc last.earlier (last.answer ∷ []) later)
                (let size = sizes in let most = last.left in let w = k.written_is in omega arith)
                stops
              where
                sizes : length sent + length (unsent_bytes c.parts) ≡ length (texts_of p last.earlier) + length (text_of p last.answer)
                sizes = sym (length-append sent (unsent_bytes c.parts)) ∙ ap length (k.sent_is ∙ ap (texts_of p) last.given_is
                    ∙ flat_map-append (text_of p) last.earlier (last.answer ∷ []) ∙ ap (λ t. texts_of p last.earlier ++ t) (append-nil (text_of p last.answer)))
                    ∙ length-append (texts_of p last.earlier) (text_of p last.answer)

                stops : StopsAt (c.written - length (texts_of p last.earlier)) (last.answer ∷ later)
                stops = let size = sizes in let most = last.left in let more = some in let w = k.written_is in omega arith

        by_logs : (logs : Bool) → logs ≡ p.logs
            → LinesOf (if logs then log_from p conn 1 (p.answers_to c.hall (input_of tells)) else [])
            (record (talk_view p c) { lines = if logs then (if is_sent c.parts then c.answered else c.answered - 1) else 0 })
        by_logs true e = by_sent (is_sent c.parts) refl (sym e)
        by_logs false e = record { lines = take-none []; there = omega arith }

    -- the line of the last answer is the one of its number
    pub last-line : (c : ConnCoreState Hall) (tells : LinkContents) (taken sent : List ℕ) (conn : ℕ) → Progress p c taken sent → tells.taken ≡ taken
        → p.logs ≡ true → 0 < c.answered → IsLineOf (log_of p c.hall conn) (Some tells) (line_of conn c.answered c.note)
    last-line c tells taken sent conn k taken_is logs some = by_last k.last
      where
        whole : WholeLog c tells k.given
        whole = answers-given c tells taken sent k taken_is

        later : List Answer
        later = later_unless c.closes (p.answers (p.answer_limit c.hall - c.answered) c.hall whole.more)

        by_last : IsUnanswered p c.parts k.given ⊎ IsWriting p c.parts c.note k.given → IsLineOf (log_of p c.hall conn) (Some tells) (line_of conn c.answered c.note)
        by_last (inl none) = let no = ap length none.given_is in let many = k.count in absurd (omega arith)
        by_last (inr last) = (
          (let one = some in omega arith),
          ap (λ t. slice_get (if t then log_from p conn 1 (p.answers_to c.hall (input_of tells)) else []) (c.answered - 1)) logs
              ∙ ap (λ answers. slice_get (log_from p conn 1 answers) (c.answered - 1))
              (whole.is ∙ ap (λ g. g ++ later) last.given_is ∙ append_assoc last.earlier (last.answer ∷ []) later)
              ∙ ap (λ n. slice_get (log_from p conn 1 (last.earlier ++ last.answer ∷ later)) n) (let many = number in let same : c.answered - 1 ≡ length last.earlier = omega arith in same)
              ∙ log-at conn last.earlier last.answer later
              ∙ ap (λ n. Some (line_of conn n (p.note last.answer))) (sym number)
              ∙ ap (λ note. Some (line_of conn c.answered note)) (sym last.note_is),
        )
          where
            number : c.answered ≡ length last.earlier + 1
            number = let all = ap length last.given_is in let many = k.count in omega (arith, length-append last.earlier (last.answer ∷ []))
