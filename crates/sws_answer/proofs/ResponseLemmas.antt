-- Laws of answers and responses: how one head more is answered, and that what more
-- bytes bring is added behind.
use Rattle.std.specs.Prelude.{◌≡◌, ◌≢◌, ℕ, ◌-◌, ◌<◌, Bool, true, false, ◌==◌, if◌then◌else◌, List, [], ◌∷◌, ◌++◌, ◌≤◌, length, take, drop}
use Rattle.std.specs.List.{flat_map}
use Rattle.std.proofs.Common.{zero, suc, refl, sym, ap, ◌∙◌, arith, append-nil, length-append, ne_eqb}
use Rattle.std.proofs.lemmas.List.{take-append-le, drop-append-le}
use Rattle.std.proofs.lemmas.List.Concat.{flat_map-append}
use Rattle.sws_request.specs.declared.cuts.Cut.{Cut}
use Rattle.sws_request.specs.declared.cuts.Cut.TheVariants.{Head, TooLong, NotYet}
use Rattle.sws_request.specs.Cuts.{cut_of}
use Rattle.sws_request.specs.Head.{IsHead, HasNoHeadWithin, head_limit}
use Rattle.sws_request.proofs.CutLemmas.{IsCutOf-cut_of, cut_of-append, cut_of-is}
use Rattle.sws_site.specs.Site.{SiteState}
use Rattle.sws_answer.specs.Asked.{too_long, asked_by}
use Rattle.sws_answer.specs.Answers.{Answer, answer_of, text_of}
use Rattle.sws_answer.specs.Responses.{answers, answers_at, answers_from, answers_to, texts_of, responses_of, answer_limit, input_limit, Begins}

-- nothing is answered before a head is whole
pub answers-not_yet : (left : ℕ) (site : SiteState) (bytes : List ℕ) → cut_of bytes ≡ NotYet → answers left site bytes ≡ []
unfolding answers
answers-not_yet zero site bytes e = refl
answers-not_yet (suc left) site bytes e = ap (λ c. answers_at site bytes (left == 0) c (λ len. answers left site (drop len bytes))) e

last_of : (left : ℕ) → (left == 0) ≡ (suc left == 1)
last_of zero = refl
last_of (suc n) = ne_eqb (suc n) 0 (λ e. omega arith) ∙ sym (ne_eqb (suc (suc n)) 1 (λ e. omega arith))

-- a head that is there, or that it is too long, stays whatever comes behind it
stays : (bytes more : List ℕ) (cut : Cut) → cut ≢ NotYet → cut_of bytes ≡ cut → cut_of (bytes ++ more) ≡ cut
stays bytes more cut there e = cut_of-append bytes more (λ none. there (sym e ∙ none)) ∙ e

head_is_there : (len : ℕ) → Head len ≢ NotYet
head_is_there len e = cc

too_long_is_there : TooLong ≢ NotYet
too_long_is_there e = cc

-- a whole head is answered, and then what comes behind it, whatever that is
pub answers-head : (left : ℕ) (site : SiteState) (bytes more : List ℕ) (len : ℕ) → 0 < left → cut_of bytes ≡ Head len
    → answers left site (bytes ++ more)
    ≡ answers_from (answer_of site (asked_by (take len bytes)) (left == 1)) (answers (left - 1) site (drop len bytes ++ more))
unfolding answers
answers-head zero site bytes more len some e = absurd (omega arith)
answers-head (suc left) site bytes more len some e =
    let same = stays bytes more (Head len) (head_is_there len) e in
    let fits = (IsCutOf-cut_of bytes (Head len) e).0.fits in
    ap (λ c. answers_at site (bytes ++ more) (left == 0) c (λ len. answers left site (drop len (bytes ++ more)))) same
    ∙ ap (λ t. answers_from (answer_of site (asked_by t) (left == 0)) (answers left site (drop len (bytes ++ more)))) (take-append-le len bytes more fits)
    ∙ ap (λ d. answers_from (answer_of site (asked_by (take len bytes)) (left == 0)) (answers left site d)) (drop-append-le len bytes more fits)
    ∙ ap (λ l. answers_from (answer_of site (asked_by (take len bytes)) l) (answers left site (drop len bytes ++ more))) (last_of left)
    ∙ ap (λ n. answers_from (answer_of site (asked_by (take len bytes)) (suc left == 1)) (answers n site (drop len bytes ++ more))) (let less : left ≡ suc left - 1 = omega arith in less)

-- a head that is too long is answered, and nothing behind it
pub answers-too_long : (left : ℕ) (site : SiteState) (bytes more : List ℕ) → 0 < left → cut_of bytes ≡ TooLong
    → answers left site (bytes ++ more) ≡ answer_of site too_long (left == 1) ∷ []
unfolding answers
answers-too_long zero site bytes more some e = absurd (omega arith)
answers-too_long (suc left) site bytes more some e =
    ap (λ c. answers_at site (bytes ++ more) (left == 0) c (λ len. answers left site (drop len (bytes ++ more)))) (stays bytes more TooLong too_long_is_there e)
    ∙ ap (λ l. answer_of site too_long l ∷ []) (last_of left)

-- ---- more bytes

begins_followed : (answer : Answer) (first whole : List Answer) → Begins first whole → Begins (answers_from answer first) (answers_from answer whole)
begins_followed answer first whole begins = by_close answer.closes
  where
    by_close : (closes : Bool) → Begins (answer ∷ (if closes then [] else first)) (answer ∷ (if closes then [] else whole))
    by_close true = record { later = []; is = refl }
    by_close false = record { later = begins.later; is = ap (λ l. answer ∷ l) begins.is }

-- the answers, where the head is cut so
abbrev at_cut : ℕ → SiteState → List ℕ → Cut → List Answer
at_cut left site bytes cut = answers_at site bytes (left == 0) cut (λ len. answers left site (drop len bytes))

-- the answers to more bytes begin with those to the first ones
answers-append : (left : ℕ) (site : SiteState) (bytes more : List ℕ) → Begins (answers left site bytes) (answers left site (bytes ++ more))
unfolding answers
answers-append zero site bytes more = record { later = []; is = refl }
answers-append (suc left) site bytes more = by_cut (cut_of bytes) refl (λ len. answers-append left site (drop len bytes) more)
  where
    by_cut : (cut : Cut) → cut_of bytes ≡ cut → ((len : ℕ) → Begins (answers left site (drop len bytes)) (answers left site (drop len bytes ++ more)))
        → Begins (answers (suc left) site bytes) (answers (suc left) site (bytes ++ more))
    by_cut NotYet e later = record {
      later = answers (suc left) site (bytes ++ more);
      is = ap (λ first. first ++ answers (suc left) site (bytes ++ more)) (sym (ap (at_cut left site bytes) e));
    }
    by_cut TooLong e later = record {
      later = [];
      is = ap (at_cut left site (bytes ++ more)) (stays bytes more TooLong too_long_is_there e)
          ∙ sym (append-nil (answers (suc left) site bytes) ∙ ap (at_cut left site bytes) e);
    }
    by_cut (Head len) e later =
        let fits = (IsCutOf-cut_of bytes (Head len) e).0.fits in
        let answer = answer_of site (asked_by (take len bytes)) (left == 0) in
        let begins = begins_followed answer (answers left site (drop len bytes)) (answers left site (drop len bytes ++ more)) (later len) in
        record {
          later = begins.later;
          is = ap (at_cut left site (bytes ++ more)) (stays bytes more (Head len) (head_is_there len) e)
              ∙ ap (λ t. answers_from (answer_of site (asked_by t) (left == 0)) (answers left site (drop len (bytes ++ more)))) (take-append-le len bytes more fits)
              ∙ ap (λ d. answers_from answer (answers left site d)) (drop-append-le len bytes more fits)
              ∙ begins.is
              ∙ ap (λ first. first ++ begins.later) (sym (ap (at_cut left site bytes) e));
        }

take-append : (n : ℕ) (bytes more : List ℕ) → (later : List ℕ) × (take n (bytes ++ more) ≡ take n bytes ++ later)
take-append n [] more = (take n more, (elim n as (λ n. take n more ≡ take n [] ++ take n more) [ zero ↦ refl | suc n ↦ refl ]))
take-append zero (b ∷ bytes) more = ([], refl)
take-append (suc n) (b ∷ bytes) more = let rest = take-append n bytes more in (rest.0, ap (λ r. b ∷ r) rest.1)

-- the answers to all bytes of a connection begin with those to the first ones
pub answers_to-append : (site : SiteState) (bytes more : List ℕ) → Begins (answers_to site bytes) (answers_to site (bytes ++ more))
unfolding answers_to
answers_to-append site bytes more =
    let counted = take-append (input_limit site) bytes more in
    let begins = answers-append (answer_limit site) site (take (input_limit site) bytes) counted.0 in
    record {
      later = begins.later;
      is = ap (λ b. answers (answer_limit site) site b) counted.1 ∙ begins.is;
    }

-- the responses to more bytes begin with those to the first ones
pub responses_of-append : (site : SiteState) (bytes more : List ℕ) → Begins (responses_of site bytes) (responses_of site (bytes ++ more))
unfolding responses_of
responses_of-append site bytes more =
    let begins = answers_to-append site bytes more in
    record {
      later = texts_of begins.later;
      is = ap texts_of begins.is ∙ flat_map-append text_of (answers_to site bytes) begins.later;
    }

-- ---- nothing is answered where there is nothing

no-head : (bytes : List ℕ) → bytes ≡ [] → IsHead bytes → ⊥
no-head bytes none head =
    let long : 1 ≤ length head.first = omega (arith, ap length head.first_line.0.is, length-append head.first_line.0.text (10 ∷ [])) in
    absurd (omega (
      arith,
      ap length none,
      ap length head.is,
      length-append (flat_map (λ line. line) head.blank) (head.first ++ head.rest),
      length-append head.first head.rest,
    ))

take-nil : (n : ℕ) → take {A = ℕ} n [] ≡ []
take-nil zero = refl
take-nil (suc n) = refl

pub responses_of-nil : (site : SiteState) → responses_of site [] ≡ []
unfolding responses_of answers_to
responses_of-nil site =
    let none : HasNoHeadWithin head_limit [] = (λ n within head. no-head (take n []) (take-nil n) head) in
    ap (λ bytes. texts_of (answers (answer_limit site) site bytes)) (take-nil (input_limit site))
    ∙ ap texts_of (answers-not_yet (answer_limit site) site [] (cut_of-is [] NotYet (none, omega arith)))
