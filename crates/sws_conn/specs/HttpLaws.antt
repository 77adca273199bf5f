-- HTTP answers in order.
use Rattle.std.specs.Prelude.{◌==◌, min, max}
use Rattle.std.specs.List.{flat_map}
use Rattle.std.proofs.Common.{◌≡◌, ℕ, zero, suc, ◌-◌, ◌<◌, ◌≤◌, List, [], ◌∷◌, ◌++◌, length, take, drop, refl, sym, ap, ◌∙◌, arith, length-append, length-take, take_all, ne_eqb, lit<}
use Rattle.std.proofs.lemmas.List.{drop_all}
use Rattle.sws_request.specs.declared.cuts.Cut.{Cut}
use Rattle.sws_request.specs.declared.cuts.Cut.TheVariants.{Head, TooLong, NotYet}
use Rattle.sws_request.specs.Cuts.{cut_of}
use Rattle.sws_request.specs.Head.{IsHead, HasNoHeadWithin, head_limit}
use Rattle.sws_request.proofs.CutLemmas.{IsCutOf-cut_of, cut_of-is, cut_of-take}
use Rattle.sws_site.specs.Site.{SiteState}
use Rattle.sws_answer.specs.Asked.{asked_by}
use Rattle.sws_answer.specs.Answers.{answer_of}
use Rattle.sws_answer.specs.Responses.{answers, answers_to, responses_of, texts_of, answer_limit, input_limit, answers_from}
use Rattle.sws_answer.proofs.AnsweredLemmas.{closes-last, closes-too_long, head-some}
use Rattle.sws_answer.proofs.LengthLemmas.{answer_of-short}
use Rattle.sws_answer.proofs.ResponseLemmas.{answers-head, answers-too_long, answers-not_yet}
use Rattle.sws_steps.specs.Protocol.{IsOrderly}
use Rattle.sws_steps.specs.Protocol as protocol
use Rattle.sws_conn.specs.Http.{http, cut_by, asked_for}

-- ---- the cut of HTTP, by the one of a connection

-- as HTTP says it, no request is whole where no head is
not-yet : (cut : Cut) → cut_by cut ≡ protocol.NotYet → cut ≡ NotYet
not-yet (Head len) e = cc
not-yet TooLong e = cc
not-yet NotYet e = refl

-- as HTTP says it, a request is too long where its head is
too-long : (cut : Cut) → cut_by cut ≡ protocol.TooLong → cut ≡ TooLong
too-long (Head len) e = cc
too-long TooLong e = refl
too-long NotYet e = cc

-- as HTTP says it, a request is whole where its head is
whole-head : (cut : Cut) (len : ℕ) → cut_by cut ≡ protocol.Whole len → cut ≡ Head len
whole-head (Head n) len e = let same : n ≡ len = cc in ap (λ k. Head k) same
whole-head TooLong len e = cc
whole-head NotYet len e = cc

-- ---- where nothing was taken there is no head

-- no bytes are no head
no_head : (bytes : List ℕ) → bytes ≡ [] → IsHead bytes → ⊥
no_head bytes none head =
    let long : 1 ≤ length head.first =
    omega (
      arith,
      ap length head.first_line.0.is,
      length-append head.first_line.0.text (10 ∷ []),
    ) in
    absurd (omega (
      arith,
      ap length none,
      ap length head.is,
      length-append (flat_map (λ line. line) head.blank) (head.first ++ head.rest),
      length-append head.first head.rest,
    ))

-- of no bytes the first are none
take-nil : (n : ℕ) → take {A = ℕ} n [] ≡ []
take-nil zero = refl
take-nil (suc n) = refl

-- no bytes have no head yet
nothing_cut : cut_of [] ≡ NotYet
nothing_cut =
    let none : HasNoHeadWithin head_limit [] =
    (λ n within head. no_head (take n []) (take-nil n) head) in
    cut_of-is [] NotYet (none, omega arith)

-- ---- the answers

-- a head at the front is answered, and then what comes behind it
head-answered : (left : ℕ) (site : SiteState) (bytes more : List ℕ) (len : ℕ) → 0 < left
    → cut_of bytes ≡ Head len
    → answers left site (take len bytes ++ more)
    ≡ answers_from (answer_of site (asked_by (take len bytes)) (left == 1))
    (answers (left - 1) site more)
head-answered left site bytes more len some e =
    let head = take len bytes in
    let fits = (IsCutOf-cut_of bytes (Head len) e).0.fits in
    answers-head left site head more len some (cut_of-take bytes len e)
    ∙ ap (λ h. answers_from (answer_of site (asked_by h) (left == 1))
    (answers (left - 1) site (drop len head ++ more)))
    (take_all len head (omega (arith, length-take len bytes)))
    ∙ ap (λ d. answers_from (answer_of site (asked_by head) (left == 1))
    (answers (left - 1) site (d ++ more)))
    (drop_all len head (omega (arith, length-take len bytes)))

-- without an answer that is left there is none
none-left : (site : SiteState) (bytes : List ℕ) → answers 0 site bytes ≡ []
unfolding answers
none-left site bytes = refl

-- the answers are those to the bytes that count
all-counted : (site : SiteState) (bytes : List ℕ)
    → answers_to site bytes
    ≡ answers (answer_limit site) site (take (input_limit site) bytes)
unfolding answers_to
all-counted site bytes = refl

-- the responses are the texts of the answers
all-texts : (site : SiteState) (bytes : List ℕ)
    → responses_of site bytes ≡ texts_of (answers_to site bytes)
unfolding responses_of
all-texts site bytes = refl

-- what is one at least and no more than some number has both ends
some-within : (n most : ℕ) → 0 < most → 0 < min (max n 1) most
some-within n most some = omega (arith, some)

few-within : (n most : ℕ) → min (max n 1) most ≤ most
few-within n most = omega arith

-- HTTP is a protocol by which requests are answered in order
pub http-orderly : IsOrderly http
http-orderly = record {
  none_left = none-left;
  none_yet = λ left site bytes e. answers-not_yet left site bytes (not-yet (cut_of bytes) e);
  one_more = λ left site bytes more len some e.
      head-answered left site bytes more len some (whole-head (cut_of bytes) len e);
  refused = λ left site bytes more some e.
      answers-too_long left site bytes more some (too-long (cut_of bytes) e);
  refusal_closes = closes-too_long;
  last_closes = λ site asked. closes-last site (asked_for asked);
  empty_is = λ site asked last.
      let some = head-some site (asked_for asked) last in
      let answer = answer_of site (asked_for asked) last in
      sym (ne_eqb (length (answer.head ++ answer.body)) 0 (λ none.
      omega (arith, length-append answer.head answer.body)));
  has_bytes = λ site asked last e. refl;
  short = λ site asked last limits. answer_of-short site (asked_for asked) last limits;
  logged = λ on site asked last. refl;
  measured = λ on answer. refl;
  all = all-counted;
  texts = all-texts;
  nothing = ap cut_by nothing_cut;
  some_input = λ site. some-within site.options.input 4294967295 (lit< tt);
  some_answers = λ site. some-within site.options.answers 65535 (lit< tt);
  few_input = λ site. few-within site.options.input 4294967295;
  few_written = λ site. let few = few-within site.options.answers 65535 in omega (arith, few);
}

-- a read finds room behind the buffer
pub not_yet-short : (bytes : List ℕ) → cut_by (cut_of bytes) ≡ protocol.NotYet
    → length bytes < head_limit
not_yet-short bytes e = (IsCutOf-cut_of bytes NotYet (not-yet (cut_of bytes) e)).1
