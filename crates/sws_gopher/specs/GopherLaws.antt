-- Gopher answers in order.
use Rattle.std.proofs.Common.{◌≡◌, ℕ, zero, suc, ◌<◌, ◌≤◌, Bool, true, false, cond, eqb, List, [], ◌∷◌, ◌++◌, length, take, refl, sym, ap, ◌∙◌, arith, lit<}
use Rattle.sws_steps.specs.Protocol.{Cut, Whole, TooLong, NotYet, Asked, request, too_long, IsOrderly, texts_of}
use Rattle.sws_gopher.specs.Menus.{Place}
use Rattle.sws_gopher.specs.Halls.{IsHall}
use Rattle.sws_gopher.specs.Replies.{text_limit}
use Rattle.sws_gopher.specs.Gopher.{gopher, cut_within, cut_of, one_later, answers, answers_by, answers_to, answer_to, selector_of, input_limit, gopher_responses_of}
use Rattle.sws_gopher.specs.Sizes.{reply-short}

-- a line ends where it did, whatever comes behind it
cut-front : (limit : ℕ) (bytes more : List ℕ) (len : ℕ) → cut_within limit bytes ≡ Whole len
    → cut_within limit (take len bytes ++ more) ≡ Whole len
cut-front zero bytes more len is = cc
cut-front (suc limit) [] more len is = cc
cut-front (suc limit) (byte ∷ bytes) more len is =
    by_test (eqb byte 10) refl is (λ k at. cut-front limit bytes more k at)
  where
    by_cut : (cut : Cut) → cut_within limit bytes ≡ cut → one_later cut ≡ Whole len
        → eqb byte 10 ≡ false
        → ((k : ℕ) → cut_within limit bytes ≡ Whole k → cut_within limit
        (take k bytes ++ more) ≡ Whole k)
        → cut_within (suc limit) (take len (byte ∷ bytes) ++ more) ≡ Whole len
    by_cut (Whole k) at is other later =
        let same : suc k ≡ len = cc in
        ap (λ n. cut_within (suc limit) (take n (byte ∷ bytes) ++ more)) (sym same)
        ∙ ap (λ b. cond b (Whole 1) (one_later (cut_within limit (take k bytes ++ more)))) other
        ∙ ap one_later (later k at) ∙ ap (λ n. Whole n) same
    by_cut TooLong at is other later = cc
    by_cut NotYet at is other later = cc

    by_test : (b : Bool) → eqb byte 10 ≡ b
        → cond b (Whole 1) (one_later (cut_within limit bytes)) ≡ Whole len
        → ((k : ℕ) → cut_within limit bytes ≡ Whole k → cut_within limit
        (take k bytes ++ more) ≡ Whole k)
        → cut_within (suc limit) (take len (byte ∷ bytes) ++ more) ≡ Whole len
    by_test true feed is later =
        let same : 1 ≡ len = cc in
        ap (λ n. cut_within (suc limit) (take n (byte ∷ bytes) ++ more)) (sym same)
        ∙ ap (λ b. cond b (Whole 1) (one_later (cut_within limit more))) feed ∙ ap
        (λ n. Whole n) same
    by_test false other is later = by_cut (cut_within limit bytes) refl is other later

-- the line itself is the same then
same-line : (limit : ℕ) (bytes more : List ℕ) (len : ℕ) → cut_within limit bytes ≡ Whole len
    → take len (take len bytes ++ more) ≡ take len bytes
same-line zero bytes more len is = cc
same-line (suc limit) [] more len is = cc
same-line (suc limit) (byte ∷ bytes) more len is =
    by_test (eqb byte 10) is (λ k at. same-line limit bytes more k at)
  where
    by_cut : (cut : Cut) → cut_within limit bytes ≡ cut → one_later cut ≡ Whole len
        → ((k : ℕ) → cut_within limit bytes ≡ Whole k → take k
        (take k bytes ++ more) ≡ take k bytes)
        → take len (take len (byte ∷ bytes) ++ more) ≡ take len (byte ∷ bytes)
    by_cut (Whole k) at is later =
        let same : suc k ≡ len = cc in
        ap (λ n. take n (take n (byte ∷ bytes) ++ more)) (sym same) ∙ ap (λ line. byte ∷ line)
        (later k at) ∙ ap (λ n. take n (byte ∷ bytes)) same
    by_cut TooLong at is later = cc
    by_cut NotYet at is later = cc

    by_test : (b : Bool) → cond b (Whole 1) (one_later (cut_within limit bytes)) ≡ Whole len
        → ((k : ℕ) → cut_within limit bytes ≡ Whole k → take k
        (take k bytes ++ more) ≡ take k bytes)
        → take len (take len (byte ∷ bytes) ++ more) ≡ take len (byte ∷ bytes)
    by_test true is later =
        let same : 1 ≡ len = cc in
        ap (λ n. take n (take n (byte ∷ bytes) ++ more)) (sym same) ∙ ap
        (λ n. take n (byte ∷ bytes)) same
    by_test false is later = by_cut (cut_within limit bytes) refl is later

-- what is too long stays so
cut-long : (limit : ℕ) (bytes more : List ℕ) → cut_within limit bytes ≡ TooLong
    → cut_within limit (bytes ++ more) ≡ TooLong
cut-long zero bytes more is = refl
cut-long (suc limit) [] more is = cc
cut-long (suc limit) (byte ∷ bytes) more is =
    by_test (eqb byte 10) is (λ at. cut-long limit bytes more at)
  where
    by_cut : (cut : Cut) → cut_within limit bytes ≡ cut → one_later cut ≡ TooLong
        → (cut_within limit bytes ≡ TooLong → cut_within limit (bytes ++ more) ≡ TooLong)
        → one_later (cut_within limit (bytes ++ more)) ≡ TooLong
    by_cut (Whole k) at is later = cc
    by_cut TooLong at is later = ap one_later (later at)
    by_cut NotYet at is later = cc

    by_test : (b : Bool) → cond b (Whole 1) (one_later (cut_within limit bytes)) ≡ TooLong
        → (cut_within limit bytes ≡ TooLong → cut_within limit (bytes ++ more) ≡ TooLong)
        → cond b (Whole 1) (one_later (cut_within limit (bytes ++ more))) ≡ TooLong
    by_test true is later = cc
    by_test false is later = by_cut (cut_within limit bytes) refl is later

-- no line has ended while there is no answer
none_yet : (left : ℕ) (place : Place) (bytes : List ℕ) → cut_of bytes ≡ NotYet
    → answers left place bytes ≡ []
none_yet zero place bytes is = refl
none_yet (suc left) place bytes is = ap (λ c. answers_by place c bytes) is

one_more : (left : ℕ) (place : Place) (bytes more : List ℕ) (len : ℕ) → 0 < left
    → cut_of bytes ≡ Whole len
    → answers left place (take len bytes ++ more) ≡ answer_to place (request (take len bytes)) ∷ []
unfolding cut_of
one_more zero place bytes more len some is = absurd (omega arith)
one_more (suc left) place bytes more len some is =
    ap (λ c. answers_by place c (take len bytes ++ more)) (cut-front input_limit bytes more len is)
    ∙ ap (λ line. answer_to place (request line) ∷ []) (same-line input_limit bytes more len is)

refused : (left : ℕ) (place : Place) (bytes more : List ℕ) → 0 < left → cut_of bytes ≡ TooLong
    → answers left place (bytes ++ more) ≡ answer_to place too_long ∷ []
unfolding cut_of
refused zero place bytes more some is = absurd (omega arith)
refused (suc left) place bytes more some is =
    ap (λ c. answers_by place c (bytes ++ more)) (cut-long input_limit bytes more is)

short : (place : Place) (asked : Asked) → IsHall place → length (answer_to place asked) ≤ text_limit
short place (request line) hall = reply-short place (selector_of line) hall
short place too_long hall = omega arith

texts : (place : Place) (bytes : List ℕ)
    → gopher_responses_of place bytes ≡ texts_of gopher (answers_to place bytes)
unfolding gopher_responses_of
texts place bytes = refl

nothing : cut_of [] ≡ NotYet
unfolding cut_of
nothing = refl

-- it is a protocol as any other
pub gopher-orderly : IsOrderly gopher
gopher-orderly = record {
  none_left = λ place bytes. refl;
  none_yet = none_yet;
  one_more = one_more;
  refused = refused;
  refusal_closes = λ place last. refl;
  last_closes = λ place asked. refl;
  empty_is = λ place asked last. refl;
  has_bytes = λ place asked last e. let no : true ≡ false = e in absurd (cc);
  short = λ place asked last hall. short place asked hall;
  logged = λ on place asked last. let no : false ≡ true = on in absurd (cc);
  measured = λ on answer. let no : false ≡ true = on in absurd (cc);
  all = λ place bytes. refl;
  texts = texts;
  nothing = nothing;
  some_input = λ place. lit< tt;
  some_answers = λ place. lit< tt;
  few_input = λ place. lit< tt;
  few_written = λ place. lit< tt;
}
