-- The requests of a bench: each is whole at its end and no earlier, and its answer doesn't close
-- the connection. So the more of them were taken, the more is answered.
use Rattle.std.proofs.Common.{◌≡◌, ◌≢◌, ◌⊎◌, inl, inr, ℕ, zero, suc, ◌+◌, ◌-◌, ◌<◌, ◌≤◌, ◌%◌, Bool, true, false, true≢false, List, [], ◌∷◌, ◌++◌, length, take, drop, codes, Some, refl, sym, ap, ◌∙◌, subst, arith, length-append, length-take, take_all, append_assoc, append-nil, ne_eqb}
use Rattle.std.specs.Prelude.{◌==◌, ◌||◌, ◌&&◌, not, if◌then◌else◌, is_none, nat_lt}
use Rattle.std.specs.Str.{IsAscii}
use Rattle.std.proofs.lemmas.Str.{IsUtf8-from_ascii}
use Rattle.std.specs.List.{flat_map, list_all, AllByRecursion, range_with_len}
use Rattle.std.specs.Fmt.{decimal, digits}
use Rattle.std.proofs.lemmas.Bool.{eqb-true, eqb-false, ltb-true}
use Rattle.std.proofs.lemmas.List.{drop_all}
use Rattle.std.proofs.lemmas.List.Sums.{AllPass-from_list_all}
use Rattle.std.proofs.lemmas.List.Elements.{All-from_recursion}
use Rattle.httparse.specs.Grammar.{RequestHead, Field, crlf, IsRequestHead, IsField, AllPass, is_token_byte, is_uri_byte, is_value_byte, print_request, trim_ows}
use Rattle.sws_request.specs.declared.cuts.Cut.{Cut}
use Rattle.sws_request.specs.declared.cuts.Cut.TheVariants.{Head, TooLong, NotYet}
use Rattle.sws_request.specs.Cuts.{cut_of, lines_of, head_lines, up_to_empty}
use Rattle.sws_request.specs.Request.{Request, IsRequest, BeginsEmpty}
use Rattle.sws_request.proofs.CutLemmas.{IsCutOf-cut_of, cut_of-append}
use Rattle.sws_request.proofs.RequestInLemmas.{request_in-request}
use Rattle.sws_site.specs.declared.statuses.Status.{Status}
use Rattle.sws_site.specs.declared.statuses.Status.TheVariants.{Success}
use Rattle.sws_site.specs.ResponseHeads.{line_end}
use Rattle.sws_site.specs.Site.{SiteState}
use Rattle.sws_site.specs.Statuses.{row_of}
use Rattle.sws_answer.specs.Asked.{Asked, request, asked_by, asked_in}
use Rattle.sws_answer.specs.Answers.{Answer, answer_of, request_answer, response, text_of}
use Rattle.sws_answer.specs.Cases.{first_case, request_cases, request_status}
use Rattle.sws_answer.specs.Closing.{is_closing}
use Rattle.sws_answer.specs.Responses.{answers, answers_from, texts_of}
use Rattle.sws_answer.proofs.AnsweredLemmas.{head-some}
use Rattle.sws_answer.proofs.ResponseLemmas.{answers-head, answers-not_yet}
use Rattle.sws_bench.specs.BenchScript as bench

both_true : (a b : Bool) → (a && b) ≡ true → (a ≡ true) × (b ≡ true)
both_true true b both = (refl, both)
both_true false b both = absurd (true≢false (sym both))

longer : (rest : List ℕ) → rest ≢ [] → 0 < length rest
longer [] some = absurd (some refl)
longer (byte ∷ rest) some = omega arith

none_behind : (front behind : List ℕ) → front ++ behind ≡ [] → behind ≡ []
none_behind [] behind is = is
none_behind (byte ∷ front) behind is = cc

-- ---- one request, by the digits of its file

abbrev sent : List ℕ → List ℕ
sent digits = codes "GET /f" ++ (digits ++ (codes ".txt HTTP/1.1" ++ (line_end ++ (codes "Host: b" ++ (line_end ++ line_end)))))

abbrev target_by : List ℕ → List ℕ
target_by digits = codes "/f" ++ (digits ++ codes ".txt")

abbrev asked_for : List ℕ → Request
asked_for digits = record { method = codes "GET"; target = target_by digits; minor = 1; fields = (codes "Host", codes "b") ∷ [] }

abbrev host_field : Field
host_field = record { name = codes "Host"; raw = codes " b"; end = crlf }

abbrev head_by : List ℕ → RequestHead
head_by digits = record { blank = []; method = codes "GET"; target = target_by digits; minor = 1; line_end = crlf; fields = host_field ∷ []; last = crlf }

abbrev is_low : ℕ → Bool
is_low byte = nat_lt byte 128

-- each byte of it is ASCII
low_each : (bytes : List ℕ) → list_all is_low bytes ≡ true → IsAscii bytes
low_each [] all i = omega arith
low_each (byte ∷ bytes) all zero = ltb-true byte 128 (both_true (is_low byte) (list_all is_low bytes) all).0
low_each (byte ∷ bytes) all (suc i) = low_each bytes (both_true (is_low byte) (list_all is_low bytes) all).1 i

-- it is whole at its end, and its target is one
record IsWhole (digits : List ℕ) : Type 0 where
  cut : cut_of (sent digits) ≡ Head (length (sent digits))
  printed : sent digits ≡ print_request (head_by digits)
  target : list_all is_uri_byte (target_by digits) ≡ true
  ascii : list_all is_low (target_by digits) ≡ true

-- by each number of a file that is asked for
each_whole : AllByRecursion (λ j. IsWhole (decimal j)) (range_with_len 0 20)
unfolding cut_of lines_of head_lines up_to_empty print_request digits
each_whole = (
  record { cut = refl; printed = refl; target = refl; ascii = refl },
  (
    record { cut = refl; printed = refl; target = refl; ascii = refl },
    (
      record { cut = refl; printed = refl; target = refl; ascii = refl },
      (
        record { cut = refl; printed = refl; target = refl; ascii = refl },
        (
          record { cut = refl; printed = refl; target = refl; ascii = refl },
          (
            record { cut = refl; printed = refl; target = refl; ascii = refl },
            (
              record { cut = refl; printed = refl; target = refl; ascii = refl },
              (
                record { cut = refl; printed = refl; target = refl; ascii = refl },
                (
                  record { cut = refl; printed = refl; target = refl; ascii = refl },
                  (
                    record { cut = refl; printed = refl; target = refl; ascii = refl },
                    (
                      record { cut = refl; printed = refl; target = refl; ascii = refl },
                      (
                        record { cut = refl; printed = refl; target = refl; ascii = refl },
                        (
                          record { cut = refl; printed = refl; target = refl; ascii = refl },
                          (
                            record { cut = refl; printed = refl; target = refl; ascii = refl },
                            (
                              record { cut = refl; printed = refl; target = refl; ascii = refl },
                              (
                                record { cut = refl; printed = refl; target = refl; ascii = refl },
                                (
                                  record { cut = refl; printed = refl; target = refl; ascii = refl },
                                  (
                                    record { cut = refl; printed = refl; target = refl; ascii = refl },
                                    (
                                      record { cut = refl; printed = refl; target = refl; ascii = refl },
                                      (
                                        record { cut = refl; printed = refl; target = refl; ascii = refl },
                                        tt,
                                      ),
                                    ),
                                  ),
                                ),
                              ),
                            ),
                          ),
                        ),
                      ),
                    ),
                  ),
                ),
              ),
            ),
          ),
        ),
      ),
    ),
  ),
)

-- what holds of each of some numbers in a row
numbered : (P : ℕ → Type 0) (from count : ℕ) → AllByRecursion P (range_with_len from count) → (j : ℕ) → from ≤ j → j < from + count → P j
numbered P from zero all j low high = absurd (omega arith)
numbered P from (suc count) all j low high = by_test (j == from) refl (numbered P (from + 1) count all.1 j)
  where
    by_test : (t : Bool) → (j == from) ≡ t → (from + 1 ≤ j → j < from + 1 + count → P j) → P j
    by_test true same later = subst P (sym (eqb-true j from same)) all.0
    by_test false other later = let apart : j ≢ from = eqb-false j from other in later (omega (arith, apart, low)) (omega (arith, high))

whole_by : (drawn : ℕ) → IsWhole (decimal (drawn % 20))
whole_by drawn = numbered (λ j. IsWhole (decimal j)) 0 20 each_whole (drawn % 20) (omega arith) (omega arith)

token : AllPass is_token_byte (codes "GET")
unfolding is_token_byte
token = AllPass-from_list_all is_token_byte (codes "GET") refl

name : AllPass is_token_byte (codes "Host")
unfolding is_token_byte
name = AllPass-from_list_all is_token_byte (codes "Host") refl

module _ (digits : List ℕ) (whole : IsWhole digits) where
  first_byte : BeginsEmpty (sent digits) → ⊥
  first_byte begins = by_line begins.line begins.empty begins.is
    where
      by_line : (line : List ℕ) → (line ≡ 10 ∷ []) ⊎ (line ≡ 13 ∷ 10 ∷ []) → sent digits ≡ line ++ begins.rest → ⊥
      by_line line (inl lf) is = (let same : sent digits ≡ 10 ∷ begins.rest = is ∙ ap (λ (l : List ℕ). l ++ begins.rest) lf in cc)
      by_line line (inr both) is = (let same : sent digits ≡ 13 ∷ 10 ∷ begins.rest = is ∙ ap (λ (l : List ℕ). l ++ begins.rest) both in cc)

  is_request : IsRequest (sent digits) (asked_for digits)
  unfolding trim_ows
  is_request = record {
    rest = sent digits;
    left = record { blank = []; blank_lines = All-from_recursion _ [] tt; is = refl; all_blank = first_byte };
    says = record {
      head = head_by digits;
      reads = (
        record {
          method = (omega arith, token);
          target = (omega arith, AllPass-from_list_all is_uri_byte (target_by digits) whole.target);
          target_text = IsUtf8-from_ascii (target_by digits) (low_each (target_by digits) whole.ascii);
          minor = omega arith;
          fields = All-from_recursion IsField (host_field ∷ []) (record { name = (omega arith, name); raw = AllPass-from_list_all is_value_byte (codes " b") refl }, tt);
        },
        whole.printed ∙ sym (append-nil (print_request (head_by digits))),
      );
      few = omega arith;
      says = refl;
    };
  }

  asked_is : asked_by (sent digits) ≡ request (asked_for digits)
  asked_is = ap asked_in (request_in-request (sent digits) (asked_for digits) is_request)

-- ---- its answer

-- where no case that holds closes, none is closed
fine_case : (rows : List (Bool × Status)) (otherwise : Status) → (row_of otherwise).closes ≡ false → AllByRecursion (λ row. (row.0 ≡ false) ⊎ ((row_of row.1).closes ≡ false)) rows → (row_of (first_case rows otherwise)).closes ≡ false
fine_case [] otherwise fine all = fine
fine_case ((true, status) ∷ rows) otherwise fine (inl none, all) = absurd (true≢false none)
fine_case ((true, status) ∷ rows) otherwise fine (inr kept, all) = kept
fine_case ((false, status) ∷ rows) otherwise fine all = fine_case rows otherwise fine all.1

-- a request that nobody reads otherwise isn't refused, whatever the site refuses
never : (refuses : Bool) → (refuses && false) ≡ false
never true = refl
never false = refl

stays : (site : SiteState) (digits : List ℕ) → (row_of (request_status site (asked_for digits))).closes ≡ false
unfolding request_status
stays site digits = fine_case (request_cases site (asked_for digits)) Success refl (inl (never site.options.refuses_ambiguous), (inr refl, (inr refl, (inl refl, (inr refl, (inr refl, (inr refl, (inr refl, (inr refl, tt)))))))))

both_false : (a b : Bool) → a ≡ false → b ≡ false → (a || b || false) ≡ false
both_false true b none other = absurd (true≢false none)
both_false false true none other = absurd (true≢false other)
both_false false false none other = refl

open_after : (site : SiteState) (digits : List ℕ) → (answer_of site (request (asked_for digits)) false).closes ≡ false
unfolding request_answer response
open_after site digits = both_false (row_of (request_status site (asked_for digits))).closes (is_closing site.options (asked_for digits)) (stays site digits) refl

-- ---- by the draw

request_is : (drawn : ℕ) → bench.request drawn ≡ sent (decimal (drawn % 20))
unfolding bench.request
request_is drawn = refl

cut_is : (drawn : ℕ) → cut_of (bench.request drawn) ≡ Head (length (bench.request drawn))
cut_is drawn = subst (λ (bytes : List ℕ). cut_of bytes ≡ Head (length bytes)) (sym (request_is drawn)) (whole_by drawn).cut

-- a front of a request is none yet
not_yet : (whole front rest : List ℕ) → cut_of whole ≡ Head (length whole) → whole ≡ front ++ rest → rest ≢ [] → cut_of front ≡ NotYet
not_yet whole front rest cut is some = by_cut (cut_of front) refl
  where
    long : 0 < length rest
    long = longer rest some

    early : cut_of front ≢ NotYet → ⊥
    early there =
        let same : cut_of front ≡ Head (length whole) = sym (cut_of-append front rest there) ∙ ap cut_of (sym is) ∙ cut in
        let fits = (IsCutOf-cut_of front (Head (length whole)) same).0.fits in
        let all : length whole ≡ length front + length rest = ap (λ (bytes : List ℕ). length bytes) is ∙ length-append front rest in
        omega (arith, fits, all, long)

    by_cut : (cut : Cut) → cut_of front ≡ cut → cut_of front ≡ NotYet
    by_cut NotYet e = e
    by_cut TooLong e = absurd (early (λ same. (let other : TooLong ≡ NotYet = sym e ∙ same in cc)))
    by_cut (Head len) e = absurd (early (λ same. (let other : Head len ≡ NotYet = sym e ∙ same in cc)))

-- ---- one answer after another

-- the first bytes are a front of the second ones and less, or the second ones begin them
abbrev Splits : (front behind first tail : List ℕ) → Type 0
Splits front behind first tail =
    ((rest : List ℕ) × (first ≡ front ++ rest) × (rest ≢ [])) ⊎ ((later : List ℕ) × (front ≡ first ++ later) × (later ++ behind ≡ tail))

split : (front behind first tail : List ℕ) → front ++ behind ≡ first ++ tail → Splits front behind first tail
split front behind [] tail is = inr (front, refl, is)
split [] behind (byte ∷ first) tail is = inl (byte ∷ first, refl, λ none. cc)
split (other ∷ front) behind (byte ∷ first) tail is =
    let same : other ≡ byte = cc in
    let rest : front ++ behind ≡ first ++ tail = cc in
    with_byte (split front behind first tail rest) same
  where
    with_byte : Splits front behind first tail → other ≡ byte → Splits (other ∷ front) behind (byte ∷ first) tail
    with_byte (inl (rest, front_is, some)) same = inl (rest, (λ i. sym same i ∷ front_is i), some)
    with_byte (inr (later, first_is, behind_is)) same = inr (later, (λ i. same i ∷ first_is i), behind_is)

module _ (site : SiteState) where
  abbrev answer_for : ℕ → Answer
  answer_for drawn = answer_of site (asked_by (bench.request drawn)) false

  kept_open : (drawn : ℕ) → (answer_for drawn).closes ≡ false
  kept_open drawn =
      ap (λ (bytes : List ℕ). (answer_of site (asked_by bytes) false).closes) (request_is drawn)
      ∙ ap (λ (asked : Asked). (answer_of site asked false).closes) (asked_is (decimal (drawn % 20)) (whole_by drawn))
      ∙ open_after site (decimal (drawn % 20))

  -- a request is answered, and then what stands behind it
  one_more : (left drawn : ℕ) (more : List ℕ) → 1 < left → answers left site (bench.request drawn ++ more) ≡ answer_for drawn ∷ answers (left - 1) site more
  one_more left drawn more some =
      let bytes = bench.request drawn in
      let all : take (length bytes) bytes ≡ bytes = take_all (length bytes) bytes (omega arith) in
      let none : drop (length bytes) bytes ≡ [] = drop_all (length bytes) bytes (omega arith) in
      let last : (left == 1) ≡ false = ne_eqb left 1 (λ e. omega (arith, e, some)) in
      answers-head left site bytes more (length bytes) (omega arith) (cut_is drawn)
      ∙ (λ i. answers_from (answer_of site (asked_by (all i)) (last i)) (answers (left - 1) site (none i ++ more)))
      ∙ ap (λ (closes : Bool). answer_for drawn ∷ (if closes then [] else answers (left - 1) site more)) (kept_open drawn)

  -- a front of requests is answered by less than all of them
  pub less_answered : (draws : List ℕ) (left : ℕ) (front behind : List ℕ) → length draws < left → front ++ behind ≡ flat_map bench.request draws → behind ≢ []
      → length (texts_of (answers left site front)) < length (texts_of (answers left site (flat_map bench.request draws)))
  less_answered [] left front behind few is some = absurd (some (none_behind front behind is))
  less_answered (drawn ∷ draws) left front behind few is some =
      by_split (split front behind (bench.request drawn) (flat_map bench.request draws) is) (λ later rest. less_answered draws (left - 1) later behind (omega (arith, few)) rest some)
    where
      tail : List ℕ
      tail = flat_map bench.request draws

      text : ℕ
      text = length (text_of (answer_for drawn))

      some_text : 0 < text
      some_text =
          let head : 0 < length (answer_for drawn).head = head-some site (asked_by (bench.request drawn)) false in
          let all : text ≡ length (answer_for drawn).head + length (answer_for drawn).body = length-append (answer_for drawn).head (answer_for drawn).body in
          omega (arith, head, all)

      with_more : (more : List ℕ) → length (texts_of (answers left site (bench.request drawn ++ more))) ≡ text + length (texts_of (answers (left - 1) site more))
      with_more more =
          ap (λ (given : List Answer). length (texts_of given)) (one_more left drawn more (omega (arith, few)))
          ∙ length-append (text_of (answer_for drawn)) (texts_of (answers (left - 1) site more))

      by_split : Splits front behind (bench.request drawn) tail
          → ((later : List ℕ) → later ++ behind ≡ tail → length (texts_of (answers (left - 1) site later)) < length (texts_of (answers (left - 1) site tail)))
          → length (texts_of (answers left site front)) < length (texts_of (answers left site (bench.request drawn ++ tail)))
      by_split (inl (rest, front_is, more)) later_less =
          let none = ap (λ (given : List Answer). length (texts_of given)) (answers-not_yet left site front (not_yet (bench.request drawn) front rest (cut_is drawn) front_is more)) in
          let all = with_more tail in
          let long = some_text in
          omega (arith, none, all, long)
      by_split (inr (later, front_is, rest)) later_less =
          let own = ap (λ (bytes : List ℕ). length (texts_of (answers left site bytes))) front_is ∙ with_more later in
          let all = with_more tail in
          let less = later_less later rest in
          omega (arith, own, all, less)
