-- Worked rows of a log: of a protocol whose requests are single bytes, and whose answer to each is
-- that byte twice. The first two of a connection's bytes are answered.
use Rattle.std.specs.Prelude.{◌==◌}
use Rattle.std.specs.List.{flat_map}
use Rattle.std.proofs.Common.{◌≡◌, ℕ, zero, suc, ◌-◌, ◌<◌, Bool, true, false, List, [], ◌∷◌, ◌++◌, map, take, Option, Some, None, refl, sym, ap, ◌∙◌, arith, lit<, ne_eqb}
use Rattle.sws_link.specs.Scripts.{Script, piece}
use Rattle.sws_log.specs.Lines.{lines_within}
use Rattle.sws_steps.specs.Protocol.{Protocol, IsOrderly, Cut, Whole, TooLong, NotYet, Asked, request, too_long, later_unless}
use Rattle.sws_steps.specs.Sound.{core_before_open}
use Rattle.sws_steps.specs.declared.Handler.{Handler}
use Rattle.sws_steps.specs.declared.Handler.TheVariants as handler
use Rattle.sws_steps.specs.Path.{IsPathFrom, path_of}
use Rattle.sws_steps.specs.Logs.{log_from, log_of, Step, steps_along, steps_of}
use Rattle.sws_steps.proofs.Runs.PathLemmas.{path-unique, path_of-path}

-- a hall of which nothing need be known
data Valley : Type 0 where
  valley : Valley

-- what is said again, and whether it is the last time
record Echo : Type 0 where
  byte : ℕ
  last : Bool

abbrev first_byte : List ℕ → Cut
first_byte [] = NotYet
first_byte (byte ∷ bytes) = Whole 1

abbrev echo_to : Asked → Bool → Echo
echo_to (request []) last = record { byte = 0; last = last }
echo_to (request (byte ∷ bytes)) last = record { byte = byte; last = last }
echo_to too_long last = record { byte = 0; last = true }

abbrev echoes : ℕ → List ℕ → List Echo
echoes zero bytes = []
echoes (suc left) [] = []
echoes (suc left) (byte ∷ bytes) = record { byte = byte; last = left == 0 } ∷ later_unless (left == 0) (echoes left bytes)

abbrev text_of : Echo → List ℕ
text_of answer = answer.byte ∷ answer.byte ∷ []

abbrev echo : Protocol Valley Echo
echo = record {
  IsHall = λ hall. Unit {0};
  cut = first_byte;
  answer = λ hall asked last. echo_to asked last;
  head = λ answer. [];
  body = text_of;
  is_empty = λ answer. false;
  closes = λ answer. answer.last;
  note = λ answer. record { code = 200; length = 2; target = answer.byte ∷ [] };
  logs = true;
  answers = λ left hall bytes. echoes left bytes;
  answers_to = λ hall bytes. echoes 2 (take 8 bytes);
  responses_of = λ hall bytes. flat_map text_of (echoes 2 (take 8 bytes));
  input_limit = λ hall. 8;
  answer_limit = λ hall. 2;
  text_limit = 2;
}

none_left : (bytes : List ℕ) → echoes 0 bytes ≡ []
none_left bytes = refl

none_yet : (left : ℕ) (bytes : List ℕ) → first_byte bytes ≡ NotYet → echoes left bytes ≡ []
none_yet zero bytes e = refl
none_yet (suc left) [] e = refl
none_yet (suc left) (byte ∷ bytes) e = cc

last_of : (left : ℕ) → (left == 0) ≡ (suc left == 1)
last_of zero = refl
last_of (suc left) = ne_eqb (suc left) 0 (λ e. omega arith) ∙ sym (ne_eqb (suc (suc left)) 1 (λ e. omega arith))

one_more : (left : ℕ) (bytes more : List ℕ) (len : ℕ) → 0 < left → first_byte bytes ≡ Whole len
    → echoes left (take len bytes ++ more)
    ≡ (let answer = echo_to (request (take len bytes)) (left == 1) in answer ∷ later_unless answer.last (echoes (left - 1) more))
one_more left [] more len some e = cc
one_more zero (byte ∷ bytes) more len some e = absurd (omega arith)
one_more (suc left) (byte ∷ bytes) more len some e =
    let one : len ≡ 1 = cc in
    let less : left ≡ suc left - 1 = omega arith in
    let all : List ℕ → Bool → ℕ → List Echo =
    (λ head last left. let answer = echo_to (request head) last in answer ∷ later_unless answer.last (echoes left more)) in
    ap (λ n. echoes (suc left) (take n (byte ∷ bytes) ++ more)) one
    ∙ ap (λ last. all (byte ∷ []) last left) (last_of left) ∙ ap (λ n. all (byte ∷ []) (suc left == 1) n) less
    ∙ ap (λ n. all (take n (byte ∷ bytes)) (suc left == 1) (suc left - 1)) (sym one)

none_long : (bytes : List ℕ) → first_byte bytes ≡ TooLong → ⊥
none_long [] e = cc
none_long (byte ∷ bytes) e = cc

closing : (asked : Asked) → (echo_to asked true).last ≡ true
closing (request []) = refl
closing (request (byte ∷ bytes)) = refl
closing too_long = refl

echo-orderly : IsOrderly echo
echo-orderly = record {
  none_left = λ hall bytes. none_left bytes;
  none_yet = λ left hall bytes e. none_yet left bytes e;
  one_more = λ left hall bytes more len some e. one_more left bytes more len some e;
  refused = λ left hall bytes more some e. absurd (none_long bytes e);
  refusal_closes = λ hall last. refl;
  last_closes = λ hall asked. closing asked;
  empty_is = λ hall asked last. refl;
  has_bytes = λ hall asked last e. refl;
  short = λ hall asked last is. omega arith;
  logged = λ on hall asked last. refl;
  measured = λ on answer. refl;
  all = λ hall bytes. refl;
  texts = λ hall bytes. refl;
  nothing = refl;
  some_input = λ hall. lit< tt;
  some_answers = λ hall. lit< tt;
  few_input = λ hall. lit< tt;
  few_written = λ hall. lit< tt;
}

-- ---- the log

-- two answers, numbered from 1; the third byte has none
log-row : log_of echo valley 5 (7 ∷ 8 ∷ 9 ∷ [])
    ≡ record { conn = 5; turn = 1; code = 200; length = 2; target = 7 ∷ [] } ∷ record { conn = 5; turn = 2; code = 200; length = 2; target = 8 ∷ [] } ∷ []
unfolding log_from
log-row = refl

-- 3 bytes are one answer, and half of the next
within-row : lines_within 3 (log_of echo valley 5 (7 ∷ 8 ∷ 9 ∷ [])) ≡ record { conn = 5; turn = 1; code = 200; length = 2; target = 7 ∷ [] } ∷ []
unfolding log_from
within-row = refl

-- ---- the steps

-- a link that gives two bytes, of which a write takes so many at most, and so many all writes
abbrev two_bytes : Option ℕ → Option ℕ → Script
two_bytes step cut = record { items = piece (7 ∷ 8 ∷ []) ∷ []; step = step; cut = cut }

steps-by-path : (script : Script) (path : List Handler) → IsPathFrom echo (record { standing = core_before_open valley; script = script }) path
    → steps_of echo valley script ≡ steps_along echo (record { standing = core_before_open valley; script = script }) path
steps-by-path script path is =
    ap (steps_along echo (record { standing = core_before_open valley; script = script }))
    (path-unique echo echo-orderly (record { standing = core_before_open valley; script = script }) (path_of echo valley script) path (path_of-path echo echo-orderly valley script tt) is)

-- each write ends an answer, and gives a line
whole-row : map (λ (step : Step). step.line) (steps_of echo valley (two_bytes None None))
    ≡ false ∷ false ∷ false ∷ false ∷ true ∷ false ∷ false ∷ true ∷ false ∷ []
unfolding IsPathFrom steps_along
whole-row = ap (map (λ (step : Step). step.line)) (steps-by-path (two_bytes None None)
    (handler.Open ∷ handler.Read ∷ handler.Parse ∷ handler.Look ∷ handler.Write ∷ handler.Parse ∷ handler.Look ∷ handler.Write ∷ handler.Close ∷ [])
    (refl, (refl, (refl, (refl, (refl, (refl, (refl, (refl, (refl, refl))))))))))

-- a byte at a time, every second one does
part-row : map (λ (step : Step). step.line) (steps_of echo valley (two_bytes (Some 1) None))
    ≡ false ∷ false ∷ false ∷ false ∷ false ∷ true ∷ false ∷ false ∷ false ∷ true ∷ false ∷ []
unfolding IsPathFrom steps_along
part-row = ap (map (λ (step : Step). step.line)) (steps-by-path (two_bytes (Some 1) None)
    (handler.Open ∷ handler.Read ∷ handler.Parse ∷ handler.Look ∷ handler.Write ∷ handler.Write ∷ handler.Parse ∷ handler.Look ∷ handler.Write ∷ handler.Write ∷ handler.Close ∷ [])
    (refl, (refl, (refl, (refl, (refl, (refl, (refl, (refl, (refl, (refl, (refl, refl))))))))))))

-- a write that fails gives none
cut-row : map (λ (step : Step). step.line) (steps_of echo valley (two_bytes None (Some 3)))
    ≡ false ∷ false ∷ false ∷ false ∷ true ∷ false ∷ false ∷ false ∷ false ∷ false ∷ []
unfolding IsPathFrom steps_along
cut-row = ap (map (λ (step : Step). step.line)) (steps-by-path (two_bytes None (Some 3))
    (handler.Open ∷ handler.Read ∷ handler.Parse ∷ handler.Look ∷ handler.Write ∷ handler.Parse ∷ handler.Look ∷ handler.Write ∷ handler.Write ∷ handler.Close ∷ [])
    (refl, (refl, (refl, (refl, (refl, (refl, (refl, (refl, (refl, (refl, refl)))))))))))
