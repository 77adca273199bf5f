-- To say nothing is to answer in order.
use Rattle.std.proofs.Common.{◌≡◌, ℕ, zero, suc, ◌<◌, true, false, List, [], ◌∷◌, ◌++◌, take, refl, ap, arith, lit<}
use Rattle.sws_steps.specs.Protocol.{IsOrderly, Whole, TooLong, NotYet, texts_of}
use Rattle.example_hang_up.specs.Silence.{first_byte, one_answer, silence}

no_more : (bytes : List ℕ) → one_answer 0 bytes ≡ []
no_more [] = refl
no_more (byte ∷ bytes) = refl

none_yet : (left : ℕ) (bytes : List ℕ) → first_byte bytes ≡ NotYet → one_answer left bytes ≡ []
none_yet left [] e = refl
none_yet left (byte ∷ bytes) e = cc

one_more : (left : ℕ) (bytes more : List ℕ) (len : ℕ) → 0 < left → first_byte bytes ≡ Whole len
    → one_answer left (take len bytes ++ more) ≡ tt ∷ []
one_more left [] more len some e = cc
one_more zero (byte ∷ bytes) more len some e = absurd (omega arith)
one_more (suc left) (byte ∷ bytes) more len some e =
    let one : len ≡ 1 = cc in ap (λ n. one_answer (suc left) (take n (byte ∷ bytes) ++ more)) one

none_long : (bytes : List ℕ) → first_byte bytes ≡ TooLong → ⊥
none_long [] e = cc
none_long (byte ∷ bytes) e = cc

no_texts : (given : List (Unit {0})) → [] ≡ texts_of silence given
no_texts [] = refl
no_texts (answer ∷ given) = no_texts given

-- it is a protocol as any other
pub silence-orderly : IsOrderly silence
silence-orderly = record {
  none_left = λ hall bytes. no_more bytes;
  none_yet = λ left hall bytes e. none_yet left bytes e;
  one_more = λ left hall bytes more len some e. one_more left bytes more len some e;
  refused = λ left hall bytes more some e. absurd (none_long bytes e);
  refusal_closes = λ hall last. refl;
  last_closes = λ hall asked. refl;
  empty_is = λ hall asked last. refl;
  has_bytes = λ hall asked last e. let no : true ≡ false = e in absurd (cc);
  short = λ hall asked last is. omega arith;
  logged = λ on hall asked last. let no : false ≡ true = on in absurd (cc);
  measured = λ on answer. let no : false ≡ true = on in absurd (cc);
  all = λ hall bytes. refl;
  texts = λ hall bytes. no_texts (one_answer 1 (take 16 bytes));
  nothing = refl;
  some_input = λ hall. lit< tt;
  some_answers = λ hall. lit< tt;
  few_input = λ hall. lit< tt;
  few_written = λ hall. lit< tt;
}
