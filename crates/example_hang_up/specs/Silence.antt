-- A protocol that says nothing: each byte is a request, whose answer has no bytes and closes.
use Rattle.std.specs.Prelude.{ℕ, zero, suc, true, false, List, [], ◌∷◌, take}
use Rattle.sws_steps.specs.Protocol.{Protocol, no_note, Cut, Whole, NotYet}

-- the first request is the first byte
abbrev pub first_byte : List ℕ → Cut
first_byte [] = NotYet
first_byte (byte ∷ bytes) = Whole 1

-- the one answer, where there is a byte and an answer is left
abbrev pub one_answer : ℕ → List ℕ → List (Unit {0})
one_answer left [] = []
one_answer zero (byte ∷ bytes) = []
one_answer (suc left) (byte ∷ bytes) = tt ∷ []

-- it answers out of nothing
abbrev pub silence : Protocol (Unit {0}) (Unit {0})
silence = record {
  IsHall = λ hall. Unit {0};
  cut = first_byte;
  answer = λ hall asked last. tt;
  head = λ answer. [];
  body = λ answer. [];
  is_empty = λ answer. true;
  closes = λ answer. true;
  note = λ answer. no_note;
  logs = false;
  answers = λ left hall bytes. one_answer left bytes;
  answers_to = λ hall bytes. one_answer 1 (take 16 bytes);
  responses_of = λ hall bytes. [];
  input_limit = λ hall. 16;
  answer_limit = λ hall. 1;
  text_limit = 0;
}
