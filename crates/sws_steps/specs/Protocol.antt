-- What a connection talks by: what cuts requests off its bytes, what answers them out of a hall,
-- and how much of each there may be.
use Rattle.std.specs.Prelude.{◌≡◌, ℕ, ◌-◌, ◌*◌, ◌^◌, ◌<◌, ◌≤◌, ◌==◌, Bool, true, false, if◌then◌else◌, List, [], ◌∷◌, ◌++◌, length, take}
use Rattle.std.specs.List.{flat_map, list_any}
use Rattle.sws_steps.specs.declared.note.Note.{Note}

-- where the first request of some bytes ends: behind so many of them, or it has more than a request
-- may, or it is not whole yet
pub data Cut : Type 0 where
  Whole : ℕ → Cut
  TooLong NotYet : Cut

-- a request is there, whole or too long
abbrev pub is_there : Cut → Bool
is_there (Whole len) = true
is_there TooLong = true
is_there NotYet = false

-- what is answered: the bytes of a whole request, or one that is too long
pub data Asked : Type 0 where
  request : List ℕ → Asked
  too_long : Asked

-- what a log says before the first answer
abbrev pub no_note : Note
no_note = record { code = 0; length = 0; target = [] }

-- a hall is what a connection is lent, which its answers are taken from
pub record Protocol (Hall Answer : Type 0) : Type 1 where
  -- what is known of each hall
  pub IsHall : Hall → Type 0
  pub cut : List ℕ → Cut
  -- with `true` it is the last answer of its connection
  pub answer : Hall → Asked → Bool → Answer
  -- the bytes of an answer, whether there are none, and whether the connection ends with it
  pub head : Answer → List ℕ
  pub body : Answer → List ℕ
  pub is_empty : Answer → Bool
  pub closes : Answer → Bool
  -- what a log says of an answer, and whether the answers have lines in a log at all
  pub note : Answer → Note
  pub logs : Bool
  -- the answers to some bytes, so many at most; those to all bytes of a
  -- connection, and what is sent then
  pub answers : ℕ → Hall → List ℕ → List Answer
  pub answers_to : Hall → List ℕ → List Answer
  pub responses_of : Hall → List ℕ → List ℕ
  -- so many bytes of a connection count, and so many requests are answered, as its hall has it; and
  -- no answer has more bytes than this
  pub input_limit : Hall → ℕ
  pub answer_limit : Hall → ℕ
  pub text_limit : ℕ

-- so many bytes of a connection may count at most, whatever it talks by
abbrev pub most_input : ℕ
most_input = 4294967295

-- and all that is written of one has fewer bytes than this
abbrev pub most_output : ℕ
most_output = 2 ^ 50

-- the answers after one, unless it closes
abbrev pub later_unless : {Answer : Type 0} → Bool → List Answer → List Answer
later_unless closes later = if closes then [] else later

module _ {Hall Answer : Type 0} (p : Protocol Hall Answer) where
  -- all that is sent of an answer
  abbrev pub text_of : Answer → List ℕ
  text_of answer = p.head answer ++ p.body answer

  -- the texts of answers, one after another
  abbrev pub texts_of : List Answer → List ℕ
  texts_of given = flat_map text_of given

  -- whether one of them closes, which is then the last
  abbrev pub is_closed : List Answer → Bool
  is_closed given = list_any p.closes given

  -- so many bytes are written at most: no answer has more than its limit
  abbrev pub output_limit : Hall → ℕ
  output_limit hall = p.answer_limit hall * p.text_limit

  -- an answer, and those after it unless it closes
  abbrev pub answers_from : Answer → List Answer → List Answer
  answers_from answer later = answer ∷ later_unless (p.closes answer) later

  -- The answers are those to the requests, in order: to each as soon as it is whole, whatever comes
  -- behind it, up to the first that closes. One that is too long is the last, and so is the answer
  -- that is given as the last one. What doesn't close has bytes.
  pub record IsOrderly : Type 0 where
    pub none_left : (hall : Hall) (bytes : List ℕ) → p.answers 0 hall bytes ≡ []
    pub none_yet : (left : ℕ) (hall : Hall) (bytes : List ℕ) → p.cut bytes ≡ NotYet
        → p.answers left hall bytes ≡ []
    pub one_more : (left : ℕ) (hall : Hall) (bytes more : List ℕ) (len : ℕ) → 0 < left
        → p.cut bytes ≡ Whole len
        → p.answers left hall (take len bytes ++ more)
        ≡ answers_from (p.answer hall (request (take len bytes)) (left == 1))
        (p.answers (left - 1) hall more)
    pub refused : (left : ℕ) (hall : Hall) (bytes more : List ℕ) → 0 < left → p.cut bytes ≡ TooLong
        → p.answers left hall (bytes ++ more) ≡ p.answer hall too_long (left == 1) ∷ []
    pub refusal_closes : (hall : Hall) (last : Bool) → p.closes (p.answer hall too_long last) ≡ true
    pub last_closes : (hall : Hall) (asked : Asked) → p.closes (p.answer hall asked true) ≡ true
    pub empty_is : (hall : Hall) (asked : Asked) (last : Bool)
        → p.is_empty (p.answer hall asked last) ≡ (length (text_of (p.answer hall asked last)) == 0)
    pub has_bytes : (hall : Hall) (asked : Asked) (last : Bool)
        → p.closes (p.answer hall asked last) ≡ false
        → p.is_empty (p.answer hall asked last) ≡ false
    pub short : (hall : Hall) (asked : Asked) (last : Bool) → p.IsHall hall
        → length (text_of (p.answer hall asked last)) ≤ p.text_limit
    -- where its answers have lines in a log, each has bytes, so that there is a write that ends it,
    -- and its line says how many
    pub logged : p.logs ≡ true → (hall : Hall) (asked : Asked) (last : Bool)
        → p.is_empty (p.answer hall asked last) ≡ false
    pub measured : p.logs ≡ true → (answer : Answer)
        → (p.note answer).length ≡ length (text_of answer)
    -- those to all bytes are those to the ones that count, and the responses are their texts
    pub all : (hall : Hall) (bytes : List ℕ)
        → p.answers_to hall bytes
        ≡ p.answers (p.answer_limit hall) hall (take (p.input_limit hall) bytes)
    pub texts : (hall : Hall) (bytes : List ℕ)
        → p.responses_of hall bytes ≡ texts_of (p.answers_to hall bytes)
    -- a connection begins without a request, and may have some bytes and an answer
    pub nothing : p.cut [] ≡ NotYet
    pub some_input : (hall : Hall) → 0 < p.input_limit hall
    pub some_answers : (hall : Hall) → 0 < p.answer_limit hall
    -- few bytes count, and few are written
    pub few_input : (hall : Hall) → p.input_limit hall ≤ most_input
    pub few_written : (hall : Hall) → output_limit hall < most_output
