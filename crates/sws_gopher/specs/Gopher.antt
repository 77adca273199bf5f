-- Gopher (RFC 1436) as what a connection talks by: one line is a request, which one answer ends.
use Rattle.std.specs.Prelude.{ℕ, zero, suc, ◌==◌, nat_le, Bool, true, false, if◌then◌else◌, List, [], ◌∷◌, length, take}
use Rattle.std.specs.List.{before_first, flat_map}
use Rattle.sws_steps.specs.Protocol.{Protocol, Cut, Whole, TooLong, NotYet, Asked, request, too_long, no_note}
use Rattle.sws_gopher.specs.Texts.{without_last}
use Rattle.sws_gopher.specs.Menus.{Place}
use Rattle.sws_gopher.specs.Replies.{reply_of, not_found, text_limit}
use Rattle.sws_gopher.specs.Halls.{IsHall}

-- so many bytes of a connection count
abbrev pub input_limit : ℕ
input_limit = 1024

-- the byte ends a line: LF
abbrev pub is_feed : ℕ → Bool
is_feed byte = byte == 10

-- the byte ends a selector: TAB
abbrev pub is_tab : ℕ → Bool
is_tab byte = byte == 9

-- the selector in a line: what stands before LF, without CR at its end, and then before TAB
abbrev pub selector_of : List ℕ → List ℕ
selector_of line = before_first is_tab (without_last 13 (before_first is_feed line))

-- where the line ends that goes on for one byte more
abbrev pub one_later : Cut → Cut
one_later (Whole len) = Whole (suc len)
one_later TooLong = TooLong
one_later NotYet = NotYet

-- where the first line ends of some bytes, of which so many count: with the first LF among these
abbrev pub cut_within : ℕ → List ℕ → Cut
cut_within zero bytes = TooLong
cut_within (suc limit) [] = NotYet
cut_within (suc limit) (byte ∷ bytes) =
    if is_feed byte then Whole 1 else one_later (cut_within limit bytes)

-- where the line of a connection ends
unfoldable pub cut_of : List ℕ → Cut
cut_of bytes = cut_within input_limit bytes

-- the cut of bytes in which no line ends, of which so many count
abbrev pub ends_not : ℕ → List ℕ → Cut
ends_not limit bytes = if nat_le limit (length bytes) then TooLong else NotYet

-- the answer to a line, or to one that is too long
abbrev pub answer_to : Place → Asked → List ℕ
answer_to place (request line) = reply_of place (selector_of line)
answer_to place too_long = not_found

-- the answer to some bytes, by where their line ends, if it does
abbrev pub answers_by : Place → Cut → List ℕ → List (List ℕ)
answers_by place (Whole len) bytes = answer_to place (request (take len bytes)) ∷ []
answers_by place TooLong bytes = answer_to place too_long ∷ []
answers_by place NotYet bytes = []

-- the answers to some bytes, so many at most
abbrev pub answers : ℕ → Place → List ℕ → List (List ℕ)
answers zero place bytes = []
answers (suc left) place bytes = answers_by place (cut_of bytes) bytes

-- the one answer to all bytes of a connection, if there is one
abbrev pub answers_to : Place → List ℕ → List (List ℕ)
answers_to place bytes = answers 1 place (take input_limit bytes)

-- what is sent for all bytes of a connection
unfoldable pub gopher_responses_of : Place → List ℕ → List ℕ
gopher_responses_of place bytes = flat_map (λ answer. answer) (answers_to place bytes)

-- an answer has no head, and its connection ends with it
abbrev pub gopher : Protocol Place (List ℕ)
gopher = record {
  IsHall = IsHall;
  cut = cut_of;
  answer = λ place asked last. answer_to place asked;
  head = λ answer. [];
  body = λ answer. answer;
  is_empty = λ answer. length answer == 0;
  closes = λ answer. true;
  note = λ answer. no_note;
  logs = false;
  answers = answers;
  answers_to = answers_to;
  responses_of = gopher_responses_of;
  input_limit = λ place. input_limit;
  answer_limit = λ place. 1;
  text_limit = text_limit;
}
