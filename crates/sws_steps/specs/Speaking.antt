-- What calls of a speech do.
use Rattle.std.specs.Prelude.{◌≡◌, ℕ, Bool, List, [], ◌++◌, take, drop, ⊤}
use Rattle.sws_link.specs.declared.Link.{Ghosts as LinkWords}
use Rattle.sws_link.specs.declared.LinkRead.{LinkRead}
use Rattle.sws_link.specs.Links.{Reads, given_by}
use Rattle.sws_parts.specs.Parts.{PartsState}
use Rattle.sws_steps.specs.Protocol.{Protocol, Cut, Whole, TooLong, NotYet, request, too_long}
use Rattle.sws_steps.specs.declared.note.Note.{Note}

-- one read of at most so many bytes was made, and what it gave stands behind
-- the bytes that were there
pub record Fills {L : Type 0} (x : LinkWords L) (before : List ℕ) (link : L) (most : ℕ)
    (answer : LinkRead) (after : List ℕ) (now : L) : Type 0 where
  pub into : List ℕ
  pub called : Reads x.tells x.is_shut x.faults x.waits link most answer into now
  pub grown : after ≡ before ++ given_by answer into

module _ {Hall Answer : Type 0} (p : Protocol Hall Answer) (hall : Hall) (bytes : List ℕ)
    (last : Bool) where
  -- the answer is what is left to write, and this is left of the bytes
  pub record Gives (answer : Answer) (behind : List ℕ) (rest : List ℕ) (parts : PartsState)
      (note : Note) (closes : Bool) : Type 0 where
    pub rest_is : rest ≡ behind
    pub parts_is : parts ≡ record { head = p.head answer; body = p.body answer }
    pub note_is : note ≡ p.note answer
    pub closes_is : closes ≡ p.closes answer

  -- the first request is answered, by where it ends
  abbrev pub AnswersFirst : Cut → List ℕ → PartsState → Note → Bool → Type 0
  AnswersFirst (Whole len) rest parts note closes =
      Gives (p.answer hall (request (take len bytes)) last) (drop len bytes) rest parts note closes
  AnswersFirst TooLong rest parts note closes =
      Gives (p.answer hall too_long last) [] rest parts note closes
  AnswersFirst NotYet rest parts note closes = ⊤
