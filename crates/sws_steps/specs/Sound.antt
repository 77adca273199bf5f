-- What holds of a connection at every moment: how its bytes stand to the responses, and what is
-- known at each pending step.
use Rattle.std.specs.Prelude.{◌≡◌, ◌≢◌, ℕ, ◌-◌, ◌*◌, ◌<◌, ◌≤◌, ◌⊎◌, Bool, true, false, List, [], ◌∷◌, ◌++◌, length, Option, Some, None, IsSome, ⊤}
use Rattle.sws_link.specs.declared.Link.{Ghosts as LinkWords}
use Rattle.sws_link.specs.Contents.{IsPrefix}
use Rattle.sws_link.specs.Links.{LinkContents}
use Rattle.sws_parts.specs.Parts.{PartsState, front_of, unsent_bytes}
use Rattle.sws_steps.specs.Protocol.{Protocol, no_note, NotYet, later_unless, text_of, texts_of, is_closed}
use Rattle.sws_steps.specs.declared.note.Note.{Note}
use Rattle.sws_steps.specs.ConnCore.{is_sent, ConnCoreState, ConnState}
use Rattle.sws_steps.specs.declared.End.{End}
use Rattle.sws_steps.specs.declared.End.TheVariants as ending
use Rattle.sws_steps.specs.declared.Next.{Next}
use Rattle.sws_steps.specs.declared.Next.TheVariants as next
use Rattle.sws_steps.specs.Step.{wait_limit, has_all_input}

-- a connection that isn't open yet
abbrev pub core_before_open : {Hall : Type 0} → Hall → ConnCoreState Hall
core_before_open hall = record {
  hall = hall;
  pending = next.Open;
  buffer = [];
  input_ended = false;
  waits = 0;
  parts = record { head = []; body = [] };
  closes = false;
  note = no_note;
  answered = 0;
  end = None;
  read = 0;
  written = 0;
}

module _ {Hall Answer : Type 0} (p : Protocol Hall Answer) where
  -- no bytes wait to be written, no closing answer was given, and there may be more answers
  pub record IsBetween (c : ConnCoreState Hall) : Type 0 where
    pub nothing : is_sent c.parts ≡ true
    pub goes_on : c.closes ≡ false
    pub more : c.answered < p.answer_limit c.hall
    pub no_end : c.end ≡ None
    pub patient : c.waits < wait_limit

  -- a read is made only between answers, where the buffer has no whole request, and
  -- few enough bytes were taken
  pub record IsToRead (c : ConnCoreState Hall) : Type 0 where
    pub between : IsBetween c
    pub not_yet : p.cut c.buffer ≡ NotYet
    pub room : c.read < p.input_limit c.hall
    pub goes_on : c.input_ended ≡ false

  -- the connection was not kept waiting since the last piece
  pub record IsToParse (c : ConnCoreState Hall) : Type 0 where
    pub between : IsBetween c
    pub no_waits : c.waits ≡ 0

  -- the buffer has a whole request, or begins with one that is too long: either is answered
  pub record IsToLook (c : ConnCoreState Hall) : Type 0 where
    pub between : IsBetween c
    pub whole : p.cut c.buffer ≢ NotYet

  -- something of an answer is left to write, and unless it closes there may be another after it
  pub record IsToWrite (c : ConnCoreState Hall) : Type 0 where
    pub something : is_sent c.parts ≡ false
    pub more : c.closes ≡ false → c.answered < p.answer_limit c.hall
    pub no_end : c.end ≡ None
    pub patient : c.waits < wait_limit

  -- all that is to be written was written: the last answer closes, or no more input comes and
  -- none is left to be answered
  pub record IsDone (c : ConnCoreState Hall) : Type 0 where
    pub nothing : is_sent c.parts ≡ true
    pub last : (c.closes ≡ true) ⊎ ((c.closes ≡ false) × (p.cut c.buffer ≡ NotYet)
        × (has_all_input p c ≡ true))

  -- the end is known
  pub record IsEnded (c : ConnCoreState Hall) : Type 0 where
    pub ended : c.end ≢ None
    pub done : c.end ≡ Some ending.Done → IsDone c
    pub idle : c.end ≡ Some ending.Idle → c.waits ≡ wait_limit

  -- what is known where the step is pending
  abbrev pub IsReadyTo : Next → ConnCoreState Hall → Type 0
  IsReadyTo next.Open c = c ≡ core_before_open c.hall
  IsReadyTo next.Read c = IsToRead c
  IsReadyTo next.Parse c = IsToParse c
  IsReadyTo next.Look c = IsToLook c
  IsReadyTo next.Write c = IsToWrite c
  IsReadyTo next.Wait c = ⊥
  IsReadyTo next.Close c = IsEnded c
  IsReadyTo next.Nothing c = IsEnded c

-- there is a link once the connection was opened
abbrev pub IsLinked : {L : Type 0} → Next → Option L → Type 0
IsLinked next.Open link = link ≡ None
IsLinked next.Read link = IsSome link
IsLinked next.Parse link = IsSome link
IsLinked next.Look link = IsSome link
IsLinked next.Write link = IsSome link
IsLinked next.Wait link = IsSome link
IsLinked next.Close link = IsSome link
IsLinked next.Nothing link = IsSome link

module _ {Hall Answer : Type 0} (p : Protocol Hall Answer) where
  -- the last of these answers is what is written, and it is what the log's note is of
  pub record IsWriting (parts : PartsState) (note : Note) (given : List Answer) : Type 0 where
    pub earlier : List Answer
    pub answer : Answer
    pub given_is : given ≡ earlier ++ answer ∷ []
    pub note_is : note ≡ p.note answer
    pub left : length (unsent_bytes parts) ≤ length (text_of p answer)

  -- no answer was given yet, and so none is written
  pub record IsUnanswered (parts : PartsState) (given : List Answer) : Type 0 where
    pub given_is : given ≡ []
    pub nothing : unsent_bytes parts ≡ []

  -- The bytes that were taken are those of the requests that were answered, followed by the buffer.
  -- The bytes that were sent, followed by the rest of the parts, are the answers to those requests.
  -- Whatever comes behind these, they are answered first.
  pub record Progress (c : ConnCoreState Hall) (taken sent : List ℕ) : Type 0 where
    pub consumed : List ℕ
    pub given : List Answer
    pub taken_is : taken ≡ consumed ++ c.buffer
    pub sent_is : sent ++ unsent_bytes c.parts ≡ texts_of p given
    pub count : length given ≡ c.answered
    pub last : IsUnanswered c.parts given ⊎ IsWriting c.parts c.note given
    pub given_first : (more : List ℕ) → p.answers (p.answer_limit c.hall) c.hall (consumed ++ more)
        ≡ given ++ later_unless c.closes (p.answers (p.answer_limit c.hall - c.answered) c.hall more)
    pub closed_is : c.closes ≡ true → is_closed p given ≡ true
    pub read_is : c.read ≡ length taken
    pub written_is : c.written ≡ length sent
    pub read_few : c.read ≤ p.input_limit c.hall
    pub limits : p.IsHall c.hall
    pub given_few : c.answered ≤ p.answer_limit c.hall
    pub texts_few : length (texts_of p given) ≤ c.answered * p.text_limit

-- whether a write may have failed, or have met want of memory
abbrev pub IsUncut : Option End → Type 0
IsUncut None = ⊤
IsUncut (Some ending.Done) = ⊤
IsUncut (Some ending.Idle) = ⊤
IsUncut (Some ending.Fault) = ⊥
IsUncut (Some ending.Memory) = ⊥

-- what was written is what was sent, and after a write that failed also a
-- front of what it was given
pub record WritesSent {Hall : Type 0} (c : ConnCoreState Hall)
    (written sent : List ℕ) : Type 0 where
  pub front : List ℕ
  pub is : written ≡ sent ++ front
  pub prefix : IsPrefix front (front_of c.parts)
  pub none : IsUncut c.end → front ≡ []

-- what the link tells, where it does
abbrev pub IsTold : {Hall : Type 0} → ConnCoreState Hall → Option LinkContents → List ℕ → List ℕ
    → Type 0
IsTold c None taken sent = ⊤
IsTold c (Some tells) taken sent = (tells.taken ≡ taken) × WritesSent c tells.written sent
    × (c.input_ended ≡ true → tells.left ≡ [])

-- the link tells what was taken and sent; without a link nothing was
abbrev pub IsToldBy : {Hall L : Type 0} → LinkWords L → ConnCoreState Hall → Option L
    → List ℕ → List ℕ → Type 0
IsToldBy x c None taken sent = (taken ≡ []) × (sent ≡ [])
IsToldBy x c (Some link) taken sent = IsTold c (x.tells link) taken sent

-- nothing is pending any more
abbrev pub is_over : Next → Bool
is_over next.Open = false
is_over next.Read = false
is_over next.Parse = false
is_over next.Look = false
is_over next.Write = false
is_over next.Wait = false
is_over next.Close = false
is_over next.Nothing = true

-- the link is shut where nothing is pending any more, and not before
abbrev pub IsShutAtEnd : {L : Type 0} → LinkWords L → Next → Option L → Type 0
IsShutAtEnd x pending None = ⊤
IsShutAtEnd x pending (Some link) = x.is_shut link ≡ is_over pending

module _ {Hall Answer : Type 0} (p : Protocol Hall Answer) where
  -- What every connection keeps: what its pending step asks; a link once it was opened, shut
  -- exactly at the end; how the bytes that were taken and sent stand to the responses; and that
  -- these are the bytes of which the link tells.
  pub record IsSound {L : Type 0} (x : LinkWords L) (c : ConnState Hall L) : Type 0 where
    pub taken : List ℕ
    pub sent : List ℕ
    pub ready : IsReadyTo p c.standing.pending c.standing
    pub linked : IsLinked c.standing.pending c.link
    pub shut : IsShutAtEnd x c.standing.pending c.link
    pub progress : Progress p c.standing taken sent
    pub told : IsToldBy x c.standing c.link taken sent
