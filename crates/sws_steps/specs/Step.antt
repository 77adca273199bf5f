-- The table of a connection's steps: what each does and what is next, over what a
-- contract sees of the connection.
use Rattle.std.specs.Prelude.{◌≡◌, ℕ, ◌+◌, ◌-◌, ◌^◌, ◌==◌, nat_le, min, Bool, true, false, ◌||◌, if◌then◌else◌, List, [], ◌++◌, take, drop, Option, Some, None, Result, Ok, Err}
use Rattle.sws_link.specs.declared.Link.{Ghosts as LinkWords}
use Rattle.sws_link.specs.declared.LinkRead.{LinkRead}
use Rattle.sws_link.specs.declared.LinkRead.TheVariants as read
use Rattle.sws_link.specs.declared.LinkWrite.{LinkWrite}
use Rattle.sws_link.specs.declared.LinkWrite.TheVariants as write
use Rattle.sws_link.specs.Links.{Way, read_fault, write_fault, Reads, Writes, Shuts}
use Rattle.sws_parts.specs.Parts.{PartsState, front_of, after_sending}
use Rattle.sws_steps.specs.Protocol.{Protocol, Cut, Whole, TooLong, NotYet, request, too_long}
use Rattle.sws_steps.specs.ConnCore.{is_sent, ConnCoreState, ConnState}
use Rattle.sws_steps.specs.declared.End.{End}
use Rattle.sws_steps.specs.declared.End.TheVariants as ending
use Rattle.sws_steps.specs.declared.Next.{Next}
use Rattle.sws_steps.specs.declared.Next.TheVariants as next

-- one read takes at most so many bytes
abbrev pub read_limit : ℕ
read_limit = 4096

-- nothing is written once so many bytes were, far more than all the answers of a connection come
-- to: the count never wraps
abbrev pub written_limit : ℕ
written_limit = 2 ^ 60

-- a connection ends where its link is not ready so often in succession
abbrev pub wait_limit : ℕ
wait_limit = 30

module _ {Hall : Type 0} (c : ConnCoreState Hall) where
  -- this step comes next, and all else stays
  abbrev pub going_to : Next → ConnCoreState Hall
  going_to pending = record c { pending = pending }

  -- the end is known, and the close comes next
  abbrev pub ending_as : End → ConnCoreState Hall
  ending_as end = record c { end = Some end; pending = next.Close }

  -- the link was not ready once more: the connection ends as idle where that was once too often
  abbrev pub still_waiting : Bool → ConnCoreState Hall
  still_waiting true = record c {
    waits = c.waits + 1;
    end = Some ending.Idle;
    pending = next.Close;
  }
  still_waiting false = record c { waits = c.waits + 1 }

  -- the same step stays pending, until the link was not ready so often in
  -- succession as the limit says
  abbrev pub not_ready : ConnCoreState Hall
  not_ready = still_waiting (nat_le wait_limit (c.waits + 1))

  -- a connection after an answer of its link to a read: bytes that came go behind the buffer, and a
  -- request is looked for in it
  abbrev pub after_read : LinkRead → List ℕ → ConnCoreState Hall
  after_read (read.Took count) into = record c {
    buffer = c.buffer ++ take count into;
    read = c.read + count;
    waits = 0;
    pending = next.Parse;
  }
  after_read read.End into = record c { input_ended = true; waits = 0; pending = next.Parse }
  after_read read.NotReady into = not_ready
  after_read read.Failed into = ending_as ending.Fault

-- what follows an answer: by whether nothing is left of it, and whether it closes
abbrev pub after_part : {Hall : Type 0} → Bool → Bool → ConnCoreState Hall → ConnCoreState Hall
after_part false closes c = c
after_part true true c = ending_as c ending.Done
after_part true false c = going_to c next.Parse

-- a connection after so many bytes of the front were written
abbrev pub after_wrote : {Hall : Type 0} → ConnCoreState Hall → PartsState → ℕ → ConnCoreState Hall
after_wrote c parts count = after_part (is_sent parts) c.closes (record c {
  parts = parts;
  written = c.written + count;
  waits = 0;
})

-- a connection after an answer of its link to a write
abbrev pub after_write : {Hall : Type 0} → ConnCoreState Hall → LinkWrite → ConnCoreState Hall
after_write c (write.Wrote count) = after_wrote c (after_sending count c.parts) count
after_write c write.NotReady = not_ready c
after_write c write.Failed = ending_as c ending.Fault
after_write c write.Memory = ending_as c ending.Memory

module _ {Hall Answer : Type 0} (p : Protocol Hall Answer) (c : ConnCoreState Hall) where
  -- the room of the next read
  abbrev pub room_of : ℕ
  room_of = min read_limit (p.input_limit c.hall - c.read)

  -- whether no more input comes
  abbrev pub has_all_input : Bool
  has_all_input = c.input_ended || nat_le (p.input_limit c.hall) c.read

  -- what follows the cut of the buffer: a request, whole or too long, is answered; where there is
  -- none yet more is read, and where no more comes all is done
  abbrev pub after_parse : Cut → ConnCoreState Hall
  after_parse (Whole len) = going_to c next.Look
  after_parse TooLong = going_to c next.Look
  after_parse NotYet = if has_all_input then ending_as c ending.Done else going_to c next.Read

  -- the answer is sent next, and this is left of the buffer
  abbrev pub with_answer : Answer → List ℕ → ConnCoreState Hall
  with_answer answer rest = record c {
    buffer = rest;
    parts = record { head = p.head answer; body = p.body answer };
    closes = p.closes answer;
    note = p.note answer;
    answered = c.answered + 1;
    pending = next.Write;
  }

  -- nothing is written where it has no bytes
  abbrev pub after_answer : Answer → List ℕ → ConnCoreState Hall
  after_answer answer rest =
      after_part (p.is_empty answer) (p.closes answer) (with_answer answer rest)

  -- whether the next answer is the last that the connection may give, which has to close it
  abbrev pub is_last : Bool
  is_last = c.answered + 1 == p.answer_limit c.hall

  -- the request at the front of the buffer is answered and taken off it; one that is too long takes
  -- the whole buffer with it, since where the next begins isn't known
  abbrev pub after_look : Cut → ConnCoreState Hall
  after_look (Whole len) =
      after_answer (p.answer c.hall (request (take len c.buffer)) is_last) (drop len c.buffer)
  after_look TooLong = after_answer (p.answer c.hall too_long is_last) []
  after_look NotYet = c

module _ {Hall L : Type 0} (x : LinkWords L) (before after : ConnCoreState Hall) where
  -- one write of the front of the parts was made
  pub record WritesOnce (link now : L) : Type 0 where
    pub answer : LinkWrite
    pub called : Writes x.tells x.is_shut x.faults x.waits link (front_of before.parts) answer now
    pub since : (first : L) → x.since first None link → x.since first (write_fault answer) now
    pub becomes : after ≡ after_write before answer

  -- the link was shut
  pub record ShutsOnce (link now : L) : Type 0 where
    pub called : Shuts x.tells x.is_shut x.faults x.waits link now
    pub since : (first : L) (fault : Option Way) → x.since first fault link
        → x.since first fault now
    pub becomes : after ≡ going_to before next.Nothing

  -- the step is done over a link, of which it makes this
  abbrev pub OverLink : (L → L → Type 0) → Option L → Option L → Type 0
  OverLink Does (Some link) (Some now) = Does link now
  OverLink Does (Some link) None = ⊥
  OverLink Does None now = ⊥

module _ {Hall Answer L : Type 0} (p : Protocol Hall Answer) (x : LinkWords L)
    (before after : ConnCoreState Hall) where
  -- one read of the link was made, which keeps what the link kept of an earlier state
  pub record ReadsOnce (link now : L) : Type 0 where
    pub answer : LinkRead
    pub into : List ℕ
    pub called : Reads x.tells x.is_shut x.faults x.waits link (room_of p before) answer into now
    pub since : (first : L) → x.since first None link → x.since first (read_fault answer) now
    pub becomes : after ≡ after_read before answer into

  -- the step, by what is pending, and the links before and after it
  abbrev pub StepsFrom : Next → Option L → Option L → Type 0
  StepsFrom next.Open link now = (after ≡ before) × (now ≡ link)
  StepsFrom next.Read link now = OverLink x before after ReadsOnce link now
  StepsFrom next.Parse link now = (after ≡ after_parse p before (p.cut before.buffer))
      × (now ≡ link)
  StepsFrom next.Look link now = (after ≡ after_look p before (p.cut before.buffer)) × (now ≡ link)
  StepsFrom next.Write link now = OverLink x before after (WritesOnce x before after) link now
  StepsFrom next.Wait link now = ⊥
  StepsFrom next.Close link now = OverLink x before after (ShutsOnce x before after) link now
  StepsFrom next.Nothing link now = (after ≡ before) × (now ≡ link)

-- the step that is pending was done
abbrev pub Steps : {Hall Answer L : Type 0} → Protocol Hall Answer → LinkWords L → ConnState Hall L
    → ConnState Hall L → Type 0
Steps p x before after =
    StepsFrom p x before.standing after.standing before.standing.pending before.link after.link

-- the connection gets its link, or has one already and hands this one back
abbrev pub OpensAt : {Hall L : Type 0} → Option L → ConnState Hall L → L → Result Next L
    → ConnState Hall L → Type 0
OpensAt None before link answer after =
    (answer ≡ Ok next.Read)
    × (after ≡ record { standing = going_to before.standing next.Read; link = Some link })
OpensAt (Some there) before link answer after = (answer ≡ Err link) × (after ≡ before)

-- a connection is given its link and is to read, or has one already and hands this one back
abbrev pub Opens : {Hall L : Type 0} → ConnState Hall L → L → Result Next L
    → ConnState Hall L → Type 0
Opens before link answer after = OpensAt before.link before link answer after
