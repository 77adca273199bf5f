-- What a link tells, and what its calls change in that. A link that tells nothing has `None`, and
-- goes on telling nothing.
use Rattle.std.specs.Prelude.{◌≡◌, ℕ, ◌<◌, ◌≤◌, Bool, true, false, IsTrue, List, [], ◌++◌, length, take, Option, Some, None, ⊤}
use Rattle.sws_link.specs.declared.LinkRead.{LinkRead}
use Rattle.sws_link.specs.declared.LinkRead.TheVariants as read
use Rattle.sws_link.specs.declared.LinkWrite.{LinkWrite}
use Rattle.sws_link.specs.declared.LinkWrite.TheVariants as write
use Rattle.sws_link.specs.Contents.{IsPrefix}
use Rattle.sws_link.specs.Counts.{Count, HasCause}
use Rattle.sws_link.specs.Scripts.{Script, read_of, write_of}

-- what was taken of the input and what is left of it, what was written, and the answers to
-- come where the link is scripted; and whether its writes write nothing but what their answers
-- say, also where they fail
pub record LinkContents : Type 0 where
  pub taken : List ℕ
  pub left : List ℕ
  pub written : List ℕ
  pub to_come : Option Script
  pub says_all : Bool

-- the whole input
abbrev pub input_of : LinkContents → List ℕ
input_of tells = tells.taken ++ tells.left

-- nothing was taken or written, where that is told
abbrev pub IsInitialLink : Option LinkContents → Type 0
IsInitialLink None = ⊤
IsInitialLink (Some tells) = (tells.taken ≡ []) × (tells.written ≡ [])

-- ---- a read

-- some bytes were taken, and no more than there is room for
abbrev pub IsReadWithin : LinkRead → ℕ → Type 0
IsReadWithin (read.Took count) room = (0 < count) × (count ≤ room)
IsReadWithin read.End room = ⊤
IsReadWithin read.NotReady room = ⊤
IsReadWithin read.Failed room = ⊤

-- the bytes that an answer gives, which stand at the front of the room
abbrev pub given_by : LinkRead → List ℕ → List ℕ
given_by (read.Took count) into = take count into
given_by read.End into = []
given_by read.NotReady into = []
given_by read.Failed into = []

-- a scripted link answers as its items say, and one that isn't doesn't become it
abbrev pub ReadsAs : Option Script → ℕ → LinkRead → List ℕ → Option Script → Type 0
ReadsAs None room answer into now = now ≡ None
ReadsAs (Some script) room answer into now =
    let said = read_of room script.items in
    (answer ≡ said.answer) × (given_by answer into ≡ said.bytes)
    × (now ≡ Some (record script { items = said.items }))

-- the end comes only where nothing is left
abbrev pub EndsRead : LinkRead → List ℕ → Type 0
EndsRead read.End left = left ≡ []
EndsRead (read.Took count) left = ⊤
EndsRead read.NotReady left = ⊤
EndsRead read.Failed left = ⊤

-- what was given moves from what is left to what was taken
pub record TakesTold (before : LinkContents) (now : Option LinkContents) (room : ℕ)
    (answer : LinkRead) (into : List ℕ) : Type 0 where
  pub after : LinkContents
  pub is : now ≡ Some after
  pub left : before.left ≡ given_by answer into ++ after.left
  pub taken : after.taken ≡ before.taken ++ given_by answer into
  pub written : after.written ≡ before.written
  pub to_come : ReadsAs before.to_come room answer into after.to_come
  pub ends : EndsRead answer before.left
  pub says_all : after.says_all ≡ before.says_all

-- what a read takes of a link, where the link tells it
abbrev pub LinkTakes : Option LinkContents → Option LinkContents → ℕ → LinkRead → List ℕ → Type 0
LinkTakes None now room answer into = now ≡ None
LinkTakes (Some before) now room answer into = TakesTold before now room answer into

-- ---- a write

-- some bytes were written, and no more than there are
abbrev pub IsWriteWithin : LinkWrite → ℕ → Type 0
IsWriteWithin (write.Wrote count) length = (0 < count) × (count ≤ length)
IsWriteWithin write.NotReady length = ⊤
IsWriteWithin write.Failed length = ⊤
IsWriteWithin write.Memory length = ⊤

-- what was written of a piece
abbrev pub IsWritten : LinkWrite → List ℕ → List ℕ → Type 0
IsWritten (write.Wrote count) piece front = front ≡ take count piece
IsWritten write.NotReady piece front = front ≡ []
IsWritten write.Failed piece front = IsPrefix front piece
IsWritten write.Memory piece front = IsPrefix front piece

-- a scripted link answers as its step and its cut say, but for want of memory
abbrev pub WritesAs : Option Script → ℕ → LinkWrite → Option Script → Type 0
WritesAs None length answer now = now ≡ None
WritesAs (Some script) length write.Memory now = now ≡ Some script
WritesAs (Some script) length (write.Wrote count) now =
    let said = write_of script length in (write.Wrote count ≡ said.answer)
    × (now ≡ Some said.script)
WritesAs (Some script) length write.NotReady now =
    let said = write_of script length in (write.NotReady ≡ said.answer) × (now ≡ Some said.script)
WritesAs (Some script) length write.Failed now =
    let said = write_of script length in (write.Failed ≡ said.answer) × (now ≡ Some said.script)

-- what an answer says was written
abbrev pub written_by : LinkWrite → List ℕ → List ℕ
written_by (write.Wrote count) piece = take count piece
written_by write.NotReady piece = []
written_by write.Failed piece = []
written_by write.Memory piece = []

-- a scripted link writes nothing of a piece where it fails
abbrev pub IsExact : Option Script → LinkWrite → List ℕ → List ℕ → Type 0
IsExact None answer piece front = ⊤
IsExact (Some script) answer piece front = front ≡ written_by answer piece

-- a write puts a front of the piece behind what was sent, and the link goes on telling
pub record PutsTold (before : LinkContents) (now : Option LinkContents) (answer : LinkWrite)
    (bytes : List ℕ) : Type 0 where
  pub after : LinkContents
  pub front : List ℕ
  pub is : now ≡ Some after
  pub written : after.written ≡ before.written ++ front
  pub front_is : IsWritten answer bytes front
  pub taken : after.taken ≡ before.taken
  pub left : after.left ≡ before.left
  pub to_come : WritesAs before.to_come (length bytes) answer after.to_come
  pub exact : IsExact before.to_come answer bytes front
  pub says_all : after.says_all ≡ before.says_all
  pub said : IsTrue before.says_all → front ≡ written_by answer bytes

-- what a write puts on a link, where the link tells it
abbrev pub LinkPuts : Option LinkContents → Option LinkContents → LinkWrite → List ℕ → Type 0
LinkPuts None now answer piece = now ≡ None
LinkPuts (Some before) now answer piece = PutsTold before now answer piece

-- ---- a fault

-- the two ways of a link
pub data Way : Type 0 where
  reading writing : Way

-- the way in which a call failed, if it did
abbrev pub read_fault : LinkRead → Option Way
read_fault (read.Took count) = None
read_fault read.End = None
read_fault read.NotReady = None
read_fault read.Failed = Some reading

-- the way that failed, if the write did
abbrev pub write_fault : LinkWrite → Option Way
write_fault (write.Wrote count) = None
write_fault write.NotReady = None
write_fault write.Failed = Some writing
write_fault write.Memory = None

-- ---- whole calls, of a link that is seen by what it tells, by whether it was shut and by its two counts

module _ {L : Type 0} (tells : L → Option LinkContents) (is_shut : L → Bool)
    (faults waits : L → Count) where
  -- one read into a room of the size answered this, and left this in the room; the link isn't shut
  pub record Reads (before : L) (room : ℕ) (answer : LinkRead) (into : List ℕ)
      (after : L) : Type 0 where
    pub size : length into ≡ room
    pub fits : IsReadWithin answer room
    pub takes : LinkTakes (tells before) (tells after) room answer into
    pub failed : HasCause (faults before) (faults after) (answer ≡ read.Failed)
    pub waited : HasCause (waits before) (waits after) (answer ≡ read.NotReady)
    pub not_shut : is_shut after ≡ false

  -- one write of the piece answered this; the link isn't shut
  pub record Writes (before : L) (bytes : List ℕ) (answer : LinkWrite) (after : L) : Type 0 where
    pub fits : IsWriteWithin answer (length bytes)
    pub puts : LinkPuts (tells before) (tells after) answer bytes
    pub failed : HasCause (faults before) (faults after) (answer ≡ write.Failed)
    pub waited : HasCause (waits before) (waits after) (answer ≡ write.NotReady)
    pub not_shut : is_shut after ≡ false

  -- the link is shut now, which changes nothing else
  pub record Shuts (before after : L) : Type 0 where
    pub shut : is_shut after ≡ true
    pub same : tells after ≡ tells before
    pub same_faults : faults after ≡ faults before
    pub same_waits : waits after ≡ waits before
