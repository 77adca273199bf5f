-- What a connection was asked and what it answered, line by line.
use Rattle.std.specs.Prelude.{◌≡◌, ◌≢◌, ◌<◌, ◌⊎◌, ℕ, List, [], ◌∷◌, ◌++◌, Option, Some, None, ⊤, IfSome, length, map, flat_map}
use Rattle.std.specs.List.{AllByRecursion}
use Rattle.sws_link.specs.Links.{LinkContents}
use Rattle.mely_net.specs.declared.asked.Asked.{Asked}
use Rattle.mely_net.specs.declared.asked.Asked.TheVariants.{At, Each, Here, Last}
use Rattle.mely_net.specs.declared.cut.Cut.TheVariants.{Fault, More}
use Rattle.mely_net.specs.declared.end.End.{End}
use Rattle.mely_net.specs.declared.end.End.TheVariants as ends
use Rattle.mely_net.specs.Cutting.{AreFrames, cut_within}
use Rattle.mely_net.specs.Exchanges.{Exchange}
use Rattle.mely_net.specs.Rules.{Rules}

-- a frame, what it asked, and what was replied; and where it asked several cells, what these replied
-- in turn, its parts
pub record Line (Request Reply : Type 0) : Type 0 where
  pub frame : List ℕ
  pub asked : Asked Request Reply
  pub parts : List Reply
  pub reply : Reply

-- A reply without a cell, and one of several cells, is the one that the frame has. There is a part
-- for each request of several cells, and none of other frames.
abbrev pub IsReply : {Q P : Type 0} → Asked Q P → List P → P → Type 0
IsReply (At cell request) parts reply = parts ≡ []
IsReply (Each asks own) parts reply = (reply ≡ own) × (length parts ≡ length asks.items)
IsReply (Here own) parts reply = (reply ≡ own) × (parts ≡ [])
IsReply (Last own) parts reply = (reply ≡ own) × (parts ≡ [])

-- the connection ends with it
abbrev pub IsLast : {Q P : Type 0} → Asked Q P → Type 0
IsLast (At cell request) = ⊥
IsLast (Each asks own) = ⊥
IsLast (Here own) = ⊥
IsLast (Last own) = ⊤

-- the cells that are asked are of so many
abbrev pub IsWhose : {Q P : Type 0} → ℕ → Asked Q P → Type 0
IsWhose cells (At cell request) = cell < cells
IsWhose cells (Each asks own) = AllByRecursion (λ ask. ask.0 < cells) asks.items
IsWhose cells (Here own) = ⊤
IsWhose cells (Last own) = ⊤

-- requests of cells, each with its part of the replies
abbrev pub exchanges_by : {Q P : Type 0} → List (ℕ × Q) → List P → List (Exchange Q P)
exchanges_by [] parts = []
exchanges_by (ask ∷ asks) [] = []
exchanges_by (ask ∷ asks) (part ∷ parts) =
    record { peer = ask.0; request = ask.1; reply = part } ∷ exchanges_by asks parts

-- the exchanges of a line with cells, in order: one, several or none
abbrev pub exchanges_of : {Q P : Type 0} → Asked Q P → List P → P → List (Exchange Q P)
exchanges_of (At cell request) parts reply =
    record { peer = cell; request = request; reply = reply } ∷ []
exchanges_of (Each asks own) parts reply = exchanges_by asks.items parts
exchanges_of (Here own) parts reply = []
exchanges_of (Last own) parts reply = []

-- all those of lines, in order
abbrev pub exchanges_in : {Q P : Type 0} → List (Line Q P) → List (Exchange Q P)
exchanges_in lines = flat_map (λ line. exchanges_of line.asked line.parts line.reply) lines

-- no line is behind one with which the connection ends
abbrev pub EndAtLast : {Q P : Type 0} → List (Line Q P) → Type 0
EndAtLast [] = ⊤
EndAtLast (line ∷ lines) = (IsLast line.asked → lines ≡ []) × EndAtLast lines

-- some line is the last
abbrev pub HasLast : {Q P : Type 0} → List (Line Q P) → Type 0
HasLast [] = ⊥
HasLast (line ∷ lines) = IsLast line.asked ⊎ HasLast lines

-- the connection was to end: with a line that is the last, or with the answer to a fault
abbrev pub IsOver : {Q P : Type 0} → List (Line Q P) → Option P → Type 0
IsOver lines refused = HasLast lines ⊎ (refused ≢ None)

module _ {Q P C : Type 0} (rules : Rules Q P C) where
  -- a line has what its frame asks, and a reply to that
  pub record IsLine (line : Line Q P) : Type 0 where
    pub asks : rules.Asks line.frame line.asked
    pub replies : IsReply line.asked line.parts line.reply

  -- the bytes of their replies, in order
  abbrev pub shown_of : List (Line Q P) → List ℕ
  shown_of lines = flat_map (λ line. rules.shown line.reply line.parts) lines

  -- those of the answer to a fault
  abbrev pub shown_to_fault : Option P → List ℕ
  shown_to_fault None = []
  shown_to_fault (Some reply) = rules.shown reply []

  -- bytes that begin with no frame are answered so
  pub record IsRefused (rest : List ℕ) (reply : P) : Type 0 where
    pub refuses : rules.Refuses reply
    pub fault : cut_within rules.cut rules.longest rest ≡ Fault

  -- what an end says of what is not cut and what is not written: a client that has sent all is
  -- answered all its frames
  abbrev pub IsAll : Option End → List ℕ → List ℕ → Type 0
  IsAll None rest unwritten = ⊤
  IsAll (Some ends.Left) rest unwritten =
      (unwritten ≡ []) × (cut_within rules.cut rules.longest rest ≡ More)
  IsAll (Some ends.Done) rest unwritten = unwritten ≡ []
  IsAll (Some ends.Fault) rest unwritten = ⊤
  IsAll (Some ends.Memory) rest unwritten = ⊤
  IsAll (Some ends.Astray) rest unwritten = ⊤

  -- What was taken of a link begins with the frames of these lines, in order. What was written and
  -- what isn't yet are the bytes of their replies, in order, and of the answer to a fault, which
  -- may only come last. What is on its way is in the outbox, as long as the connection hasn't
  -- ended; and nothing is unwritten where it has ended well. Where its client has sent all that it
  -- sends, all of that was taken, and no frame of it is left; and where the connection has ended
  -- before that, though nothing failed, its last line or the answer to a fault wanted it.
  pub record IsFramed (told : LinkContents) (lines : List (Line Q P)) (outbox : List ℕ)
      (end : Option End) : Type 0 where
    pub rest : List ℕ
    pub frames : AreFrames rules.cut rules.longest told.taken (map (λ line. line.frame) lines) rest
    pub refused : Option P
    pub refused_is : IfSome refused (IsRefused rest)
    pub unwritten : List ℕ
    pub written : told.written ++ unwritten ≡ shown_of lines ++ shown_to_fault refused
    pub on_its_way : end ≡ None → unwritten ≡ outbox
    pub all : IsAll end rest unwritten
    pub nothing_left : end ≡ Some ends.Left → told.left ≡ []
    pub over : end ≡ Some ends.Done → IsOver lines refused
