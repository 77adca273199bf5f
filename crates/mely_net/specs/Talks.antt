-- What a connection keeps, for contracts of its functions.
use Rattle.std.specs.Prelude.{◌≡◌, ◌≢◌, ℕ, List, [], ◌∷◌, ◌++◌, Option, Some, None, Bool, true, false, ⊤, IfSome, map}
use Rattle.std.specs.List.{AllByRecursion}
use Rattle.sws_link.specs.Links.{LinkContents}
use Rattle.mely_net.specs.declared.asked.Asked.{Asked}
use Rattle.mely_net.specs.declared.asked.Asked.TheVariants.{At, Each, Here, Last}
use Rattle.mely_net.specs.declared.end.End.{End}
use Rattle.mely_net.specs.declared.end.End.TheVariants as ends
use Rattle.mely_net.specs.Cutting.{AreFrames}
use Rattle.mely_net.specs.Exchanges.{Exchange}
use Rattle.mely_net.specs.Lines.{EndAtLast, IsAll, IsLast, IsLine, IsOver, IsRefused, IsWhose, Line, exchanges_in, shown_of, shown_to_fault}
use Rattle.mely_net.specs.Rules.{Rules}
use Rattle.mely_net.specs.Several.{SeveralState}

-- what a connection has: whether its link has come, and what that tells; what came and isn't cut,
-- and what isn't written; the cell that was asked, and the request of several cells that it is asked
-- for, where it is for one; whether it ends once all is written, and how it has ended
pub record ClientView (Q P : Type 0) : Type 0 where
  pub has_come : Bool
  pub told : Option LinkContents
  pub inbox : List ℕ
  pub outbox : List ℕ
  pub asked : Option ℕ
  pub several : Option (SeveralState Q P)
  pub is_last : Bool
  pub end : Option End

-- what a link tells, where it has come
abbrev pub told_by : {L : Type 0} → (L → Option LinkContents) → Option L → Option LinkContents
told_by tells None = None
told_by tells (Some link) = tells link

-- the exchanges as requests, and as replies, each with its cell
abbrev pub requests_of : {Q P : Type 0} → List (Exchange Q P) → List (ℕ × Q)
requests_of exchanges = map (λ one. (one.peer, one.request)) exchanges

abbrev pub replies_of : {Q P : Type 0} → List (Exchange Q P) → List (ℕ × P)
replies_of exchanges = map (λ one. (one.peer, one.reply)) exchanges

abbrev pub parts_of : {Q P : Type 0} → List (Exchange Q P) → List P
parts_of exchanges = map (λ one. one.reply) exchanges

-- A request that a cell is asked, with its frame and what that asks. Where it asks several cells,
-- there are exchanges with those that were asked before, and what is still to be asked of others.
pub record Request (Q P : Type 0) : Type 0 where
  pub frame : List ℕ
  pub asked : Asked Q P
  pub done : List (Exchange Q P)
  pub cell : ℕ
  pub request : Q
  pub left : List (ℕ × Q)

-- the cells were and will be asked what the frame asks
abbrev pub IsOf : {Q P : Type 0} → Asked Q P → Request Q P → Type 0
IsOf (At cell request) one =
    (one.done ≡ []) × (one.cell ≡ cell) × (one.request ≡ request) × (one.left ≡ [])
IsOf (Each asks own) one =
    requests_of one.done ++ (one.cell, one.request) ∷ one.left ≡ asks.items
IsOf (Here own) one = ⊥
IsOf (Last own) one = ⊥

-- what the connection knows of a request of several cells
abbrev pub several_of : {Q P : Type 0} → Asked Q P → Request Q P → Option (SeveralState Q P)
several_of (At cell request) one = None
several_of (Each asks own) one =
    Some (record { left = one.left; parts = parts_of one.done; reply = own })
several_of (Here own) one = None
several_of (Last own) one = None

-- what is asked by a request under way
abbrev pub asked_by : {Q P : Type 0} → Option (Request Q P) → List (ℕ × Q)
asked_by None = []
asked_by (Some one) = (one.cell, one.request) ∷ []

-- and what the cells before it were asked and have replied
abbrev pub done_by : {Q P : Type 0} → Option (Request Q P) → List (Exchange Q P)
done_by None = []
done_by (Some one) = one.done

abbrev pub frame_of : {Q P : Type 0} → Option (Request Q P) → List (List ℕ)
frame_of None = []
frame_of (Some one) = one.frame ∷ []

-- a reply is of another cell than the one that was asked
abbrev pub IsApart : {Q P : Type 0} → Option (Request Q P) → ℕ → Type 0
IsApart None cell = ⊤
IsApart (Some one) cell = one.cell ≢ cell

-- which cell the connection knows to be asked, and for which request of several: the ones of the
-- request under way, as long as no reply went astray
abbrev pub IsKnown : {Q P : Type 0} → List (ℕ × P) → Option (Request Q P) → Option ℕ
    → Option (SeveralState Q P) → Type 0
IsKnown [] None asked several = (asked ≡ None) × (several ≡ None)
IsKnown [] (Some one) asked several =
    (asked ≡ Some one.cell) × (several ≡ several_of one.asked one)
IsKnown (reply ∷ astray) under_way asked several = (asked ≡ None) × IsApart under_way reply.0

-- a connection that has ended well waits for no cell
abbrev pub IsAnswered : {Q P : Type 0} → Option End → Option (Request Q P) → Type 0
IsAnswered None under_way = ⊤
IsAnswered (Some ends.Left) under_way = under_way ≡ None
IsAnswered (Some ends.Done) under_way = under_way ≡ None
IsAnswered (Some ends.Fault) under_way = ⊤
IsAnswered (Some ends.Memory) under_way = ⊤
IsAnswered (Some ends.Astray) under_way = ⊤

-- no line is the last, and there is no answer to a fault
pub record GoesOn {Q P : Type 0} (lines : List (Line Q P)) (refused : Option P) : Type 0 where
  pub not_last : AllByRecursion (λ line. IsLast line.asked → ⊥) lines
  pub no_fault : refused ≡ None

-- no line is there, no request and no answer to a fault
pub record IsFresh {Q P : Type 0} (lines : List (Line Q P)) (under_way : Option (Request Q P))
    (refused : Option P) : Type 0 where
  pub no_lines : lines ≡ []
  pub no_request : under_way ≡ None
  pub no_fault : refused ≡ None

-- nothing waits to be cut or written
pub record IsEmpty {Q P : Type 0} (client : ClientView Q P) : Type 0 where
  pub no_inbox : client.inbox ≡ []
  pub no_outbox : client.outbox ≡ []

-- What a connection knows of its lines: the cell that was asked; that no reply went astray as long
-- as it hasn't ended; that it cuts no further frame once it is to end, then waits for no cell, and
-- is to end for a line or a fault; and that there is nothing before its link has come.
pub record IsKept {Q P : Type 0} (lines : List (Line Q P)) (under_way : Option (Request Q P))
    (refused : Option P) (astray : List (ℕ × P)) (client : ClientView Q P) : Type 0 where
  pub known : IsKnown astray under_way client.asked client.several
  pub none_astray : client.end ≡ None → astray ≡ []
  pub strays : client.end ≡ Some ends.Astray → astray ≢ []
  pub goes_on : client.is_last ≡ false → GoesOn lines refused
  pub idle : client.is_last ≡ true → under_way ≡ None
  pub over : client.is_last ≡ true → IsOver lines refused
  pub done : client.end ≡ Some ends.Done → client.is_last ≡ true
  pub fresh : client.has_come ≡ false → IsFresh lines under_way refused
  pub empty : client.has_come ≡ false → client.end ≡ None → IsEmpty client

module _ {Q P C : Type 0} (rules : Rules Q P C) where
  -- a request under way is what its frame asks, of cells that there are
  pub record IsAsked (one : Request Q P) : Type 0 where
    pub asks : rules.Asks one.frame one.asked
    pub whose : IsWhose rules.cells one.asked
    pub is_of : IsOf one.asked one

  -- what was asked and replied are the exchanges of these lines, with a request that is under way,
  -- and replies that went astray
  pub record IsSpoken (asks : List (ℕ × Q)) (replies : List (ℕ × P)) (lines : List (Line Q P))
      (under_way : Option (Request Q P)) (astray : List (ℕ × P)) : Type 0 where
    pub asked : asks ≡ requests_of (exchanges_in lines ++ done_by under_way)
        ++ asked_by under_way
    pub replied : replies ≡ replies_of (exchanges_in lines ++ done_by under_way) ++ astray
    pub lines_are : AllByRecursion (IsLine rules) lines
    pub end_at_last : EndAtLast lines
    pub is_asked : IfSome under_way IsAsked

  -- what was taken is cut so, and what was written, with what isn't, is this
  pub record IsTold (frames : List (List ℕ)) (rest shown unwritten : List ℕ) (told : LinkContents)
      : Type 0 where
    pub framed : AreFrames rules.cut rules.longest told.taken frames rest
    pub written : told.written ++ unwritten ≡ shown

  -- what was taken and written, where the link tells it, is that of these lines; what isn't cut or
  -- written is at hand as long as the connection hasn't ended
  pub record IsCarried (lines : List (Line Q P)) (under_way : Option (Request Q P))
      (refused : Option P) (rest unwritten : List ℕ) (client : ClientView Q P) : Type 0 where
    pub told : IfSome client.told (IsTold (map (λ line. line.frame) lines ++ frame_of under_way)
        rest (shown_of rules lines ++ shown_to_fault rules refused) unwritten)
    pub is_refused : IfSome refused (IsRefused rules rest)
    pub inbox_is : client.end ≡ None → rest ≡ client.inbox
    pub outbox_is : client.end ≡ None → unwritten ≡ client.outbox
    pub all : IsAll rules client.end rest unwritten
    pub nothing_left : client.end ≡ Some ends.Left → IfSome client.told (λ told. told.left ≡ [])
    pub answered : IsAnswered client.end under_way

  -- A connection that has asked these requests and got these replies, each with its cell.
  pub record IsTalk (asks : List (ℕ × Q)) (replies : List (ℕ × P)) (client : ClientView Q P)
      : Type 0 where
    pub lines : List (Line Q P)
    pub under_way : Option (Request Q P)
    pub refused : Option P
    pub astray : List (ℕ × P)
    pub rest : List ℕ
    pub unwritten : List ℕ
    pub spoken : IsSpoken asks replies lines under_way astray
    pub kept : IsKept lines under_way refused astray client
    pub carried : IsCarried lines under_way refused rest unwritten client

  -- what is so of a connection stays so, but that it has asked this
  abbrev pub Keeps : List (ℕ × Q) → ClientView Q P → ClientView Q P → Type 0
  Keeps new before after = (asks : List (ℕ × Q)) (replies : List (ℕ × P))
      → IsTalk asks replies before → IsTalk (asks ++ new) replies after

  -- or that it was replied this, and has asked that
  abbrev pub Hears : ℕ × P → List (ℕ × Q) → ClientView Q P → ClientView Q P → Type 0
  Hears reply new before after = (asks : List (ℕ × Q)) (replies : List (ℕ × P))
      → IsTalk asks replies before → IsTalk (asks ++ new) (replies ++ reply ∷ []) after
