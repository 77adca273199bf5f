-- What a run of a service has come to.
use Rattle.std.specs.Prelude.{◌≡◌, ◌≢◌, ◌<◌, ◌+◌, ◌⊎◌, ℕ, List, [], Option, Some, length, slice_get}
use Rattle.std.specs.List.{AllByRecursion}
use Rattle.sws_link.specs.Links.{LinkContents}
use Rattle.sws_link.specs.declared.Link.{Ghosts as LinkWords}
use Rattle.mely_net.specs.declared.client.Client.{Client}
use Rattle.mely_net.specs.declared.desk.Desk.{Desk}
use Rattle.mely_net.specs.declared.end.End.TheVariants as ends
use Rattle.mely_net.specs.declared.part.Part.{Part}
use Rattle.mely_net.specs.declared.part.Part.TheVariants as part
use Rattle.mely_net.specs.Exchanges.{Exchange, IsHistory, exchanges_with}
use Rattle.mely_net.specs.Lines.{EndAtLast, IsFramed, IsLine, Line, exchanges_in}
use Rattle.mely_net.specs.Rules.{Rules}
use Rattle.mely_net.specs.Talks.{told_by}

-- A connection has answered these lines: each frame asks what its line says, and is replied what
-- that says; over a link that tells, they are the first frames of what was taken, and their replies
-- what was written; and no reply went astray.
pub record IsAnswered {Q P C L : Type 0} (rules : Rules Q P C) (l : LinkWords L)
    (client : Client L Q P l) (lines : List (Line Q P)) : Type 0 where
  pub lines_are : AllByRecursion (IsLine rules) lines
  pub end_at_last : EndAtLast lines
  pub in_turn : client.end ≢ Some ends.Astray
  pub framed : (told : LinkContents) → told_by l.tells client.link ≡ Some told
      → IsFramed rules told lines client.outbox client.end

-- There is a value for the desk, each cell and each connection. Each cell has one sequential
-- history of exchanges, from a value with which it may begin to the one that is there. Each
-- connection has answered lines, some of them by an exchange with a cell, or by one with each of
-- several. And both sides know the same exchanges: those of a connection with a cell are, in order,
-- those of the cell with the connection. So each request of a connection has one place in the
-- history of the cell that was asked, behind those that the connection had asked of it before, and
-- what the connection showed is the reply of that place, or has it as a part.
pub record HasServedFrom {Q P C W L : Type 0} (rules : Rules Q P C) (l : LinkWords L)
    (Begins : ℕ → C → Type 0) (clients : ℕ) (parts : List (Part C W L Q P l)) : Type 0 where
  pub many : length parts ≡ rules.cells + clients + 1
  pub desk : Desk W
  pub asking : slice_get parts 0 ≡ Some (part.Desk desk)
  pub histories : ℕ → List (Exchange Q P)
  pub sequential : (cell : ℕ) → cell < rules.cells → (value : C)
      × (slice_get parts (cell + 1) ≡ Some (part.Cell value))
      × IsHistory rules cell (Begins cell) (histories cell) value
  pub asked_by : (cell : ℕ) → cell < rules.cells
      → AllByRecursion (λ one. one.peer < clients) (histories cell)
  pub lines : ℕ → List (Line Q P)
  pub answered : (client : ℕ) → client < clients → (value : Client L Q P l)
      × (slice_get parts (client + rules.cells + 1) ≡ Some (part.Client value))
      × IsAnswered rules l value (lines client)
  pub asked_of : (client : ℕ) → client < clients
      → AllByRecursion (λ one. one.peer < rules.cells) (exchanges_in (lines client))
  pub same : (client cell : ℕ) → client < clients → cell < rules.cells
      → exchanges_with cell (exchanges_in (lines client))
      ≡ exchanges_with client (histories cell)

-- the same of a run whose cells begin as the service says
abbrev pub HasServed : {Q P C W L : Type 0} → Rules Q P C → (l : LinkWords L) → ℕ
    → List (Part C W L Q P l) → Type 0
HasServed rules l clients parts = HasServedFrom rules l rules.Begins clients parts

-- What is left of a run for which there was no memory: nothing, or for each colour what it has, but
-- for those on which memory was wanted. A cell that is there went step by step along a sequential
-- history, from a value with which it may begin to the one that it has.
pub record HasHalted {Q P C W L : Type 0} (rules : Rules Q P C) (l : LinkWords L)
    (Begins : ℕ → C → Type 0) (clients : ℕ) (parts : List (Option (Part C W L Q P l)))
    : Type 0 where
  pub many : (parts ≡ []) ⊎ (length parts ≡ rules.cells + clients + 1)
  pub sequential : (cell : ℕ) (one : Part C W L Q P l) → cell < rules.cells
      → slice_get parts (cell + 1) ≡ Some (Some one) → (value : C) × (one ≡ part.Cell value)
      × (history : List (Exchange Q P)) × IsHistory rules cell (Begins cell) history value
