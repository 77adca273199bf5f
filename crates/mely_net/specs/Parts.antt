-- What the desk, a cell and a connection keep over the messages that they got and sent.
use Rattle.std.specs.Prelude.{◌≡◌, ◌<◌, ◌≤◌, ◌+◌, ◌-◌, ℕ, Bool, true, false, List, Some, [], ◌∷◌, ◌++◌, length, map, slice_get}
use Rattle.std.specs.List.{AllByRecursion}
use Rattle.mely_event.specs.declared.colour.Colour.{Colour}
use Rattle.sws_link.specs.declared.Link.{Ghosts as LinkWords}
use Rattle.mely_net.specs.declared.client.Client.{Client}
use Rattle.mely_net.specs.declared.message.Message.{Message}
use Rattle.mely_net.specs.declared.message.Message.TheVariants.{Poll, Accept, Wait, Open, Wake, Leave, Ask, Reply}
use Rattle.mely_net.specs.declared.part.Part.{Part}
use Rattle.mely_net.specs.declared.part.Part.TheVariants as part
use Rattle.mely_net.specs.Exchanges.{Exchange, Steps}
use Rattle.mely_net.specs.Messages.{IsSigned, replies_in, replies_sent, requests_in, requests_sent}
use Rattle.mely_net.specs.Rules.{Rules}
use Rattle.mely_net.specs.Clients.{shown_client, to_come}
use Rattle.mely_net.specs.Talks.{ClientView, IsTalk, requests_of, replies_of}

-- a message is for a connection: it isn't for the desk or a cell
abbrev pub is_own : {W L Q P : Type 0} → Message W L Q P → Bool
is_own (Poll held) = false
is_own (Accept held) = false
is_own (Wait client) = false
is_own (Open link) = true
is_own Wake = true
is_own Leave = true
is_own (Ask client request) = false
is_own (Reply cell reply) = true

-- what is so of a connection stays so, but that it got the reply of a message, where that has one,
-- and then has asked this
abbrev pub Gets : {Q P C W L : Type 0} → Rules Q P C → Message W L Q P → List (ℕ × Q)
    → ClientView Q P → ClientView Q P → Type 0
Gets {Q} {P} rules message new before after = (asks : List (ℕ × Q)) (replies : List (ℕ × P))
    → IsTalk rules asks replies before
    → IsTalk rules (asks ++ new) (replies ++ replies_in (message ∷ [])) after

module _ {Q P C W L : Type 0} (rules : Rules Q P C) (l : LinkWords L) (colour : Colour)
    (received : List (Message W L Q P)) (sent : List (Colour × Message W L Q P)) where
  -- the cell was asked and replied along a history of it, from the first value to this one
  pub record IsCell (first value : C) : Type 0 where
    pub behind : 0 < colour.0
    pub there : colour.0 ≤ rules.cells
    pub history : List (Exchange Q P)
    pub asked : requests_in received ≡ requests_of history
    pub replied : replies_sent sent
        ≡ map (λ reply. (reply.0 + rules.cells + 1, reply.1)) (replies_of history)
    pub steps : Steps rules (colour.0 - 1) first history value

  -- the connection has asked and was replied
  pub record IsConnection (client : Client L Q P l) : Type 0 where
    pub behind : rules.cells < colour.0
    pub asks : List (ℕ × Q)
    pub asked : requests_sent sent ≡ map (λ ask. (ask.0 + 1, ask.1)) asks
    pub there : AllByRecursion (λ ask. ask.0 < rules.cells) asks
    pub talk : IsTalk rules asks (replies_in received) (shown_client client)

module _ {Q P C W L : Type 0} (rules : Rules Q P C) (l : LinkWords L) (Begins : ℕ → C → Type 0)
    (colour : Colour) (received : List (Message W L Q P))
    (sent : List (Colour × Message W L Q P)) where
  -- the same of a cell, from a value with which it may begin
  pub record HasBegun (value : C) : Type 0 where
    pub first : C
    pub begins : Begins (colour.0 - 1) first
    pub is : IsCell rules l colour received sent first value

  abbrev pub IsPart : Part C W L Q P l → Type 0
  IsPart (part.Desk desk) = colour.0 ≡ 0
  IsPart (part.Cell value) = HasBegun value
  IsPart (part.Client client) = IsConnection rules l colour received sent client

  -- what it has sent is signed, and it is what its messages made of it
  pub record KeepsPart (kept : Part C W L Q P l) : Type 0 where
    pub signed : AllByRecursion (λ send. IsSigned rules.cells colour send.1) sent
    pub is : IsPart kept

-- what a run begins with: the desk, these cells, and connections that are still to come
abbrev pub IsFresh : {C W L Q P : Type 0} {l : LinkWords L} → List C → ℕ → Part C W L Q P l
    → Type 0
IsFresh cells number (part.Desk desk) = number ≡ 0
IsFresh cells number (part.Cell value) =
    (0 < number) × (slice_get cells (number - 1) ≡ Some value)
IsFresh cells number (part.Client client) =
    (length cells < number) × (shown_client client ≡ to_come)

abbrev pub AreFresh : {C W L Q P : Type 0} {l : LinkWords L} → List C
    → List (Part C W L Q P l) → Type 0
AreFresh {C} {W} {L} {Q} {P} {l} cells parts = (number : ℕ) (one : Part C W L Q P l)
    → slice_get parts number ≡ Some one → IsFresh cells number one
