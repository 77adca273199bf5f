-- How many requests of a connection wait for a cell.
use Rattle.std.specs.Prelude.{◌==◌, ◌≤◌, ◌+◌, ℕ, List, Some, None, filter_map, if◌then◌else◌, length}
use Rattle.mely_event.specs.declared.colour.Colour.{Colour}
use Rattle.sws_link.specs.declared.Link.{Ghosts as LinkWords}
use Rattle.mely_net.specs.declared.client.Client.{Client}
use Rattle.mely_net.specs.declared.message.Message.{Message}
use Rattle.mely_net.specs.Messages.{replies_in, replies_sent, requests_in, requests_sent}
use Rattle.mely_net.specs.Parts.{IsCell, IsConnection}
use Rattle.mely_net.specs.Rules.{Rules}

-- how many have this number
abbrev pub count_with : {X : Type 0} → ℕ → List (ℕ × X) → ℕ
count_with peer ones =
    length (filter_map (λ one. if one.0 == peer then Some one.1 else None) ones)

-- what a colour has received and sent till now
pub record Mail (W L Q P : Type 0) : Type 0 where
  pub received : List (Message W L Q P)
  pub sent : List (Colour × Message W L Q P)

module _ {Q P C W L : Type 0} (rules : Rules Q P C) (l : LinkWords L) (client cell : ℕ) where
  -- a connection and a cell at some moment of a run: each is what its mail made of it, and the
  -- connection was replied no more by the cell than the cell has sent to it
  pub record AreAt (of_client of_cell : Mail W L Q P) (value : Client L Q P l) (kept : C)
      : Type 0 where
    pub connection : IsConnection rules l (record { 0 = client + rules.cells + 1 })
        of_client.received of_client.sent value
    pub first : C
    pub cell_is : IsCell rules l (record { 0 = cell + 1 }) of_cell.received of_cell.sent first kept
    pub replied : count_with cell (replies_in of_client.received)
        ≤ count_with (client + rules.cells + 1) (replies_sent of_cell.sent)

  -- the cell has received all requests that the connection has sent to it, but for one at most
  abbrev pub OneWaits : Mail W L Q P → Mail W L Q P → Type 0
  OneWaits of_client of_cell = count_with (cell + 1) (requests_sent of_client.sent)
      ≤ count_with client (requests_in of_cell.received) + 1
