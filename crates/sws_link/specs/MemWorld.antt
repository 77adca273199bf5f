-- What a contract sees of a world in memory.
use Rattle.sws_link.specs.Calls.{CallsState}
use Rattle.sws_link.specs.MemLink.{MemLinkState}
use Rattle.sws_link.specs.Lobby.{LobbyState}

-- a world with calls that fail; the failed calls are its faults
pub record MemWorldState : Type 0 where
  pub lobby : LobbyState MemLinkState
  pub calls : CallsState
