-- What a contract sees of a socket in memory.
use Rattle.std.specs.Prelude.{Bool}
use Rattle.sws_net.specs.Sockets.{SocketContents}

-- what it carried, and whether it was ended
pub record MemSocketState : Type 0 where
  pub tells : SocketContents
  pub is_shut : Bool
