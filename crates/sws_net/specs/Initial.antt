-- The initial state of a link: as it was just accepted.
use Rattle.std.specs.Prelude.{◌≡◌, true, is_some, ⊤}
use Rattle.sws_net.specs.declared.tcp_socket.TcpSocket.{TcpSocket}
use Rattle.sws_net.specs.declared.tcp_link.TcpLink.{TcpLink}
use Rattle.sws_net.specs.declared.server.Came.{Came}
use Rattle.sws_net.specs.declared.server.Came.TheVariants as came

-- the connection wasn't ended
abbrev pub IsOpenSocket : TcpSocket → Type 0
IsOpenSocket socket = is_some socket.open ≡ true

-- the link isn't shut
abbrev pub IsOpen : TcpLink → Type 0
IsOpen link = IsOpenSocket link.kept.value.socket

-- it isn't shut, and its counts begin
pub record IsInitialTcpLink (link : TcpLink) : Type 0 where
  pub there : IsOpen link
  pub no_faults_yet : link.kept.value.faults ≡ 0
  pub no_waits_yet : link.kept.value.waits ≡ 0

-- the link that came, if one did, is an initial one
abbrev pub IsInitialIfCame : Came → Type 0
IsInitialIfCame (came.Link link) = IsInitialTcpLink link
IsInitialIfCame came.NotYet = ⊤
IsInitialIfCame came.Failed = ⊤
