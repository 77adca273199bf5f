-- What the fields of a socket in memory stand for.
use Rattle.std.specs.Prelude.{◌≡◌, ◌≤◌, false, ◌++◌, length, take, drop}
use Rattle.sws_net.specs.declared.mem_socket.MemSocket.TheInside.{Inside}
use Rattle.sws_net.specs.Invariant.{kept_limit}
use Rattle.sws_net.specs.MemSocket.{MemSocketState}

-- what was sent before the end, and with it
abbrev pub shown_mem_socket : Inside → MemSocketState
shown_mem_socket socket = record {
  tells = record {
    taken = take socket.taken socket.input.items;
    left = drop socket.taken socket.input.items;
    sent = socket.sent.items ++ take socket.last_len socket.last;
  };
  is_shut = socket.is_shut;
}

-- no more was taken than there is, and nothing went with an end that hasn't come
pub record IsMemSocket (socket : Inside) : Type 0 where
  pub taken : socket.taken ≤ length socket.input.items
  pub last : socket.last_len ≤ kept_limit
  pub no_last_yet : socket.is_shut ≡ false → socket.last_len ≡ 0
