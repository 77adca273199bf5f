use Rattle.std.proofs.Common.{◌≡◌, List, ℕ, subst, take, drop, ◌+◌, ◌++◌, Some}
use Rattle.sws_link.specs.declared.LinkRead.TheVariants as read
use Rattle.sws_net.specs.MemSocket.{MemSocketState}
use Rattle.sws_net.specs.Sockets.{ReceivesTold}
use Rattle.sws_net.proofs.SocketLemmas.{gives_next}
use Rattle.sws_net.proofs.mem_socket.MemSocketSocket.receive.Goals as goal

pub returns-clause-bytes : goal.returns-clause-bytes
returns-clause-bytes c =
    let inside = c.self.inside in
    let input = inside.input.items in
    let sent = inside.sent.items ++ take inside.last_len inside.last in
    let taken = inside.taken in
    let count = c.copy_behind-count.result in
    let into = c.copy_behind-count.new.into in
    let given = subst (λ (bytes : List ℕ). take count into ≡ take count (drop taken bytes)) c.deref.ensures.value c.copy_behind-count.ensures.copied in
    let P : MemSocketState → Type 0 =
    λ state. ReceivesTold state.tells (Some (record { taken = take (taken + count) input; left = drop (taken + count) input; sent = sent })) (read.Took count) into in
    subst P c.self.view_is (gives_next input sent into taken count given)
