use Rattle.std.proofs.Common.{length, ap, sym, subst, ◌++◌, ◌-◌, List, ℕ, arith, ◌≤◌}
use Rattle.sws_link.specs.declared.LinkWrite.TheVariants as write
use Rattle.sws_link.specs.Links.{LinkPuts}
use Rattle.sws_net.specs.Sockets.{Sends, link_tells}
use Rattle.sws_net.proofs.SocketLemmas.{sent_with}
use Rattle.sws_net.proofs.kept_link.send_behind.Goals as goal

pub returns-then-count-len-clause-puts : goal.returns-then-count-len-clause-puts
returns-then-count-len-clause-puts g c =
    let before = g.S.Socket.tells c.args.socket.now in
    let now = g.S.Socket.tells c.send.new.self in
    let count = c.in-Wrote.count in
    let piece = c.args.piece.now in
    let many : length c.args.kept.now ≤ count = omega (arith, ap length c.bytes-len.ensures.all) in
    let sends = subst (λ (kept : List ℕ). Sends before now (write.Wrote count) (kept ++ piece)) c.bytes.ensures.all c.in-Wrote.ensures.bytes in
    subst (λ (kept : List ℕ). LinkPuts (link_tells before c.args.kept.now) (link_tells now c.clear.new.self) (write.Wrote (count - length kept)) piece)
    (sym c.bytes-len.ensures.all)
    (sent_with before now c.args.kept.now c.clear.new.self piece count many c.clear.ensures sends)
