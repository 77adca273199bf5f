use Rattle.std.proofs.Common.{◌+◌, ◌%◌, List, ℕ, sym, ap, ◌∙◌, length}
use Rattle.sws_bench.specs.BenchScript.{pieces, sends}
use Rattle.sws_bench.proofs.ConnLemmas.{bytes_made, state_made, conn_made}
use Rattle.sws_bench.proofs.script.conn.Goals as goal

pub returns-clause-conn : goal.returns-clause-conn
returns-clause-conn c =
    conn_made c.args.draws.now.state c.next.new.self.state c.next.result c.requests.new.draws.state c.next-2.result c.in_ok-bytes.bytes.items _
    c.next.ensures.state c.next.ensures.value c.in_ok-bytes.ensures.bytes c.in_ok-bytes.ensures.state c.next-2.ensures.value
    (c.new.ensures ∙ c.in_ok-items.ensures ∙ ap (λ (b : List ℕ). sends (pieces (1 + c.next-2.result % 64) b)) c.deref.ensures.value)

pub returns-clause-state : goal.returns-clause-state
returns-clause-state c =
    state_made c.args.draws.now.state c.next.new.self.state c.next.result c.requests.new.draws.state _ c.next.ensures.state c.next.ensures.value c.in_ok-bytes.ensures.state c.next-2.ensures.state
