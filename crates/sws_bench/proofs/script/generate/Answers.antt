use Rattle.std.proofs.Common.{◌≡◌, ◌+◌, ◌++◌, ℕ, [], ◌∷◌, map, length, sym, ap, ◌∙◌, arith, add-one}
use Rattle.std.specs.Prelude.{sum}
use Rattle.std.specs.List.{range_with_len}
use Rattle.sws_script.specs.declared.input.ScriptConn.{ScriptConn}
use Rattle.sws_bench.specs.BenchScript.{bytes_from, behind_conn, conn_from, conn_state, bench_conns}
use Rattle.sws_bench.proofs.ListLemmas.{map_more, sum_more}
use Rattle.sws_bench.proofs.ConnLemmas.{length-bytes_from}
use Rattle.sws_bench.proofs.OutcomeLemmas.{bench_bytes-sum}
use Rattle.sws_bench.proofs.script.generate.Goals as goal

pub connections-preserved : goal.connections-preserved
connections-preserved c =
    let number = c.args.number in
    let count = c.connections.counter in
    let before = c.connections.invariant in
    record {
      state = c.in_ok-conn.ensures.state ∙ ap behind_conn before.state ∙ ap (conn_state number) (sym (add-one count));
      conns = map_more (λ (conn : ℕ). conn_from (conn_state number conn)) count _ _ before.conns
          (c.in_ok-push.ensures.items ∙ ap (λ (made : ScriptConn). c.connections.conns.items ++ made ∷ []) (c.in_ok-conn.ensures.conn ∙ ap conn_from before.state));
    }

pub returns : goal.returns
unfolding bench_conns
returns c =
    let all : c.connections.counter ≡ c.args.connections = omega arith in
    c.connections.invariant.conns ∙ ap (λ (n : ℕ). map (λ (conn : ℕ). conn_from (conn_state c.args.number conn)) (range_with_len 0 n)) all
