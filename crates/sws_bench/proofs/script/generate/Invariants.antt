use Rattle.std.proofs.Common.{◌≡◌, ◌*◌, ◌≤◌, length, map}
use Rattle.std.specs.Prelude.{sum}
use Rattle.std.specs.List.{range_with_len}
use Rattle.sws_bench.specs.BenchScript.{bytes_from, conn_from, conn_state}
use Rattle.sws_bench.proofs.script.generate.Given as goal

abbrev pub invariant-connections : goal.invariant-connections
invariant-connections l = record {
  state : l.draws.state ≡ conn_state l.number l.counter;
  conns : l.conns.items ≡ map (λ conn. conn_from (conn_state l.number conn)) (range_with_len 0 l.counter);
}
