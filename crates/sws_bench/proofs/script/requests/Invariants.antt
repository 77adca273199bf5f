use Rattle.std.proofs.Common.{◌≡◌}
use Rattle.std.specs.List.{flat_map}
use Rattle.sws_bench.specs.Draws.{behind, draws_from}
use Rattle.sws_bench.specs.BenchScript.{request}
use Rattle.sws_bench.proofs.script.requests.Given as goal

abbrev pub invariant-requests : goal.invariant-requests
invariant-requests l = record {
  bytes : l.bytes.items ≡ flat_map request (draws_from l.initial.draws.state l.counter);
  state : l.draws.state ≡ behind l.initial.draws.state l.counter;
}
