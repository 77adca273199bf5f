use Rattle.std.proofs.Common.{false, List, [], sym, subst}
use Rattle.sws_script.specs.declared.input.ScriptConn.{ScriptConn}
use Rattle.sws_script.specs.Inputs.{IsInput}
use Rattle.sws_bench.proofs.InputLemmas.{bench_conns_are_an_input}
use Rattle.sws_bench.proofs.script.bench_script.Goals as goal

pub returns-clause-input : goal.returns-clause-input
returns-clause-input c = λ cores.
    let P : List ScriptConn → Type 0 = λ conns. IsInput false cores (record { steps = []; conns = conns }) in
    subst P (sym c.in_ok-conns.ensures) (bench_conns_are_an_input c.args.number c.args.connections cores)
