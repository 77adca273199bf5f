use Rattle.std.proofs.Common.{◌≡◌, ◌≢◌, ℕ, List, subst, sym, ◌∙◌}
use Rattle.std.specs.List.{AllByRecursion}
use Rattle.sws_steps.specs.declared.End.{End}
use Rattle.sws_steps.specs.declared.End.TheVariants.{Memory}
use Rattle.sws_bench.specs.BenchSummary.{bench_summary}
use Rattle.sws_bench.proofs.SummaryLemmas.{bench_ends-fine}
use Rattle.sws_bench.proofs.WriteLemmas.{nothing_written}
use Rattle.sws_bench.proofs.benching.bench.Goals as goal

pub returns-in_default-clause-writes : goal.returns-in_default-clause-writes
returns-in_default-clause-writes g c = nothing_written (Unit {0}) (λ (text : List ℕ). text ≡ bench_summary c.args.number c.args.connections) (g.O.Sink.written c.args.out.now)

pub write_summary-requires : goal.write_summary-requires
write_summary-requires g c =
    subst (λ (ends : List End). AllByRecursion (λ end. end ≢ Memory) ends) (sym (c.deref.ensures.value ∙ c.in-Ok.ensures.ends)) (bench_ends-fine c.args.number c.args.connections)
