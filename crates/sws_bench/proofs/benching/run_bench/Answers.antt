use Rattle.std.proofs.Common.{Result, Ok, Err, ◌∙◌, arith}
use Rattle.std.specs.Prelude.{IfOk}
use Rattle.sws_bench.proofs.ReadLemmas.{bench_read_is}
use Rattle.sws_bench.proofs.SummaryLemmas.{many, in_range, of_input, bench_ended, bench_fits, bench_read_fits, bench_ends_are, bench_written_is}
use Rattle.sws_bench.proofs.benching.run_bench.Goals as goal

pub run_script-requires-clause-shape : goal.run_script-requires-clause-shape
run_script-requires-clause-shape g c =
    λ _ _. in_range c.args.shape.now c.args.number c.args.connections c.deref.result.now (c.deref.ensures.value ∙ c.in_ok-conns.ensures) c.requires.shape

pub run_script-requires-clause-few : goal.run_script-requires-clause-few
run_script-requires-clause-few g c =
    let long = many c.args.number c.args.connections c.deref.result.now (c.deref.ensures.value ∙ c.in_ok-conns.ensures) in
    omega arith

pub run_script-requires-clause-conns : goal.run_script-requires-clause-conns
run_script-requires-clause-conns g c = λ _ _. of_input c.args.number c.args.connections c.deref.result.now (c.deref.ensures.value ∙ c.in_ok-conns.ensures)

pub tally_of-requires-clause-ended : goal.tally_of-requires-clause-ended
tally_of-requires-clause-ended g c =
    bench_ended c.args.number c.args.connections c.in_ok-site.site c.deref.result.now c.in-Ok.ended c.deref-in-Ok.result.now
    c.in_ok-site.ensures (c.deref.ensures.value ∙ c.in_ok-conns.ensures) c.in-Ok.ensures.ran.serves c.deref-in-Ok.ensures.value

pub tally_of-requires-clause-few_read : goal.tally_of-requires-clause-few_read
tally_of-requires-clause-few_read g c =
    bench_read_fits c.args.number c.args.connections c.in_ok-site.site c.deref.result.now c.in-Ok.ended c.deref-in-Ok.result.now
    c.in_ok-site.ensures (c.deref.ensures.value ∙ c.in_ok-conns.ensures) c.in-Ok.ensures.ran.serves c.deref-in-Ok.ensures.value c.requires.few

pub tally_of-requires-clause-few_written : goal.tally_of-requires-clause-few_written
tally_of-requires-clause-few_written g c =
    bench_fits c.args.number c.args.connections c.in_ok-site.site c.deref.result.now c.in-Ok.ended c.deref-in-Ok.result.now
    c.in_ok-site.ensures (c.deref.ensures.value ∙ c.in_ok-conns.ensures) c.in-Ok.ensures.ran.serves c.deref-in-Ok.ensures.value c.requires.few

-- a fact of what is Ok follows from another
then : {A E : Type 0} (P Q : A → Type 0) (r : Result A E) → ((a : A) → P a → Q a) → IfOk r P → IfOk r Q
then P Q (Ok a) step holds = step a holds
then P Q (Err e) step holds = tt

pub returns-in-Ok-clause-ends : goal.returns-in-Ok-clause-ends
returns-in-Ok-clause-ends g c =
    then _ _ c.tally_of.result
    (λ tally same. bench_ends_are c.args.number c.args.connections c.in_ok-site.site c.deref.result.now c.in-Ok.ended c.deref-in-Ok.result.now
    c.in_ok-site.ensures (c.deref.ensures.value ∙ c.in_ok-conns.ensures) c.in-Ok.ensures.ran.serves c.deref-in-Ok.ensures.value tally.ends.items same)
    c.tally_of.ensures.ends

pub returns-in-Ok-clause-read : goal.returns-in-Ok-clause-read
returns-in-Ok-clause-read g c =
    then _ _ c.tally_of.result
    (λ tally same. bench_read_is c.args.number c.args.connections c.in_ok-site.site c.deref.result.now c.in-Ok.ended c.deref-in-Ok.result.now
    c.in_ok-site.ensures (c.deref.ensures.value ∙ c.in_ok-conns.ensures) c.in-Ok.ensures.ran.serves c.deref-in-Ok.ensures.value tally.read same)
    c.tally_of.ensures.read

pub returns-in-Ok-clause-written : goal.returns-in-Ok-clause-written
returns-in-Ok-clause-written g c =
    then _ _ c.tally_of.result
    (λ tally same. bench_written_is c.args.number c.args.connections c.in_ok-site.site c.deref.result.now c.in-Ok.ended c.deref-in-Ok.result.now
    c.in_ok-site.ensures (c.deref.ensures.value ∙ c.in_ok-conns.ensures) c.in-Ok.ensures.ran.serves c.deref-in-Ok.ensures.value tally.written same)
    c.tally_of.ensures.written
