-- What a run of `bench N NUMBER ..` did.
use Rattle.std.specs.Prelude.{◌≡◌, ℕ, Option}
use Rattle.sws_bench.specs.BenchSummary.{bench_summary}
use Rattle.sws_link.specs.declared.Sink.{Ghosts as SinkWords}
use Rattle.sws_top.specs.declared.faults.TopFault.{TopFault}
use Rattle.sws_top.specs.Texts.{WritesText}

-- the generated script was run on the generated site, and its summary written
abbrev pub RanBench : {O : Type 0} → SinkWords O → O → O → Option TopFault
    → (connections number : ℕ) → Type 0
RanBench o out now fault connections number =
    WritesText o out now fault (λ text. text ≡ bench_summary number connections)
