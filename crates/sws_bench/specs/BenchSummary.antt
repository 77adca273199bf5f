-- What a bench writes. No worker, event or order occurs in it.
use Rattle.std.specs.Prelude.{ℕ, List, length, map, sum}
use Rattle.sws_steps.specs.declared.End.{End}
use Rattle.sws_report.specs.Summary.{summary}
use Rattle.sws_replay.specs.Expected.{by_http}
use Rattle.sws_replay.specs.Transcripts.{alone}
use Rattle.sws_bench.specs.BenchSite.{bench_site}
use Rattle.sws_bench.specs.BenchScript.{bench_conns, bench_bytes}

-- how each connection ends that is served alone
unfoldable pub bench_ends : ℕ → ℕ → List End
bench_ends number count =
    map (λ conn. (alone (by_http bench_site) conn).end) (bench_conns number count)

-- how many bytes are written to them in all
unfoldable pub bench_written : ℕ → ℕ → ℕ
bench_written number count =
    sum (map (λ conn. length (alone (by_http bench_site) conn).bytes) (bench_conns number count))

-- the summary: all bytes that they send are read
abbrev pub bench_summary : ℕ → ℕ → List ℕ
bench_summary number count =
    summary (bench_ends number count) (bench_bytes number count) (bench_written number count)
