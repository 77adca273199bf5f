use Rattle.std.proofs.Common.{◌≡◌, ℕ, map, arith, ap, ◌∙◌}
use Rattle.std.specs.List.{range_with_len}
use Rattle.sws_bench.specs.BenchSite.{bench_files, file}
use Rattle.sws_bench.proofs.ListLemmas.{map_more}
use Rattle.sws_bench.proofs.FileLemmas.{files_of-push}
use Rattle.sws_bench.proofs.site.files.Goals as goal

pub loop-number-preserved : goal.loop-number-preserved
loop-number-preserved c = map_more file c.loop-number.number _ _ c.loop-number.invariant
    (files_of-push c.loop-number.files.items _ c.in_ok-file_name.field-0 c.in_ok-contents.field-0 c.loop-number.number c.in_ok-push.ensures.items c.in_ok-file_name.ensures c.in_ok-contents.ensures)

pub returns : goal.returns
unfolding bench_files
returns c = let all : c.loop-number.number ≡ 16 = omega arith in c.loop-number.invariant ∙ ap (λ (n : ℕ). map file (range_with_len 0 n)) all
