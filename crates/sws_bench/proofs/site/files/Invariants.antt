use Rattle.std.proofs.Common.{◌≡◌, map}
use Rattle.std.specs.List.{range_with_len}
use Rattle.sws_link.specs.FolderFiles.{files_of}
use Rattle.sws_bench.specs.BenchSite.{file}
use Rattle.sws_bench.proofs.site.files.Given as goal

abbrev pub invariant-loop-number : goal.invariant-loop-number
invariant-loop-number l = files_of l.files.items ≡ map file (range_with_len 0 l.number)
