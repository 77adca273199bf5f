use Rattle.std.proofs.Common.{arith}
use Rattle.std.proofs.lemmas.Grind.{common_steps}
use Rattle.sws_bench.specs.BenchSite.{file_name}
use Rattle.sws_bench.proofs.site.file_name.Goals as goal

pub returns : goal.returns
unfolding file_name
returns c = grind (arith, common_steps)
