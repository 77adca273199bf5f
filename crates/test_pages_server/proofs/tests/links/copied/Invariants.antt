use Rattle.std.proofs.Common.{length}
use Rattle.test_pages_server.proofs.tests.links.copied.Given as goal

abbrev pub decreases-loop-count : goal.decreases-loop-count
decreases-loop-count l = length l.source
