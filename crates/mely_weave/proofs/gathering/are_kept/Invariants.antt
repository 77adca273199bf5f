use Rattle.std.proofs.Common.{◌≡◌, ◌<◌, ℕ, Some}
use Rattle.std.specs.Prelude.{slice_get}
use Rattle.mely_shard.specs.Shard.{ShardState, IsConsistent}
use Rattle.mely_weave.proofs.gathering.are_kept.Given as goal

abbrev pub invariant-loop-shard : goal.invariant-loop-shard
invariant-loop-shard g l = (number : ℕ) (has : ShardState g.row.S.Denot g.row.P.Denot) → number < l.shard-index → slice_get l.shards number ≡ Some has → IsConsistent g.S.Trail g.S.Fits.fits_under has
