use Rattle.std.proofs.Common.{◌∙◌, arith, drop, sym}
use Rattle.example_redis.specs.Globs.{matches}
use Rattle.example_redis.specs.Globbing.{parts_at}
use Rattle.example_redis.proofs.GlobLemmas.{first_of, star_is_all, stuck_here}
use Rattle.example_redis.proofs.glob.is_match.Goals as goal

pub returns-in-Whole-run : goal.returns-in-Whole-run
returns-in-Whole-run c = sym (c.starts.invariant.is ∙ first_of (matches (parts_at c.args.parts.now c.starts.from.part)) (drop c.starts.from.byte c.args.key.now) c.in-Whole-run.ensures)

pub starts-preserved-in-Starred-run : goal.starts-preserved-in-Starred-run
starts-preserved-in-Starred-run c = record {
  part = c.in-Starred-run.ensures.part;
  byte = c.in-Starred-run.ensures.byte;
  is = c.starts.invariant.is ∙ star_is_all _ _ _ _ c.in-Starred-run.ensures.leads;
}

pub starts-preserved : goal.starts-preserved
starts-preserved c = record {
  part = c.starts.invariant.part;
  byte = omega (arith, c.if-from-key.true);
  is = c.starts.invariant.is ∙ stuck_here (matches (parts_at c.args.parts.now c.starts.from.part)) c.args.key.now c.starts.from.byte (omega (arith, c.if-from-key.true)) c.in-Stuck-run.ensures;
}
