use Rattle.std.proofs.Common.{◌∙◌}
use Rattle.example_redis.specs.Verbs.{verbs}
use Rattle.example_redis.specs.declared.verb.Verb.TheVariants as verb
use Rattle.example_redis.proofs.VerbLemmas.{verb_passed}
use Rattle.example_redis.proofs.verb.Verb.named.Goals as goal

pub loop-verb-preserved : goal.loop-verb-preserved
loop-verb-preserved c = c.loop-verb.invariant ∙ verb_passed c.args.name.now verbs c.loop-verb.verb-index verb.Ping _ _ c.loop-verb-test.true c.name.ensures c.is_same_word.ensures c.if-is_same_word.false
