use Rattle.std.proofs.Common.{◌≡◌, drop}
use Rattle.example_redis.specs.Verbs.{verb_among, verb_of, verbs}
use Rattle.example_redis.proofs.verb.Verb.named.Given as goal

abbrev pub invariant-loop-verb : goal.invariant-loop-verb
invariant-loop-verb l = verb_of l.name ≡ verb_among l.name (drop l.verb-index verbs)
