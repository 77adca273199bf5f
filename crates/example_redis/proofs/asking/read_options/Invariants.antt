use Rattle.std.proofs.Common.{◌≡◌, drop, map}
use Rattle.example_redis.specs.Asking.{no_options, options_from}
use Rattle.example_redis.proofs.asking.read_options.Given as goal

abbrev pub invariant-loop-word : goal.invariant-loop-word
invariant-loop-word l = options_from no_options (map (λ word. word.items) l.words)
    ≡ options_from l.options (map (λ word. word.items) (drop l.word-index l.words))
