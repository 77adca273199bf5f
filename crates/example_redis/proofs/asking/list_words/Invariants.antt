use Rattle.std.proofs.Common.{◌≡◌, [], map, take}
use Rattle.std.specs.List.{fold}
use Rattle.example_redis.specs.Asking.{with_word_of}
use Rattle.example_redis.proofs.asking.list_words.Given as goal

abbrev pub invariant-loop-word : goal.invariant-loop-word
invariant-loop-word l = l.text.items ≡ fold with_word_of [] (map (λ word. word.items) (take l.word-index l.words))
