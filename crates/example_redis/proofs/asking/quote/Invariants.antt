use Rattle.std.proofs.Common.{◌≡◌, ◌++◌, ◌∷◌, [], map, take}
use Rattle.example_redis.specs.Replies.{shown_byte}
use Rattle.example_redis.proofs.asking.quote.Given as goal

abbrev pub invariant-loop-byte : goal.invariant-loop-byte
invariant-loop-byte l = l.text.items ≡ (l.fn.text.items ++ 39 ∷ []) ++ map shown_byte (take l.byte-index l.word)
