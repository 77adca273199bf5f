-- What a frame says, as contracts see it.
use Rattle.std.specs.Prelude.{map}
use Rattle.example_redis.specs.Frames.{Saying, Says, Errs, Stops}
use Rattle.example_redis.specs.declared.heard.Heard.{Heard}
use Rattle.example_redis.specs.declared.heard.Heard.TheVariants as heard

-- what was heard of a frame: its words, a fault, or nothing
abbrev pub said_by : Heard → Saying
said_by (heard.Words words) = Says (map (λ word. word.items) words.items)
said_by (heard.Fault fault) = Errs fault
said_by heard.Nothing = Stops
