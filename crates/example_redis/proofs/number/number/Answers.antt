use Rattle.example_redis.proofs.NumberLemmas.{no_text, not_read}
use Rattle.example_redis.proofs.number.number.Goals as goal

pub returns-in_default : goal.returns-in_default
returns-in_default c = no_text c.args.text.now c.in_default.ensures.cases.0

pub returns-in_default-parse : goal.returns-in_default-parse
returns-in_default-parse c = not_read c.args.text.now c.in-Ok.word.now c.parse.result c.in_default-parse.field-0 c.in-Ok.ensures.cases.0 c.in_default-parse.is c.parse.ensures.value.0
