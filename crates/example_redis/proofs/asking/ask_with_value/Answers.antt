use Rattle.std.proofs.Common.{◌∙◌}
use Rattle.example_redis.proofs.AskingLemmas.{none_of_two}
use Rattle.example_redis.proofs.asking.ask_with_value.Goals as goal

pub returns-in_default : goal.returns-in_default
returns-in_default c = let no = c.in_default in c.wrong.ensures ∙ none_of_two c.args.verb c.args.key.items c.args.value.items no.not-Set no.not-SetNx no.not-GetSet no.not-IncrBy no.not-DecrBy no.not-Append no.not-Expire no.not-PExpire no.not-ExpireAt no.not-PExpireAt no.not-ShutDown no.not-Command no.not-Quit
