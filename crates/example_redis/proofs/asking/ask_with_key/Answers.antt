use Rattle.std.proofs.Common.{◌∙◌}
use Rattle.example_redis.proofs.AskingLemmas.{none_of_one}
use Rattle.example_redis.proofs.asking.ask_with_key.Goals as goal

pub returns-in_default : goal.returns-in_default
returns-in_default c = let no = c.in_default in c.wrong.ensures ∙ none_of_one c.args.verb c.args.key.items no.not-Ping no.not-Echo no.not-Get no.not-Exists no.not-StrLen no.not-Ttl no.not-PTtl no.not-Persist no.not-Del no.not-Incr no.not-Decr no.not-Command no.not-Quit no.not-ShutDown no.not-Info
