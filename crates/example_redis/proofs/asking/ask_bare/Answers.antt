use Rattle.std.proofs.Common.{◌∙◌}
use Rattle.example_redis.proofs.AskingLemmas.{none_of_none}
use Rattle.example_redis.proofs.asking.ask_bare.Goals as goal

pub returns-in_default : goal.returns-in_default
returns-in_default c = let no = c.in_default in c.wrong.ensures ∙ none_of_none c.args.verb no.not-Ping no.not-Command no.not-Quit no.not-ShutDown no.not-Info
