use Rattle.example_redis.proofs.AskingLemmas.{other_each}
use Rattle.example_redis.proofs.several.action_of.Goals as goal

pub returns-in_default : goal.returns-in_default
returns-in_default c = other_each c.args.verb c.in_default.not-Del c.in_default.not-Exists
