use Rattle.example_redis.proofs.FrameLemmas.{cut_begins}
use Rattle.example_redis.specs.declared.frame.Place.TheVariants.{Start}
use Rattle.example_redis.proofs.frame.cut.Goals as goal

pub loop-i-init : goal.loop-i-init
loop-i-init c = cut_begins c.args.bytes.now Start
