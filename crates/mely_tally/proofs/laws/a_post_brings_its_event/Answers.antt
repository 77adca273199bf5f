use Rattle.mely_tally.proofs.PostTalliesLemmas.{post_tells}
use Rattle.mely_tally.proofs.laws.a_post_brings_its_event.Goals as goal

pub returns : goal.returns
returns g c = λ colour event load answer before after call. post_tells g.S.Trail before after colour event load answer call.posts
