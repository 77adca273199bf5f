use Rattle.mely_check.proofs.ReadingLemmas.{prefix_cases}
use Rattle.mely_check.proofs.reading.behind.Goals as goal

pub returns : goal.returns
returns c = prefix_cases (λ x. x.now) c.args.text.now c.args.word.now c.strip_prefix.result c.strip_prefix.ensures.cases
