use Rattle.sws_words.proofs.NumberLemmas.{not_parsed, is_within, too_small, too_great}
use Rattle.std.proofs.Common.{rules}
use Rattle.sws_words.proofs.numbers.number_within.Goals as goal

pub returns-in_default-clause-exact : goal.returns-in_default-clause-exact
returns-in_default-clause-exact c = not_parsed c.args.least c.args.most c.args.word.now (search rules) c.in_default.ensures.value.0

pub returns-clause-exact : goal.returns-clause-exact
returns-clause-exact c = is_within c.args.least c.args.most c.args.word.now c.in-Ok.number c.in-Ok.ensures.value.0 (search rules) (search rules)

pub returns-then-number-least-clause-exact : goal.returns-then-number-least-clause-exact
returns-then-number-least-clause-exact c = too_small c.args.least c.args.most c.args.word.now c.in-Ok.number c.in-Ok.ensures.value.0 (search rules)

pub returns-then-number-most-clause-exact : goal.returns-then-number-most-clause-exact
returns-then-number-most-clause-exact c = too_great c.args.least c.args.most c.args.word.now c.in-Ok.number c.in-Ok.ensures.value.0 (search rules)
