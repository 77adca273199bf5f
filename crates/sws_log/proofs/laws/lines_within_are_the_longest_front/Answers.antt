use Rattle.sws_log.proofs.WithinLemmas.{are_in_front, sum_to_no_more, are_the_longest}
use Rattle.sws_log.proofs.laws.lines_within_are_the_longest_front.Goals as goal

pub returns-clause-front : goal.returns-clause-front
returns-clause-front c = are_in_front

pub returns-clause-within : goal.returns-clause-within
returns-clause-within c = sum_to_no_more

pub returns-clause-longest : goal.returns-clause-longest
returns-clause-longest c = are_the_longest
