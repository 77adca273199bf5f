use Rattle.mely_check.proofs.ExactLemmas.{outside_once, never_outside}
use Rattle.mely_check.proofs.laws.a_text_goes_wrong_once.Goals as goal

pub returns-clause-one : goal.returns-clause-one
returns-clause-one c = outside_once

pub returns-clause-none : goal.returns-clause-none
returns-clause-none c = never_outside
