use Rattle.mely_order.proofs.RisingLemmas.{rising_ascends, rising_between, rising_all}
use Rattle.mely_order.proofs.laws.what_rises_is_in_order.Goals as goal

pub returns-clause-ascending : goal.returns-clause-ascending
returns-clause-ascending c = λ low high numbers rise. rising_ascends low numbers high rise

pub returns-clause-between : goal.returns-clause-between
returns-clause-between c = λ low high numbers rise. rising_between low numbers high rise

pub returns-clause-all : goal.returns-clause-all
returns-clause-all c = λ low high numbers rise many. rising_all low numbers high rise many
