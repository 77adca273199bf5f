use Rattle.sws_bench.proofs.ReadLemmas.{read_alone, all_read}
use Rattle.sws_bench.proofs.laws.all_that_is_sent_is_read.Goals as goal

pub returns-clause-one : goal.returns-clause-one
returns-clause-one c = read_alone

pub returns-clause-all : goal.returns-clause-all
returns-clause-all c = all_read
