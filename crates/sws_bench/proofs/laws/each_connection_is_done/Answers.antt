use Rattle.sws_bench.proofs.OutcomeLemmas.{all_bytes-conn_from, ends_done}
use Rattle.sws_bench.proofs.laws.each_connection_is_done.Goals as goal

pub returns-clause-sends : goal.returns-clause-sends
returns-clause-sends c = all_bytes-conn_from

pub returns-clause-done : goal.returns-clause-done
returns-clause-done c = ends_done
