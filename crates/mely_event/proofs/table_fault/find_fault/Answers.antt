use Rattle.mely_event.proofs.PenaltiesLemmas.{divisors_where_none}
use Rattle.mely_event.proofs.table_fault.find_fault.Goals as goal

pub returns-in-None-clause-divisors : goal.returns-in-None-clause-divisors
returns-in-None-clause-divisors c = divisors_where_none c.args.rows.now c.in-None.ensures
