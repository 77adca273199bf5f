use Rattle.mely_order.proofs.EndsLemmas.{ends_in_order}
use Rattle.mely_order.proofs.laws.what_is_left_of_a_stream_is_in_order.Goals as goal

pub returns : goal.returns
returns g c = λ stream weave states queued lost was free homes waits are. ends_in_order stream weave states queued lost was free homes waits are
