use Rattle.sws_conn.proofs.SearchLemmas.{search-start}
use Rattle.sws_conn.proofs.buffer.Buffer.new.Goals as goal

pub invariant_of-result : goal.invariant_of-result
invariant_of-result c = search-start c.start.result c.in-Ok.window c.start.ensures.stands
