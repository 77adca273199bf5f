use Rattle.sws_conn.proofs.SearchLemmas.{search-start}
use Rattle.sws_conn.proofs.buffer.Buffer.drop_front.Goals as goal

pub invariant_of-self : goal.invariant_of-self
invariant_of-self c = search-start c.start-self-inside.result c.drop_front.new.self c.start-self-inside.ensures.stands
