use Rattle.sws_conn.proofs.SearchLemmas.{search-short, search-on}
use Rattle.sws_conn.proofs.buffer.search.Goals as goal

pub scan-requires : goal.scan-requires
scan-requires c = search-short c.args.from c.args.bytes.now c.requires

pub returns : goal.returns
returns c = search-on c.args.from c.scan.result.1 c.args.bytes.now c.scan.result.0 c.requires c.scan.ensures.cut c.scan.ensures.goes_on
