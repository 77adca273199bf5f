use Rattle.mely_picture.proofs.CountLemmas.{counted_more}
use Rattle.mely_picture.proofs.counts.Counts.add.Goals as goal

pub returns : goal.returns
returns c = λ entries history is.
    counted_more c.args.setup.now entries history c.args.entry.now c.args.self.now c.count.new.self c.saturating_add-self.result c.saturating_add-self.ensures c.count.ensures.heard c.count.ensures.cores c.count.ensures.entries
    c.count.ensures.width c.count.ensures.cells is
