use Rattle.mely_picture.proofs.CountLemmas.{counted_added}
use Rattle.mely_picture.proofs.plot.Plot.add.Goals as goal

pub returns-in-Counted : goal.returns-in-Counted
returns-in-Counted c = λ entries history was low.
    counted_added c.args.setup.now c.args.entry.now c.args.self.now c.in-Counted.counts c.add-in-Counted.new.self c.in-Counted.is c.add-in-Counted.ensures entries history was
