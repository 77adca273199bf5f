use Rattle.std.proofs.Common.{sym, subst}
use Rattle.mely_check.specs.Hearing.{MayCome, with_line}
use Rattle.mely_picture.specs.Plots.{Keeps}
use Rattle.mely_picture.proofs.DrawerLemmas.{entry_said}
use Rattle.mely_picture.proofs.drawer.DrawerListener.hear.Goals as goal

pub returns-in_ok-begin-in-Shard-clause-heard : goal.returns-in_ok-begin-in-Shard-clause-heard
returns-in_ok-begin-in-Shard-clause-heard c = λ walk may keeps.
    subst (λ s. Keeps (with_line walk s) c.begin.new.self) (sym c.in-Shard.is) (c.in_ok-begin-in-Shard.ensures.heard walk (subst (MayCome walk) c.in-Shard.is may) keeps)

pub returns-in_ok-add-in-Entry-clause-heard : goal.returns-in_ok-add-in-Entry-clause-heard
returns-in_ok-add-in-Entry-clause-heard c = λ walk may keeps.
    let before = c.args.self.now in
    entry_said c.args.said.now c.in-Entry.entry walk before.setup before.plots.items before.open_plot c.in-Some.plot c.add.new.self c.in-Entry.is c.in-Some.is c.in_ok-add-in-Entry.ensures may keeps
