use Rattle.mely_picture.proofs.DrawerLemmas.{all_heard}
use Rattle.mely_picture.proofs.drawer.Drawer.into_plots.Goals as goal

pub returns-clause-are : goal.returns-clause-are
returns-clause-are c = λ histories keeps few.
    all_heard keeps.walk histories c.args.self.setup c.args.self.plots.items c.close.new.self.plots.items c.args.self.open_plot keeps.is keeps.whole few keeps.heard c.in_ok-close.ensures.closed
