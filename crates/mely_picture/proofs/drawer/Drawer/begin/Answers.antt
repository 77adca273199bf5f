use Rattle.std.proofs.Common.{[], Some, sym, subst, arith}
use Rattle.mely_check.specs.Hearing.{with_line}
use Rattle.mely_check.specs.declared.reading.Line.TheVariants as line
use Rattle.mely_picture.specs.Plots.{IsPlot, KeepsParts}
use Rattle.mely_picture.proofs.DrawerLemmas.{shard_heard}
use Rattle.mely_picture.proofs.drawer.Drawer.begin.Goals as goal

pub returns-clause-heard : goal.returns-clause-heard
returns-clause-heard c = λ walk may keeps.
    let before = c.args.self.now in
    let few = c.ranges.number.fits in
    subst (λ s. KeepsParts (with_line walk (line.Shard c.args.number c.args.count)) s c.close.new.self.plots.items (Some c.in_ok-plot.plot)) (sym c.in_ok-close.ensures.setup)
    (shard_heard walk c.args.number c.args.count before.setup before.plots.items c.close.new.self.plots.items before.open_plot c.in_ok-plot.plot may (omega (arith, few)) keeps c.in_ok-close.ensures.closed
    (subst (λ s. IsPlot s c.args.count [] c.in_ok-plot.plot) c.in_ok-close.ensures.setup c.in_ok-plot.ensures))
