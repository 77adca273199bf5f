use Rattle.std.proofs.Common.{◌≤◌, ◌+◌, ◌*◌, length, arith}
use Rattle.mely_picture.proofs.ListLemmas.{next_of}
use Rattle.mely_picture.proofs.LegendLemmas.{plot_more}
use Rattle.mely_picture.proofs.legend.shown_colours.Goals as goal

pub loop-number-preserved : goal.loop-number-preserved
loop-number-preserved c =
    let before = c.loop-number.invariant in
    let at = c.loop-number.number in
    let xs = c.args.plots.now in
    let x = c.index-plots-number.result in
    let seen = c.loop-number.colours.items in
    let now = c.add_plot.new.colours.items in
    let parts = next_of xs at x c.loop-number-test.true c.index-plots-number.is in
    let few : length seen ≤ 65536 * at = before.few in
    let more : length now ≤ length seen + 65536 = c.in_ok-add_plot.ensures.few in
    record {
      are = plot_more c.args.setup.now xs at x seen now _ parts c.in_ok-add_plot.ensures.are before.are;
      few = (let all : length now ≤ 65536 * (at + 1) = omega (arith, few, more) in all);
    }
