use Rattle.std.proofs.Common.{◌≤◌, ◌<◌, ◌^◌, ◌+◌, ◌*◌, ap, ◌∙◌, arith}
use Rattle.mely_picture.specs.Layout.{panel_height}
use Rattle.mely_picture.proofs.ListLemmas.{next_of}
use Rattle.mely_picture.proofs.PanelLemmas.{panels_more}
use Rattle.mely_picture.proofs.panel.push_panels.Goals as goal

pub loop-number-preserved : goal.loop-number-preserved
loop-number-preserved c =
    let before = c.loop-number.invariant in
    let at = c.loop-number.number in
    let top = c.loop-number.top in
    let xs = c.args.plots.now in
    let x = c.index-plots-number.result in
    let height = c.panel_height-top.result in
    let parts = next_of xs at x c.loop-number-test.true c.index-plots-number.is in
    let low : top ≤ c.args.top + 4194304 * at = before.low in
    let high : height < 2 ^ 22 = c.panel_height-top.ensures.range in
    record {
      text = panels_more c.args.setup.now xs top height at x c.loop-number.text.items c.push_plot.new.text.items _ parts (c.panel_height-top.ensures.value ∙ ap panel_height c.cores.ensures.value) c.in_ok-push_plot.ensures before.text;
      low = omega (arith, low, high);
    }
