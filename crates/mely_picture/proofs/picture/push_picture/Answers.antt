use Rattle.std.proofs.Common.{◌+◌, ◌*◌, ◌++◌, length, ap, ◌∙◌}
use Rattle.mely_history.specs.Setup.{shape_of}
use Rattle.mely_picture.specs.Layout.{picture_width, panels_top, panel_height}
use Rattle.mely_picture.specs.Shown.{widest_plot, plots_from}
use Rattle.mely_picture.proofs.PanelLemmas.{picture_pushed}
use Rattle.mely_picture.proofs.picture.push_picture.Goals as goal

pub returns : goal.returns
returns c =
    let setup = c.args.setup.now in
    let plots = c.args.plots.now in
    let colours = c.args.colours.now in
    let top = panels_top (length colours) in
    picture_pushed (shape_of setup).cores (widest_plot plots) (length plots) colours (plots_from setup top 0 plots) c.picture_width-width.result (c.panels_top-top.result + c.panel_height.result * length plots) c.args.text.now.items
    c.push_opening.new.text.items c.push_word.new.text.items c.push_word-2.new.text.items c.push_legend.new.text.items c.push_panels.new.text.items c.push_word-3.new.text.items
    (c.picture_width-width.ensures ∙ ap picture_width c.widest.ensures.value)
    (ap (λ t. t + c.panel_height.result * length plots) c.panels_top-top.ensures.value ∙ ap (λ h. top + h * length plots) (c.panel_height.ensures.value ∙ ap panel_height c.cores-cores.ensures.value)) c.in_ok-push_opening.ensures
    c.in_ok-push_word.ensures c.in_ok-push_word-2.ensures c.in_ok-push_legend.ensures
    (c.in_ok-push_panels.ensures ∙ ap (λ k. c.push_legend.new.text.items ++ plots_from setup k 0 plots) c.panels_top-top.ensures.value) c.in_ok-push_word-3.ensures
