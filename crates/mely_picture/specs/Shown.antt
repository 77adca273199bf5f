-- Within the crate: what is drawn of what was kept.
use Rattle.std.specs.Prelude.{ℕ, ◌+◌, max, List, [], ◌∷◌, ◌++◌, length, fold}
use Rattle.std.specs.List.{flat_map}
use Rattle.mely_history.specs.Setup.{shape_of, colours_of}
use Rattle.mely_history.specs.declared.setup.Setup.{Setup}
use Rattle.mely_picture.specs.declared.part.Scale.{Scale}
use Rattle.mely_picture.specs.declared.counts.Counts.{Counts}
use Rattle.mely_picture.specs.declared.plot.Plot.{Plot}
use Rattle.mely_picture.specs.declared.plot.Plot.TheVariants.{Whole, Counted}
use Rattle.mely_picture.specs.Marks.{taken_colour, with_new}
use Rattle.mely_picture.specs.Layout.{panels_top, panel_height}
use Rattle.mely_picture.specs.Texts.{panel_text}
use Rattle.mely_picture.specs.BucketTexts.{bucket_panel}
use Rattle.mely_picture.specs.Plots.{cells_at}
use Rattle.mely_picture.specs.Pictures.{own_colours, whole_picture}

-- what the parts of a panel have in common
abbrev pub counts_scale : Setup → ℕ → Counts → Scale
counts_scale setup number counts = record {
  number = number;
  shards = (shape_of setup).shards;
  entries = counts.entries;
  width = counts.width;
}

-- the panel of a history that was kept as counts
abbrev pub counts_panel : Setup → ℕ → ℕ → Counts → List ℕ
counts_panel setup top number counts =
    bucket_panel counts.cores (colours_of setup) top (counts_scale setup number counts)
    (cells_at counts.cells.items)

-- the panel of what was kept of a history
abbrev pub plot_panel : Setup → ℕ → ℕ → Plot → List ℕ
plot_panel setup top number (Whole short) =
    panel_text (shape_of setup).cores top number short.entries.items
plot_panel setup top number (Counted counts) = counts_panel setup top number counts

-- the panels from this number and this upper edge on
abbrev pub plots_from : Setup → ℕ → ℕ → List Plot → List ℕ
plots_from setup top number [] = []
plots_from setup top number (plot ∷ plots) =
    plot_panel setup top number plot
    ++ plots_from setup (top + panel_height (shape_of setup).cores) (number + 1) plots

-- how many entries a panel is wide
abbrev pub plot_width : Plot → ℕ
plot_width (Whole short) = length short.entries.items
plot_width (Counted counts) = 32

abbrev pub widest_plot : List Plot → ℕ
widest_plot plots = fold (λ most plot. max most (plot_width plot)) 0 plots

-- the colours that a panel shows
abbrev pub plot_colours : Setup → ℕ → Plot → List ℕ
plot_colours setup number (Whole short) = flat_map taken_colour short.entries.items
plot_colours setup number (Counted counts) =
    own_colours (shape_of setup).shards (colours_of setup) number 16

-- the colours of all panels from this number on
abbrev pub plots_colours : Setup → ℕ → List Plot → List ℕ
plots_colours setup number [] = []
plots_colours setup number (plot ∷ plots) =
    plot_colours setup number plot ++ plots_colours setup (number + 1) plots

-- the legend's colours
abbrev pub shown_legend : Setup → List Plot → List ℕ
shown_legend setup plots = with_new [] (plots_colours setup 0 plots)

-- the picture with a legend of these colours
abbrev pub shown_with : Setup → List ℕ → List Plot → List ℕ
shown_with setup colours plots =
    whole_picture (shape_of setup).cores (widest_plot plots) (length plots) colours
    (plots_from setup (panels_top (length colours)) 0 plots)

-- the picture
abbrev pub shown_picture : Setup → List Plot → List ℕ
shown_picture setup plots = shown_with setup (shown_legend setup plots) plots
