use Rattle.std.proofs.Common.{◌≡◌, ◌≤◌, drop, max, fold}
use Rattle.mely_picture.specs.Shown.{plot_width}
use Rattle.mely_picture.specs.Drawings.{text_limit}
use Rattle.mely_picture.proofs.picture.widest.Given as goal

abbrev pub invariant-loop-plot : goal.invariant-loop-plot
invariant-loop-plot l = record {
  most : fold (λ most plot. max most (plot_width plot)) l.most (drop l.plot-index l.plots) ≡ fold (λ most plot. max most (plot_width plot)) 0 l.plots;
  few : l.most ≤ text_limit;
}
