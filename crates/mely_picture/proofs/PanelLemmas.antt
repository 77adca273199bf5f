-- Panels, one below the other, and the whole picture.
use Rattle.std.proofs.Common.{◌≡◌, ℕ, ◌+◌, ◌*◌, List, [], ◌∷◌, ◌++◌, length, drop, codes, sym, ap, ◌∙◌}
use Rattle.mely_history.specs.Setup.{shape_of}
use Rattle.mely_history.specs.declared.setup.Setup.{Setup}
use Rattle.mely_picture.specs.declared.plot.Plot.{Plot}
use Rattle.mely_picture.specs.Layout.{picture_width, panels_top, panel_height}
use Rattle.mely_picture.specs.Texts.{opening, style, page, legend_from}
use Rattle.mely_picture.specs.Pictures.{whole_picture}
use Rattle.mely_picture.specs.Shown.{plot_panel, plots_from}
use Rattle.mely_picture.proofs.ListLemmas.{text_more, join}

-- a panel was added
pub panels_more : (setup : Setup) (xs : List Plot) (top height at : ℕ) (x : Plot) (before after whole : List ℕ) → drop at xs ≡ x ∷ drop (at + 1) xs → height ≡ panel_height (shape_of setup).cores
    → after ≡ before ++ plot_panel setup top at x → before ++ plots_from setup top at (drop at xs) ≡ whole → after ++ plots_from setup (top + height) (at + 1) (drop (at + 1) xs) ≡ whole
panels_more setup xs top height at x before after whole parts high is all =
    let rest = drop (at + 1) xs in
    text_more before (plot_panel setup top at x) after (plots_from setup (top + height) (at + 1) rest) whole is
    (ap (λ k. before ++ (plot_panel setup top at x ++ plots_from setup (top + k) (at + 1) rest)) high ∙ ap (λ l. before ++ plots_from setup top at l) (sym parts) ∙ all)

-- all parts were added, one after another
pub picture_pushed : (cores wide count : ℕ) (colours panels : List ℕ) (width height : ℕ) (old t1 t2 t3 t4 t5 t6 : List ℕ) → width ≡ picture_width wide → height ≡ panels_top (length colours) + panel_height cores * count
    → t1 ≡ old ++ opening width height → t2 ≡ t1 ++ style → t3 ≡ t2 ++ page → t4 ≡ t3 ++ legend_from 0 colours → t5 ≡ t4 ++ panels → t6 ≡ t5 ++ (codes "</svg>" ++ 10 ∷ []) → t6 ≡ old ++ whole_picture cores wide count colours panels
picture_pushed cores wide count colours panels width height old t1 t2 t3 t4 t5 t6 is_width is_height e1 e2 e3 e4 e5 e6 =
    let o = opening (picture_width wide) (panels_top (length colours) + panel_height cores * count) in
    let p1 : t1 ≡ old ++ o = e1 ∙ ap (λ w. old ++ opening w height) is_width ∙ ap (λ h. old ++ opening (picture_width wide) h) is_height in
    let p2 = join old t1 t2 o style p1 e2 in
    let p3 = join old t2 t3 (o ++ style) page p2 e3 in
    let p4 = join old t3 t4 (o ++ style ++ page) (legend_from 0 colours) p3 e4 in
    let p5 = join old t4 t5 (o ++ style ++ page ++ legend_from 0 colours) panels p4 e5 in
    join old t5 t6 (o ++ style ++ page ++ legend_from 0 colours ++ panels) (codes "</svg>" ++ 10 ∷ []) p5 e6
