-- What is drawn of what was kept is the picture of the histories.
use Rattle.std.proofs.Common.{◌≡◌, ◌<◌, ◌≤◌, ℕ, zero, suc, ◌+◌, ◌-◌, ◌*◌, ◌^◌, max, List, [], ◌∷◌, ◌++◌, length, map, take, drop, get_or, fold, codes, refl, sym, ap, ◌∙◌, arith}
use Rattle.std.specs.Prelude.{if◌then◌else◌}
use Rattle.std.specs.List.{AllByRecursion, flat_map, range_with_len}
use Rattle.std.specs.Bool.{nat_le as leb}
use Rattle.std.proofs.lemmas.Bool.{le-leb, lt-leb}
use Rattle.std.proofs.lemmas.List.{ext_get_or, get_or-take, get_or-drop, length-take-le, length-drop}
use Rattle.std.proofs.lemmas.List.FromFn.{get_or-map-range_with_len, length-map-range_with_len}
use Rattle.mely_history.specs.Setup.{shape_of, colours_of}
use Rattle.mely_history.specs.declared.setup.Setup.{Setup}
use Rattle.mely_history.specs.declared.entry.Entry.{Entry}
use Rattle.mely_picture.specs.declared.part.Scale.{Scale}
use Rattle.mely_picture.specs.declared.counts.Counts.{Counts}
use Rattle.mely_picture.specs.declared.plot.Plot.{Plot}
use Rattle.mely_picture.specs.declared.plot.Plot.TheVariants.{Whole, Counted}
use Rattle.mely_picture.specs.Marks.{with_new, taken_colour}
use Rattle.mely_picture.specs.Layout.{panels_top, panel_height, row_top}
use Rattle.mely_picture.specs.Texts.{numbered, panel_text, rows_text}
use Rattle.mely_picture.specs.Buckets.{width_of, count_from, shares_of}
use Rattle.mely_picture.specs.BucketTexts.{column_from, columns_text, core_text, cores_text, bucket_heading, bucket_panel}
use Rattle.mely_picture.specs.Pictures.{scale_of, history_panel, panels_from, shown_width, widest, own_colours, shown_colours, colours_from, whole_picture, picture}
use Rattle.mely_picture.specs.Plots.{cells_at, AreCounts, IsCounted, IsPlot, ArePlots}
use Rattle.mely_picture.specs.Shown.{counts_scale, plot_panel, plots_from, plot_width, plot_colours, plots_colours, shown_legend, shown_picture}

-- ---- counts

-- how many entries of each class a bucket of this width has
abbrev pub counts_of : Setup → ℕ → List Entry → ℕ → ℕ → List ℕ
counts_of setup width history core bucket =
    map (λ class. count_from setup width (record { core = core; bucket = bucket; class = class }) 0 history) (range_with_len 0 17)

length_cut : (a n : ℕ) (xs : List ℕ) → a + n ≤ length xs → length (take n (drop a xs)) ≡ n
length_cut a n xs low = length-take-le n (drop a xs) (let left = length-drop a xs in omega (arith, left, low))

-- what is kept of a bucket are its counts
cells_are : (setup : Setup) (width cores core bucket : ℕ) (history : List Entry) (cells : List ℕ) → AreCounts setup width cores history cells → length cells ≡ 2176 * cores → core < cores → bucket < 128
    → cells_at cells core bucket ≡ counts_of setup width history core bucket
cells_are setup width cores core bucket history cells are many core_low bucket_low =
    ext_get_or 0 (cells_at cells core bucket) (counts_of setup width history core bucket) (long ∙ sym (length-map-range_with_len f 0 17)) each
  where
    a : ℕ
    a = 17 * (128 * core + bucket)

    f : ℕ → ℕ
    f class = count_from setup width (record { core = core; bucket = bucket; class = class }) 0 history

    cut : cells_at cells core bucket ≡ take 17 (drop a cells)
    cut = let size : 17 * (128 * core + bucket) + 17 - 17 * (128 * core + bucket) ≡ 17 = omega arith in ap (λ n. take n (drop (17 * (128 * core + bucket)) cells)) size

    long : length (cells_at cells core bucket) ≡ 17
    long = ap length cut ∙ length_cut a 17 cells (let within : 17 * (128 * core + bucket) + 17 ≤ length cells = omega (arith, many, core_low, bucket_low) in within)

    each : (i : ℕ) → i < length (cells_at cells core bucket) → get_or (cells_at cells core bucket) i 0 ≡ get_or (counts_of setup width history core bucket) i 0
    each i within =
        let low : i < 17 = (let l = long in omega (arith, l, within)) in
        ap (λ xs. get_or xs i 0) cut ∙ get_or-take 17 (drop a cells) i 0 low ∙ get_or-drop a cells i 0 ∙ are (record { core = core; bucket = bucket; class = i }) core_low bucket_low low
        ∙ sym (get_or-map-range_with_len f 0 17 i i 0 low (omega arith))

-- ---- the same counts make the same text

columns_same : (scale : Scale) (core : ℕ) (f g : ℕ → List ℕ) (n : ℕ) → ((bucket : ℕ) → bucket < n → f bucket ≡ g bucket) → columns_text scale core f n ≡ columns_text scale core g n
columns_same scale core f g zero same = refl
columns_same scale core f g (suc n) same =
    ap (λ t. t ++ column_from scale core n 0 0 (f n)) (columns_same scale core f g n (λ bucket low. same bucket (omega (arith, low))))
    ∙ ap (λ counts. columns_text scale core g n ++ column_from scale core n 0 0 counts) (same n (omega arith))

core_same : (top : ℕ) (scale : Scale) (core : ℕ) (f g : ℕ → List ℕ) → ((bucket : ℕ) → bucket < 128 → f bucket ≡ g bucket) → core_text top scale core f ≡ core_text top scale core g
core_same top scale core f g same =
    ap (λ t. numbered (codes "<svg x='76' y='") (row_top top core) ++ numbered (codes "' width='896' height='32' viewBox='0 0 128 ") scale.width
    ++ (codes "' preserveAspectRatio='none' shape-rendering='crispEdges'>" ++ 10 ∷ []) ++ t ++ (codes "</svg>" ++ 10 ∷ [])) (columns_same scale core f g 128 same)

cores_same : (top : ℕ) (scale : Scale) (f g : ℕ → ℕ → List ℕ) (n : ℕ) → ((core bucket : ℕ) → core < n → bucket < 128 → f core bucket ≡ g core bucket) → cores_text top scale f n ≡ cores_text top scale g n
cores_same top scale f g zero same = refl
cores_same top scale f g (suc n) same =
    ap (λ t. t ++ core_text top scale n (f n)) (cores_same top scale f g n (λ core bucket low bucket_low. same core bucket (omega (arith, low)) bucket_low))
    ∙ ap (λ t. cores_text top scale g n ++ t) (core_same top scale n (f n) (g n) (λ bucket low. same n bucket (omega arith) low))

-- ---- a history

whole_first : {X : Type 0} (n : ℕ) (a b : X) → n ≤ 4096 → (if leb n 4096 then a else b) ≡ a
whole_first n a b low = ap (λ t. if t then a else b) (le-leb n 4096 low)

buckets_second : {X : Type 0} (n : ℕ) (a b : X) → 4096 < n → (if leb n 4096 then a else b) ≡ b
buckets_second n a b high = ap (λ t. if t then a else b) (lt-leb n 4096 high)

counted_is : (setup : Setup) (number top : ℕ) (history : List Entry) (counts : Counts) → IsCounted setup (length history) history counts → length history < 2 ^ 32
    → bucket_panel counts.cores (colours_of setup) top (counts_scale setup number counts) (cells_at counts.cells.items)
    ≡ bucket_panel (shape_of setup).cores (colours_of setup) top (scale_of setup number (length history)) (shares_of setup history)
counted_is setup number top history counts is low =
    ap (λ t. bucket_heading top (counts_scale setup number counts) (colours_of setup) ++ rows_text top 32 counts.cores ++ t)
    (cores_same top (counts_scale setup number counts) (cells_at counts.cells.items) (shares_of setup history) counts.cores shares)
    ∙ ap (λ k. bucket_panel k (colours_of setup) top (counts_scale setup number counts) (shares_of setup history)) is.cores
    ∙ ap (λ k. bucket_panel (shape_of setup).cores (colours_of setup) top k (shares_of setup history)) scale
  where
    entries : counts.entries ≡ length history
    entries = is.entries_are low

    width : counts.width ≡ width_of (length history)
    width = is.width ∙ ap width_of entries

    scale : counts_scale setup number counts ≡ scale_of setup number (length history)
    scale =
        ap (λ (e : ℕ). record { number = number; shards = (shape_of setup).shards; entries = e; width = counts.width }) entries
        ∙ ap (λ (w : ℕ). record { number = number; shards = (shape_of setup).shards; entries = length history; width = w }) width

    shares : (core bucket : ℕ) → core < counts.cores → bucket < 128 → cells_at counts.cells.items core bucket ≡ shares_of setup history core bucket
    shares core bucket core_low bucket_low =
        cells_are setup counts.width counts.cores core bucket history counts.cells.items (is.cells low) counts.many core_low bucket_low ∙ ap (λ w. counts_of setup w history core bucket) width

plot_is : (setup : Setup) (number top : ℕ) (history : List Entry) (plot : Plot) → IsPlot setup (length history) history plot → length history < 2 ^ 32 → plot_panel setup top number plot ≡ history_panel setup top number history
plot_is setup number top history (Whole short) is low =
    ap (panel_text (shape_of setup).cores top number) is.1
    ∙ sym (whole_first (length history) (panel_text (shape_of setup).cores top number history)
    (bucket_panel (shape_of setup).cores (colours_of setup) top (scale_of setup number (length history)) (shares_of setup history)) is.0)
plot_is setup number top history (Counted counts) is low =
    counted_is setup number top history counts is.1 low
    ∙ sym (buckets_second (length history) (panel_text (shape_of setup).cores top number history)
    (bucket_panel (shape_of setup).cores (colours_of setup) top (scale_of setup number (length history)) (shares_of setup history)) is.0)

width_is : (setup : Setup) (history : List Entry) (plot : Plot) → IsPlot setup (length history) history plot → plot_width plot ≡ shown_width history
width_is setup history (Whole short) is = ap length is.1 ∙ sym (whole_first (length history) (length history) 32 is.0)
width_is setup history (Counted counts) is = sym (buckets_second (length history) (length history) 32 is.0)

colours_is : (setup : Setup) (number : ℕ) (history : List Entry) (plot : Plot) → IsPlot setup (length history) history plot → plot_colours setup number plot ≡ shown_colours setup number history
colours_is setup number history (Whole short) is =
    ap (flat_map taken_colour) is.1 ∙ sym (whole_first (length history) (flat_map taken_colour history) (own_colours (shape_of setup).shards (colours_of setup) number 16) is.0)
colours_is setup number history (Counted counts) is =
    sym (buckets_second (length history) (flat_map taken_colour history) (own_colours (shape_of setup).shards (colours_of setup) number 16) is.0)

-- ---- all histories

pub plots_long : (setup : Setup) (histories : List (List Entry)) (plots : List Plot) → ArePlots setup histories plots → length plots ≡ length histories
plots_long setup [] [] are = refl
plots_long setup (history ∷ histories) (plot ∷ plots) are = let rest = plots_long setup histories plots are.1 in omega (arith, rest)
plots_long setup [] (plot ∷ plots) are = absurd are
plots_long setup (history ∷ histories) [] are = absurd are

panels_same : (setup : Setup) (top number : ℕ) (histories : List (List Entry)) (plots : List Plot) → ArePlots setup histories plots → AllByRecursion (λ history. length history < 2 ^ 32) histories
    → plots_from setup top number plots ≡ panels_from setup top number histories
panels_same setup top number [] [] are low = refl
panels_same setup top number (history ∷ histories) (plot ∷ plots) are low =
    let next = top + panel_height (shape_of setup).cores in
    ap (λ t. t ++ plots_from setup next (number + 1) plots) (plot_is setup number top history plot are.0 low.0)
    ∙ ap (λ t. history_panel setup top number history ++ t) (panels_same setup next (number + 1) histories plots are.1 low.1)
panels_same setup top number [] (plot ∷ plots) are low = absurd are
panels_same setup top number (history ∷ histories) [] are low = absurd are

colours_same : (setup : Setup) (number : ℕ) (histories : List (List Entry)) (plots : List Plot) → ArePlots setup histories plots → plots_colours setup number plots ≡ colours_from setup number histories
colours_same setup number [] [] are = refl
colours_same setup number (history ∷ histories) (plot ∷ plots) are =
    ap (λ t. t ++ plots_colours setup (number + 1) plots) (colours_is setup number history plot are.0)
    ∙ ap (λ t. shown_colours setup number history ++ t) (colours_same setup (number + 1) histories plots are.1)
colours_same setup number [] (plot ∷ plots) are = absurd are
colours_same setup number (history ∷ histories) [] are = absurd are

widest_same : (setup : Setup) (most : ℕ) (histories : List (List Entry)) (plots : List Plot) → ArePlots setup histories plots
    → fold (λ most plot. max most (plot_width plot)) most plots ≡ fold (λ most history. max most (shown_width history)) most histories
widest_same setup most [] [] are = refl
widest_same setup most (history ∷ histories) (plot ∷ plots) are =
    ap (λ n. fold (λ most plot. max most (plot_width plot)) (max most n) plots) (width_is setup history plot are.0) ∙ widest_same setup (max most (shown_width history)) histories plots are.1
widest_same setup most [] (plot ∷ plots) are = absurd are
widest_same setup most (history ∷ histories) [] are = absurd are

pub picture_same : (setup : Setup) (histories : List (List Entry)) (plots : List Plot) → ArePlots setup histories plots → AllByRecursion (λ history. length history < 2 ^ 32) histories
    → shown_picture setup plots ≡ picture setup histories
picture_same setup histories plots are low =
    let cores = (shape_of setup).cores in
    let old = shown_legend setup plots in
    let legend = with_new [] (colours_from setup 0 histories) in
    let old_panels = plots_from setup (panels_top (length old)) 0 plots in
    ap (λ w. whole_picture cores w (length plots) old old_panels) (widest_same setup 0 histories plots are)
    ∙ ap (λ n. whole_picture cores (widest histories) n old old_panels) (plots_long setup histories plots are)
    ∙ ap (λ l. whole_picture cores (widest histories) (length histories) l (plots_from setup (panels_top (length l)) 0 plots)) (ap (with_new []) (colours_same setup 0 histories plots are))
    ∙ ap (λ p. whole_picture cores (widest histories) (length histories) legend p) (panels_same setup (panels_top (length legend)) 0 histories plots are low)
