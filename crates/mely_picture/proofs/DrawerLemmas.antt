-- One line more of a journal that is heard.
use Rattle.std.proofs.Common.{◌≡◌, ◌<◌, ◌≤◌, ℕ, ◌+◌, ◌-◌, List, [], ◌∷◌, ◌++◌, length, Option, None, Some, sym, ap, ◌∙◌, subst, arith, length-append}
use Rattle.std.specs.Prelude.{MatchOption}
use Rattle.mely_history.specs.declared.setup.Setup.{Setup}
use Rattle.mely_history.specs.declared.entry.Entry.{Entry}
use Rattle.mely_check.specs.Hearing.{Walk, start, within, left_in, histories_in, MayCome, with_line}
use Rattle.mely_check.specs.declared.reading.Line.{Line}
use Rattle.mely_check.specs.declared.reading.Line.TheVariants as line
use Rattle.mely_picture.specs.declared.plot.Plot.{Plot}
use Rattle.mely_picture.specs.Plots.{IsPlot, ArePlots, IsOpenPlot, KeepsParts}
use Rattle.mely_picture.proofs.PlotLemmas.{plots_long}

-- the open plot was put to the others
abbrev pub IsClosed : List Plot → Option Plot → List Plot → Type 0
IsClosed before open_plot after = MatchOption open_plot (after ≡ before) (λ plot. length before < 65536 → after ≡ before ++ plot ∷ [])

plots_push : (setup : Setup) (done : List (List Entry)) (last : List Entry) (plots : List Plot) (plot : Plot) → ArePlots setup done plots → IsPlot setup (length last) last plot → ArePlots setup (done ++ last ∷ []) (plots ++ plot ∷ [])
plots_push setup [] last [] plot are is = (is, tt)
plots_push setup (history ∷ done) last (p ∷ plots) plot are is = (are.0, plots_push setup done last plots plot are.1 is)
plots_push setup [] last (p ∷ plots) plot are is = absurd are
plots_push setup (history ∷ done) last [] plot are is = absurd are

some_closed : (setup : Setup) (done : List (List Entry)) (last : List Entry) (left : ℕ) (plots after : List Plot) (open_plot : Option Plot) → left ≡ 0 → ArePlots setup done plots → IsOpenPlot setup last left open_plot → length done < 65536
    → IsClosed plots open_plot after → ArePlots setup (done ++ last ∷ []) after
some_closed setup done last left plots after None none are is few closed = absurd is
some_closed setup done last left plots after (Some plot) none are is few closed =
    let long = plots_long setup done plots are in
    subst (ArePlots setup (done ++ last ∷ [])) (sym (closed (omega (arith, long, few)))) (plots_push setup done last plots plot are (subst (λ n. IsPlot setup n last plot) (omega (arith, none)) is))

-- a new history was begun
pub shard_heard : (walk : Walk) (number count : ℕ) (setup : Setup) (plots after : List Plot) (open_plot : Option Plot) (plot : Plot) → MayCome walk (line.Shard number count) → number < 65536 → KeepsParts walk setup plots open_plot
    → IsClosed plots open_plot after → IsPlot setup count [] plot → KeepsParts (with_line walk (line.Shard number count)) setup after (Some plot)
shard_heard start number count setup plots after None plot may few keeps closed is = (subst (ArePlots setup []) (sym (closed ∙ keeps.0)) tt, subst (λ n. IsPlot setup n [] plot) (omega arith) is)
shard_heard start number count setup plots after (Some other) plot may few keeps closed is = absurd (no other keeps.1)
  where
    no : (p : Plot) → Some p ≡ None → ⊥
    no p e = cc
shard_heard (within done last left) number count setup plots after open_plot plot may few keeps closed is =
    (some_closed setup done last left plots after open_plot may.0 keeps.0 keeps.1 (let begun = may.1 in omega (arith, begun, few)) closed, subst (λ n. IsPlot setup n [] plot) (omega arith) is)

-- an entry was heard
pub entry_heard : (walk : Walk) (e : Entry) (setup : Setup) (plots : List Plot) (old new : Plot) → MayCome walk (line.Entry e) → KeepsParts walk setup plots (Some old)
    → ((entries : ℕ) (history : List Entry) → IsPlot setup entries history old → length history < entries → IsPlot setup entries (history ++ e ∷ []) new) → KeepsParts (with_line walk (line.Entry e)) setup plots (Some new)
entry_heard start e setup plots old new may keeps added = absurd (let low = may.0 in omega (arith, low))
entry_heard (within done last left) e setup plots old new may keeps added =
    let low = may.0 in
    let long = length-append last (e ∷ []) in
    let same : length last + left ≡ length (last ++ e ∷ []) + (left - 1) = omega (arith, low, long) in
    (keeps.0, subst (λ n. IsPlot setup n (last ++ e ∷ []) new) same (added (length last + left) last keeps.1 (omega (arith, low))))

-- without an open history no entry may come
pub entry_unheard : {X : Type 0} (walk : Walk) (e : Entry) (setup : Setup) (plots : List Plot) → MayCome walk (line.Entry e) → KeepsParts walk setup plots None → X
entry_unheard start e setup plots may keeps = absurd (let low = may.0 in omega (arith, low))
entry_unheard (within done last left) e setup plots may keeps = absurd keeps.1

-- all histories were heard whole
pub all_heard : (walk : Walk) (histories : List (List Entry)) (setup : Setup) (plots after : List Plot) (open_plot : Option Plot) → histories_in walk ≡ histories → left_in walk ≡ 0 → length histories ≤ 65536 → KeepsParts walk setup plots open_plot
    → IsClosed plots open_plot after → ArePlots setup histories after
all_heard start histories setup plots after None is none few keeps closed = subst (λ hs. ArePlots setup hs after) is (subst (ArePlots setup []) (sym (closed ∙ keeps.0)) tt)
all_heard start histories setup plots after (Some other) is none few keeps closed = absurd (no other keeps.1)
  where
    no : (p : Plot) → Some p ≡ None → ⊥
    no p e = cc
all_heard (within done last left) histories setup plots after open_plot is none few keeps closed =
    let long = length-append done (last ∷ []) in
    let whole = ap length is in
    subst (λ hs. ArePlots setup hs after) is (some_closed setup done last left plots after open_plot none keeps.0 keeps.1 (omega (arith, long, whole, few)) closed)

-- what a line says was heard
pub shard_said : (said : Line) (number count : ℕ) (walk : Walk) (setup : Setup) (plots after : List Plot) (open_plot : Option Plot) (plot : Plot) → said ≡ line.Shard number count → number < 65536 → IsClosed plots open_plot after
    → IsPlot setup count [] plot → MayCome walk said → KeepsParts walk setup plots open_plot → KeepsParts (with_line walk said) setup after (Some plot)
shard_said said number count walk setup plots after open_plot plot is few closed plot_is may keeps =
    subst (λ s. KeepsParts (with_line walk s) setup after (Some plot)) (sym is) (shard_heard walk number count setup plots after open_plot plot (subst (MayCome walk) is may) few keeps closed plot_is)

pub entry_said : (said : Line) (e : Entry) (walk : Walk) (setup : Setup) (plots : List Plot) (open_plot : Option Plot) (old new : Plot) → said ≡ line.Entry e → open_plot ≡ Some old
    → ((entries : ℕ) (history : List Entry) → IsPlot setup entries history old → length history < entries → IsPlot setup entries (history ++ e ∷ []) new) → MayCome walk said → KeepsParts walk setup plots open_plot
    → KeepsParts (with_line walk said) setup plots (Some new)
entry_said said e walk setup plots open_plot old new is open_is added may keeps =
    subst (λ s. KeepsParts (with_line walk s) setup plots (Some new)) (sym is)
    (entry_heard walk e setup plots old new (subst (MayCome walk) is may) (subst (KeepsParts walk setup plots) open_is keeps) added)
