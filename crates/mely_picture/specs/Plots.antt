-- Within the crate: what is kept of a run's histories while they are heard.
use Rattle.std.specs.Prelude.{◌≡◌, ℕ, ◌+◌, ◌*◌, ◌^◌, ◌<◌, ◌≤◌, List, [], ◌∷◌, length, get_or, cond, slice_range, Option, None, Some, ⊤}
use Rattle.mely_history.specs.Setup.{shape_of}
use Rattle.mely_history.specs.declared.setup.Setup.{Setup}
use Rattle.mely_history.specs.declared.entry.Entry.{Entry}
use Rattle.mely_check.specs.Hearing.{Walk, start, within, HasHeard}
use Rattle.mely_picture.specs.Buckets.{exact_limit, width_of, Cell, is_in, count_from}
use Rattle.mely_picture.specs.declared.counts.Counts.{Counts}
use Rattle.mely_picture.specs.declared.plot.Plot.{Plot}
use Rattle.mely_picture.specs.declared.plot.Plot.TheVariants.{Whole, Counted}
use Rattle.mely_picture.specs.declared.drawer.Drawer.{Drawer}

-- where the count of a cell is kept
abbrev pub place_of : Cell → ℕ
place_of cell = 17 * (128 * cell.core + cell.bucket) + cell.class

-- the counts of a core's bucket
abbrev pub cells_at : List ℕ → ℕ → ℕ → List ℕ
cells_at cells core bucket = slice_range cells (17 * (128 * core + bucket))
    (17 * (128 * core + bucket) + 17)

-- each cell of a history has its count
abbrev pub AreCounts : Setup → ℕ → ℕ → List Entry → List ℕ → Type 0
AreCounts setup width cores history cells =
    (cell : Cell) → cell.core < cores → cell.bucket < 128 → cell.class < 17
    → get_or cells (place_of cell) 0 ≡ count_from setup width cell 0 history

-- of each cell the count is one more where the entry at this place is in it, within 32 bits
abbrev pub AddsOne : Setup → ℕ → ℕ → ℕ → Entry → List ℕ → List ℕ → Type 0
AddsOne setup width cores at entry before after =
    (cell : Cell) → cell.core < cores → cell.bucket < 128 → cell.class < 17
    → get_or before (place_of cell) 0 + 1 < 2 ^ 32
    → get_or after (place_of cell) 0
    ≡ get_or before (place_of cell) 0 + cond (is_in setup width cell at entry) 1 0

-- of a history of so many entries these were counted, which is said of numbers of 32 bits alone
pub record IsCounted (setup : Setup) (entries : ℕ) (history : List Entry)
    (counts : Counts) : Type 0 where
  pub cores : counts.cores ≡ (shape_of setup).cores
  pub entries_are : entries < 2 ^ 32 → counts.entries ≡ entries
  pub width : counts.width ≡ width_of counts.entries
  pub heard : length history < 2 ^ 32 → counts.heard ≡ length history
  pub cells : length history < 2 ^ 32
      → AreCounts setup counts.width counts.cores history counts.cells.items

-- of a history of so many entries these were heard
abbrev pub IsPlot : Setup → ℕ → List Entry → Plot → Type 0
IsPlot setup entries history (Whole short) = (entries ≤ exact_limit)
    × (short.entries.items ≡ history)
IsPlot setup entries history (Counted counts) = (exact_limit < entries)
    × IsCounted setup entries history counts

-- these histories were heard whole
abbrev pub ArePlots : Setup → List (List Entry) → List Plot → Type 0
ArePlots setup [] [] = ⊤
ArePlots setup (history ∷ histories) (plot ∷ plots) = IsPlot setup (length history) history plot
    × ArePlots setup histories plots
ArePlots setup [] (plot ∷ plots) = ⊥
ArePlots setup (history ∷ histories) [] = ⊥

-- of the history that is being heard these entries were, and so many are to come
abbrev pub IsOpenPlot : Setup → List Entry → ℕ → Option Plot → Type 0
IsOpenPlot setup history left None = ⊥
IsOpenPlot setup history left (Some plot) = IsPlot setup (length history + left) history plot

-- so much was heard, and this is what was kept of it
abbrev pub KeepsParts : Walk → Setup → List Plot → Option Plot → Type 0
KeepsParts start setup plots open_plot = (plots ≡ []) × (open_plot ≡ None)
KeepsParts (within done last left) setup plots open_plot = ArePlots setup done plots
    × IsOpenPlot setup last left open_plot

-- the drawer has heard so much
abbrev pub Keeps : Walk → Drawer → Type 0
Keeps walk drawer = KeepsParts walk drawer.setup drawer.plots.items drawer.open_plot

-- these histories were heard, each of them whole
abbrev pub KeepsAll : List (List Entry) → Drawer → Type 0
KeepsAll histories drawer = HasHeard (λ walk. Keeps walk drawer) histories
