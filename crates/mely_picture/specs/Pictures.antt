-- The picture of a run: each history entry by entry where it is short, and else in buckets.
use Rattle.std.specs.Prelude.{ℕ, zero, suc, ◌+◌, ◌*◌, max, List, [], ◌∷◌, ◌++◌, length, codes, fold, nat_le, nat_lt, if◌then◌else◌}
use Rattle.std.specs.List.{flat_map}
use Rattle.mely_history.specs.Setup.{shape_of, colours_of}
use Rattle.mely_history.specs.declared.setup.Setup.{Setup}
use Rattle.mely_history.specs.declared.entry.Entry.{Entry}
use Rattle.mely_picture.specs.declared.part.Scale.{Scale}
use Rattle.mely_picture.specs.Marks.{taken_colour, with_new}
use Rattle.mely_picture.specs.Layout.{picture_width, panels_top, panel_height}
use Rattle.mely_picture.specs.Buckets.{exact_limit, width_of, shares_of}
use Rattle.mely_picture.specs.Texts.{panel_text, opening, style, page, legend_from}
use Rattle.mely_picture.specs.BucketTexts.{bucket_panel}

-- what the parts of a panel have in common
abbrev pub scale_of : Setup → ℕ → ℕ → Scale
scale_of setup number entries = record {
  number = number;
  shards = (shape_of setup).shards;
  entries = entries;
  width = width_of entries;
}

-- the panel of a history
abbrev pub history_panel : Setup → ℕ → ℕ → List Entry → List ℕ
history_panel setup top number history =
    if nat_le (length history) exact_limit
    then panel_text (shape_of setup).cores top number history
    else bucket_panel (shape_of setup).cores (colours_of setup) top
    (scale_of setup number (length history)) (shares_of setup history)

-- the panels from this number and this upper edge on
abbrev pub panels_from : Setup → ℕ → ℕ → List (List Entry) → List ℕ
panels_from setup top number [] = []
panels_from setup top number (history ∷ histories) =
    history_panel setup top number history
    ++ panels_from setup (top + panel_height (shape_of setup).cores) (number + 1) histories

-- how many entries a panel is wide: one in buckets is as wide as 32 entries
abbrev pub shown_width : List Entry → ℕ
shown_width history = if nat_le (length history) exact_limit then length history else 32

-- how many entries the widest panel is wide
abbrev pub widest : List (List Entry) → ℕ
widest histories = fold (λ most history. max most (shown_width history)) 0 histories

-- the colour, if there are so many
abbrev pub if_there : ℕ → ℕ → List ℕ
if_there colours colour = if nat_lt colour colours then colour ∷ [] else []

-- those of a shard's first colours that there are, each of which has a class of its own
abbrev pub own_colours : ℕ → ℕ → ℕ → ℕ → List ℕ
own_colours shards colours number zero = []
own_colours shards colours number (suc place) =
    own_colours shards colours number place
    ++ if_there colours (number + shards * place)

-- the colours that a panel shows: those of its bars in the order in which they are taken, or those
-- that have a class of their own
abbrev pub shown_colours : Setup → ℕ → List Entry → List ℕ
shown_colours setup number history =
    if nat_le (length history) exact_limit then flat_map taken_colour history
    else own_colours (shape_of setup).shards (colours_of setup) number 16

-- the colours of all panels from this number on
abbrev pub colours_from : Setup → ℕ → List (List Entry) → List ℕ
colours_from setup number [] = []
colours_from setup number (history ∷ histories) =
    shown_colours setup number history ++ colours_from setup (number + 1) histories

-- the picture's frame: its size, style, legend and panels
abbrev pub whole_picture : ℕ → ℕ → ℕ → List ℕ → List ℕ → List ℕ
whole_picture cores width count colours panels =
    opening (picture_width width) (panels_top (length colours) + panel_height cores * count)
    ++ style ++ page ++ legend_from 0 colours ++ panels ++ (codes "</svg>" ++ 10 ∷ [])

-- the legend's colours, each once, in the order in which they come first
abbrev pub legend_colours : Setup → List (List Entry) → List ℕ
legend_colours setup histories = with_new [] (colours_from setup 0 histories)

-- the picture of a run, as SVG (SVG 1.1, W3C): a legend, and a panel for each shard's history,
-- entry by entry where it is short, and else in buckets
abbrev pub picture : Setup → List (List Entry) → List ℕ
picture setup histories =
    whole_picture (shape_of setup).cores (widest histories) (length histories)
    (legend_colours setup histories)
    (panels_from setup (panels_top (length (legend_colours setup histories))) 0 histories)
