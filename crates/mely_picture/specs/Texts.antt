-- The text of a picture: SVG 1.1 (W3C), with a style that follows the reader's light or dark.
use Rattle.std.specs.Prelude.{ℕ, zero, suc, ◌+◌, ◌-◌, ◌*◌, List, [], ◌∷◌, ◌++◌, length, codes}
use Rattle.std.specs.List.{flat_map}
use Rattle.std.specs.Fmt.{decimal}
use Rattle.mely_history.specs.declared.entry.Entry.{Entry}
use Rattle.mely_picture.specs.declared.bar.Bar.{Bar}
use Rattle.mely_picture.specs.declared.arrow.Arrow.{Arrow}
use Rattle.mely_picture.specs.Marks.{Mark, bar, arrow, marks}
use Rattle.mely_picture.specs.Layout.{left_of, legend_left, legend_top, row_top, hue_of}

-- a word, and the decimal digits of a number
abbrev pub numbered : List ℕ → ℕ → List ℕ
numbered word number = word ++ decimal number

-- ---- marks

-- what a bar says under the pointer
abbrev pub bar_title : Bar → List ℕ
bar_title b =
    numbered (codes "<g><title>entry ") b.begin ++ numbered (codes " to ") b.end
    ++ numbered (codes ": colour ") b.colour ++ numbered (codes ", core ") b.core
    ++ numbered (codes ", count ") b.count ++ codes "</title>"

-- a bar from the take to the finish, in the row of its core and the hue of its colour
abbrev pub bar_shape : ℕ → Bar → List ℕ
bar_shape top b =
    numbered (codes "<rect class='bar' x='") (left_of b.begin)
    ++ numbered (codes "' y='") (row_top top b.core)
    ++ numbered (codes "' width='") (28 * (b.end - b.begin))
    ++ numbered (codes "' height='32' rx='3' fill='hsl(") (hue_of b.colour)
    ++ codes ",70%,65%)'/>"

-- in the middle of a bar, its colour and below it the count
abbrev pub bar_label : ℕ → Bar → List ℕ
bar_label top b =
    numbered (codes "<text class='on' x='") (left_of b.begin + 14 * (b.end - b.begin))
    ++ numbered (codes "' y='") (row_top top b.core + 14) ++ numbered (codes "'>") b.colour
    ++ numbered (codes "</text><text class='on' x='") (left_of b.begin + 14 * (b.end - b.begin))
    ++ numbered (codes "' y='") (row_top top b.core + 27) ++ numbered (codes "'>x") b.count
    ++ (codes "</text></g>" ++ 10 ∷ [])

-- what an arrow says under the pointer
abbrev pub arrow_title : Arrow → List ℕ
arrow_title a =
    numbered (codes "<g><title>entry ") a.at ++ numbered (codes ": colour ") a.colour
    ++ numbered (codes ", stolen from core ") a.from ++ numbered (codes " by core ") a.to
    ++ codes "</title>"

-- an arrow from the middle of one row to the middle of another
abbrev pub arrow_shape : ℕ → Arrow → List ℕ
arrow_shape top a =
    numbered (codes "<path class='steal' stroke='hsl(") (hue_of a.colour)
    ++ numbered (codes ",70%,50%)' marker-end='url(#tip)' d='M ") (left_of a.at + 14)
    ++ numbered (codes " ") (row_top top a.from + 16) ++ numbered (codes " V ")
    (row_top top a.to + 16) ++ (codes "'/></g>" ++ 10 ∷ [])

-- a mark of the panel with this upper edge
abbrev pub mark_text : ℕ → Mark → List ℕ
mark_text top (bar b) = bar_title b ++ bar_shape top b ++ bar_label top b
mark_text top (arrow a) = arrow_title a ++ arrow_shape top a

-- ---- panels

-- the row of a core, as long as a history of so many entries
abbrev pub row_text : ℕ → ℕ → ℕ → List ℕ
row_text top entries core =
    numbered (codes "<text x='16' y='") (row_top top core + 20) ++ numbered (codes "'>core ") core
    ++ numbered (codes "</text><rect class='row' x='76' y='") (row_top top core)
    ++ numbered (codes "' width='") (28 * entries) ++ (codes "' height='32'/>" ++ 10 ∷ [])

-- the rows of so many cores
abbrev pub rows_text : ℕ → ℕ → ℕ → List ℕ
rows_text top entries zero = []
rows_text top entries (suc core) = rows_text top entries core ++ row_text top entries core

-- the heading of a panel
abbrev pub heading : ℕ → ℕ → ℕ → List ℕ
heading top number entries =
    numbered (codes "<text class='head' x='16' y='") (top + 20)
    ++ numbered (codes "'>shard ") number ++ numbered (codes ", entries ") entries
    ++ (codes "</text>" ++ 10 ∷ [])

-- the panel of a shard: its heading, a row for each core, and the marks of its history
abbrev pub panel_text : ℕ → ℕ → ℕ → List Entry → List ℕ
panel_text cores top number history =
    heading top number (length history) ++ rows_text top (length history) cores
    ++ flat_map (mark_text top) (marks history)

-- ---- the whole

-- a colour of the legend, at its place there
abbrev pub legend_item : ℕ → ℕ → List ℕ
legend_item at colour =
    numbered (codes "<rect class='bar' width='14' height='14' x='") (legend_left at)
    ++ numbered (codes "' y='") (legend_top at) ++ numbered (codes "' fill='hsl(") (hue_of colour)
    ++ numbered (codes ",70%,65%)'/><text x='") (legend_left at + 20)
    ++ numbered (codes "' y='") (legend_top at + 12) ++ numbered (codes "'>colour ") colour
    ++ (codes "</text>" ++ 10 ∷ [])

-- the legend of these colours, from this place on
abbrev pub legend_from : ℕ → List ℕ → List ℕ
legend_from at [] = []
legend_from at (colour ∷ colours) = legend_item at colour ++ legend_from (at + 1) colours

-- the style: of the page, of the text, of the rows, of bars, of what stands on them, of arrows
abbrev pub style : List ℕ
style =
    codes "<style>.page{fill:#fff}text{fill:#222}.head{font-weight:bold}.row{fill:#eee}"
    ++ codes ".bar{stroke:#222;stroke-width:.5}.on{fill:#111;text-anchor:middle;font-size:11px}"
    ++ codes ".steal{fill:none;stroke-width:2.5}.tip{fill:#222}"
    ++ codes "@media(prefers-color-scheme:dark){.page{fill:#16181c}text{fill:#ddd}.row{fill:#2a2e35}"
    ++ codes ".on{fill:#111}.tip{fill:#ddd}}</style>" ++ 10 ∷ []

-- the tip of an arrow, and the page
abbrev pub page : List ℕ
page =
    codes "<defs><marker id='tip' markerWidth='12' markerHeight='12' refX='9' refY='5' "
    ++ codes "orient='auto' markerUnits='userSpaceOnUse'><path class='tip' d='M 0 0 L 10 5 L 0 10 z'/>"
    ++ codes "</marker></defs>" ++ 10 ∷ codes "<rect class='page' width='100%' height='100%'/>" ++ 10 ∷ []

-- the beginning of a picture of this size
abbrev pub opening : ℕ → ℕ → List ℕ
opening width height =
    numbered (codes "<svg xmlns='http://www.w3.org/2000/svg' width='") width
    ++ numbered (codes "' height='") height ++ numbered (codes "' viewBox='0 0 ") width
    ++ numbered (codes " ") height ++ (codes "' font-family='sans-serif' font-size='12'>" ++ 10 ∷ [])
