-- Where everything of a picture stands, in pixels from its left upper corner.
use Rattle.std.specs.Prelude.{ℕ, ◌+◌, ◌*◌, ◌/◌, ◌%◌, max}

-- the left edge of the entry at a place: an entry is 28 pixels wide
abbrev pub left_of : ℕ → ℕ
left_of at = 76 + 28 * at

-- the width of a picture whose longest history has so many entries: at least that of a legend
abbrev pub picture_width : ℕ → ℕ
picture_width longest = max 632 (92 + 28 * longest)

-- a legend has six colours a line
abbrev pub legend_left : ℕ → ℕ
legend_left number = 16 + 100 * (number % 6)

abbrev pub legend_top : ℕ → ℕ
legend_top number = 14 + 24 * (number / 6)

-- the upper edge of the first panel, below a legend of so many colours
abbrev pub panels_top : ℕ → ℕ
panels_top colours = 14 + 24 * ((colours + 5) / 6)

-- the height of a panel: its heading, a row for each core, and room below
abbrev pub panel_height : ℕ → ℕ
panel_height cores = 48 + 40 * cores

-- the upper edge of a core's row in the panel with this upper edge
abbrev pub row_top : ℕ → ℕ → ℕ
row_top top core = top + 32 + 40 * core

-- a colour's hue, in degrees: neighbours are far apart
abbrev pub hue_of : ℕ → ℕ
hue_of colour = 137 * colour % 360
