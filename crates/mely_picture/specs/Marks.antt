-- The picture of a history: a list of bars and arrows, each at the places of its entries, which are
-- counted from 0 within a shard.
use Rattle.std.specs.Prelude.{◌==◌, ℕ, ◌+◌, Bool, false, List, [], ◌∷◌, ◌++◌, if◌then◌else◌}
use Rattle.mely_event.specs.declared.colour.Colour.{Colour}
use Rattle.mely_history.specs.declared.entry.Entry.{Entry}
use Rattle.mely_history.specs.declared.entry.Entry.TheVariants.{Reg, Take, Fin, Steal}
use Rattle.mely_picture.specs.declared.bar.Bar.{Bar}
use Rattle.mely_picture.specs.declared.arrow.Arrow.{Arrow}

-- what is drawn
pub data Mark : Type 0 where
  bar : Bar → Mark
  arrow : Arrow → Mark

-- the entry finishes the colour
abbrev pub finishes : Colour → Entry → Bool
finishes c (Reg colour event by) = false
finishes c (Take colour core count) = false
finishes c (Fin colour core count) = colour.0 == c.0
finishes c (Steal colour from to) = false

-- how many entries stand before the first that finishes the colour; all of them, where none does
abbrev pub before_finish : Colour → List Entry → ℕ
before_finish c [] = 0
before_finish c (entry ∷ rest) = if finishes c entry then 0 else before_finish c rest + 1

-- the mark of the entry at a place, with the entries behind it: a take is a bar up to the next
-- finish of its colour, a steal an arrow
abbrev pub marks_of : ℕ → Entry → List Entry → List Mark
marks_of at (Reg c event by) rest = []
marks_of at (Take c core count) rest = bar (record {
  colour = c.0;
  core = core;
  count = count;
  begin = at;
  end = at + 1 + before_finish c rest;
}) ∷ []
marks_of at (Fin c core count) rest = []
marks_of at (Steal c from to) rest = arrow (record {
  colour = c.0;
  from = from;
  to = to;
  at = at;
}) ∷ []

-- the marks of entries from this place on
abbrev pub marks_from : ℕ → List Entry → List Mark
marks_from at [] = []
marks_from at (entry ∷ rest) = marks_of at entry rest ++ marks_from (at + 1) rest

-- the picture of a history
abbrev pub marks : List Entry → List Mark
marks history = marks_from 0 history

-- the colour of an entry that takes some of it
abbrev pub taken_colour : Entry → List ℕ
taken_colour (Reg c event by) = []
taken_colour (Take c core count) = c.0 ∷ []
taken_colour (Fin c core count) = []
taken_colour (Steal c from to) = []

-- the number is one of these
abbrev pub has : ℕ → List ℕ → Bool
has n [] = false
has n (m ∷ numbers) = if m == n then Bool.true else has n numbers

-- numbers behind others, but for those that stand there already
abbrev pub with_new : List ℕ → List ℕ → List ℕ
with_new seen [] = seen
with_new seen (n ∷ numbers) =
    if has n seen then with_new seen numbers else with_new (seen ++ n ∷ []) numbers
