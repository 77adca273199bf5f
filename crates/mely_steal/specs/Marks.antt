-- Lists of marks with at most one mark a colour.
use Rattle.std.specs.Prelude.{◌≡◌, ◌<◌, ◌==◌, ℕ, Bool, not, List, [], ◌∷◌, Option, None, All, filter, find, map, if◌then◌else◌}
use Rattle.mely_event.specs.declared.colour.Colour.{Colour}
use Rattle.mely_event.specs.declared.mark.Mark.{Mark}

-- the mark is of the colour
abbrev pub is_of : Colour → Mark → Bool
is_of colour mark = mark.colour.0 == colour.0

-- the first mark of a colour
abbrev pub mark_of : Colour → List Mark → Option Mark
mark_of colour marks = find (λ mark. is_of colour mark) marks

-- the marks of the other colours, in the order in which they stood
abbrev pub without : Colour → List Mark → List Mark
without colour marks = filter (λ mark. not (is_of colour mark)) marks

-- this mark in the place of the mark of its colour
abbrev pub after_replacement : Mark → List Mark → List Mark
after_replacement new marks = map (λ mark. if is_of new.colour mark then new else mark) marks

-- at most one mark a colour
abbrev pub IsOneEach : List Mark → Type 0
IsOneEach [] = Unit {0}
IsOneEach (mark ∷ marks) = (mark_of mark.colour marks ≡ None) × IsOneEach marks

-- marks, and the number of colours
pub record Marks : Type 0 where
  pub marks : List Mark
  pub colours : ℕ

-- each colour is one of the colours, and has at most one mark
pub record AreApart (list : Marks) : Type 0 where
  pub below : All (λ mark. mark.colour.0 < list.colours) list.marks
  pub apart : IsOneEach list.marks
