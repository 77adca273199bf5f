-- The last mark of each colour, and of which colours it may be stolen.
use Rattle.std.specs.Prelude.{◌≡◌, ℕ, List, [], ◌∷◌, map, length, slice_index}
use Rattle.mely_event.specs.declared.mark.Mark.{Mark}
use Rattle.mely_steal.specs.Classes.{class_of}
use Rattle.mely_steal.specs.StealQueue.{StealQueueState, AreWorthy}
use Rattle.mely_steal.specs.Entering.{Ranked}

-- of each colour the number of its started events and its worth, as they were last told
pub record MarkTableState : Type 0 where
  pub started : List ℕ
  pub worth : List ℕ

-- the mark of a colour
abbrev pub mark_in : MarkTableState → ℕ → Mark
mark_in table colour = record {
  colour = record { 0 = colour };
  started = slice_index table.started colour;
  worth = slice_index table.worth colour;
}

-- one colour's mark is written, and nothing else
pub record SetsMark (mark : Mark) (old new : MarkTableState) : Type 0 where
  pub here : mark_in new mark.colour.0 ≡ mark
  pub others : (colour : ℕ) → (mark.colour.0 ≡ colour → ⊥) → mark_in new colour ≡ mark_in old colour
  pub long : length new.started ≡ length old.started

-- the marks of entries
abbrev pub marks_of : MarkTableState → List Ranked → List Mark
marks_of table entries = map (λ entry. mark_in table entry.colour) entries

-- marks, the entries of those that may be stolen, the number of colours, the cost of a steal, and
-- below which number colours are pinned to their cores
pub record StealTableState : Type 0 where
  pub marks : MarkTableState
  pub entries : List Ranked
  pub colours : ℕ
  pub cost : ℕ
  pub pinned : ℕ

-- the marks that may be stolen, in the order in which each entered its class
abbrev pub worthy_of : StealTableState → StealQueueState
worthy_of table = record {
  marks = marks_of table.marks table.entries;
  colours = table.colours;
  cost = table.cost;
  pinned = table.pinned;
}

-- each entry is in the class of its mark
abbrev pub AreOfClass : ℕ → MarkTableState → List Ranked → Type 0
AreOfClass cost table [] = Unit {0}
AreOfClass cost table (entry ∷ entries) =
    (entry.class ≡ class_of (mark_in table entry.colour).worth cost) × AreOfClass cost table entries

-- what the table keeps: its entries are of colours that may be stolen, each
-- in the class of its mark
pub record AreStealable (table : StealTableState) : Type 0 where
  pub worthy : AreWorthy (worthy_of table)
  pub classed : AreOfClass table.cost table.marks table.entries

-- the numbers with which the table was made stay
pub record KeepsNumbers (old new : StealTableState) : Type 0 where
  pub colours : new.colours ≡ old.colours
  pub cost : new.cost ≡ old.cost
  pub pinned : new.pinned ≡ old.pinned
