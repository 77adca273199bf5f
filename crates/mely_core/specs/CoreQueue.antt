-- The ready colours of one core.
use Rattle.std.specs.Prelude.{◌≡◌, ◌<◌, ◌==◌, ℕ, List, [], Option, None, Some, All, map, max, if◌then◌else◌}
use Rattle.mely_event.specs.declared.colour.Colour.{Colour}
use Rattle.mely_event.specs.declared.mark.Mark.{Mark}
use Rattle.mely_steal.specs.Marks.{IsOneEach, mark_of}
use Rattle.mely_steal.specs.StealQueue.{AreWorthy, is_worthy}
use Rattle.mely_steal.specs.StealTable.{StealTableState, mark_in, marks_of}

-- the marks of the ready colours, the next to run first; those of them that may be stolen, in the
-- order in which each entered its class; the number of colours, the cost of a steal, and below
-- which number colours are pinned to their cores
pub record CoreQueueState : Type 0 where
  pub chain : List Mark
  pub worthy : List Mark
  pub colours : ℕ
  pub cost : ℕ
  pub pinned : ℕ

-- what a list of colours and a table of marks, those that may be stolen by classes, are together
abbrev pub chain_of : List ℕ → StealTableState → CoreQueueState
chain_of colours table = record {
  chain = map (λ colour. mark_in table.marks colour) colours;
  worthy = marks_of table.marks table.entries;
  colours = table.colours;
  cost = table.cost;
  pinned = table.pinned;
}

-- no marks, and these numbers
abbrev pub empty_core : ℕ → ℕ → ℕ → CoreQueueState
empty_core colours cost pinned = record {
  chain = [];
  worthy = [];
  colours = colours;
  cost = cost;
  pinned = pinned;
}

-- the numbers with which the queue was made stay
pub record KeepsNumbers (old new : CoreQueueState) : Type 0 where
  pub colours : new.colours ≡ old.colours
  pub cost : new.cost ≡ old.cost
  pub pinned : new.pinned ≡ old.pinned

-- the mark where it may be stolen
abbrev pub if_worthy : ℕ → ℕ → Option Mark → Option Mark
if_worthy cost pinned None = None
if_worthy cost pinned (Some mark) = if is_worthy cost pinned mark then Some mark else None

-- what a core's colours keep: each is one of the colours and has at most one mark, and of each the
-- stealing queue has the mark that the chain has where that may be stolen, and none else
pub record HoldTogether (core : CoreQueueState) : Type 0 where
  pub below : All (λ mark. mark.colour.0 < core.colours) core.chain
  pub apart : IsOneEach core.chain
  pub worthy : AreWorthy (record {
    marks = core.worthy;
    colours = core.colours;
    cost = core.cost;
    pinned = core.pinned;
  })
  pub same : (colour : Colour) → mark_of colour core.worthy
      ≡ if_worthy core.cost core.pinned (mark_of colour core.chain)

-- the mark after a report of a worth, which only raises it: nothing where the report is of another
-- period, so of another number of started events
abbrev pub after_report : ℕ → ℕ → Option Mark → Option Mark
after_report started worth None = None
after_report started worth (Some mark) =
    if mark.started == started then Some (record mark { worth = max mark.worth worth }) else None

-- what a report on a colour makes of the colour's mark in a chain
abbrev pub told_of : Colour → ℕ → ℕ → List Mark → Option Mark
told_of colour started worth chain = after_report started worth (mark_of colour chain)
