-- The marks of one core, and which of them a thief takes.
use Rattle.std.specs.Prelude.{ℕ, Bool, not, ◌==◌, ◌&&◌, ◌||◌, List, Option, find, filter, max, nat_lt, if◌then◌else◌}
use Rattle.std.specs.List.{list_any}
use Rattle.mely_event.specs.declared.colour.Colour.{Colour}
use Rattle.mely_event.specs.declared.mark.Mark.{Mark}
use Rattle.mely_steal.specs.Classes.{class_of}
use Rattle.mely_steal.specs.Marks.{is_of}
use Rattle.mely_steal.specs.StealQueue.{is_worthy}

-- a mark in the list of a core, and the number of the step in which it entered its class
pub record Listed : Type 0 where
  pub mark : Mark
  pub since : ℕ

module _ (cost : ℕ) where
  -- the class of a mark, by what its colour is worth to a thief
  abbrev pub class : Listed → ℕ
  class l = class_of l.mark.worth cost

  -- a mark takes the place of another in this step: in its class it is since now, or where the
  -- other was of that class since when that was
  abbrev pub in_place_of : Listed → ℕ → Mark → Listed
  in_place_of old now mark = record {
    mark = mark;
    since = if class old == class_of mark.worth cost then old.since else now;
  }

  -- a report of what a colour is worth comes in this step: it raises the mark of its colour, where
  -- that is of the same period, and no other mark
  abbrev pub hears : ℕ → Colour → ℕ → ℕ → Listed → Listed
  hears now colour started worth l =
      if is_of colour l.mark && (l.mark.started == started) then in_place_of l now
      (record l.mark { worth = max l.mark.worth worth }) else l

  -- the marks that may be stolen: those of colours that aren't pinned, and
  -- worth more than a steal costs
  abbrev pub to_steal : ℕ → List Listed → List Listed
  to_steal pinned list = filter (λ l. is_worthy cost pinned l.mark) list

  -- a thief takes this mark rather than that: it is of a higher class, or longer in the same
  abbrev pub goes_before : Listed → Listed → Bool
  goes_before a b = nat_lt (class b) (class a) || ((class a == class b) && nat_lt a.since b.since)

  -- the mark that a thief takes: of those that may be stolen, the one before which none goes
  abbrev pub first_to_steal : ℕ → List Listed → Option Listed
  first_to_steal pinned list = let able = to_steal pinned list in
      find (λ l. not (list_any (λ other. goes_before other l) able)) able

-- the marks of the other colours
abbrev pub without_colour : Colour → List Listed → List Listed
without_colour colour list = filter (λ l. not (is_of colour l.mark)) list
