-- The marks that are worth a steal.
use Rattle.std.specs.Prelude.{◌<◌, ◌≤◌, ◌==◌, ◌&&◌, nat_lt, nat_le, ℕ, Bool, false, List, [], ◌∷◌, ◌++◌, Option, All, find, if◌then◌else◌}
use Rattle.std.specs.Option.{option_or, option_map_or}
use Rattle.mely_event.specs.declared.mark.Mark.{Mark}
use Rattle.mely_steal.specs.Classes.{class_of}
use Rattle.mely_steal.specs.Marks.{IsOneEach, mark_of, without, after_replacement}

-- marks of classes 1 to 3 in the order in which each entered its class, the number of colours, the
-- cost of a steal, and below which number colours are pinned to their cores
pub record StealQueueState : Type 0 where
  pub marks : List Mark
  pub colours : ℕ
  pub cost : ℕ
  pub pinned : ℕ

-- no marks, and these numbers
abbrev pub empty_worthy : ℕ → ℕ → ℕ → StealQueueState
empty_worthy colours cost pinned =
    record { marks = []; colours = colours; cost = cost; pinned = pinned }

-- the mark may be stolen: its colour isn't pinned, and its time left pays for a
-- steal, so its class isn't 0
abbrev pub is_worthy : ℕ → ℕ → Mark → Bool
is_worthy cost pinned mark = nat_le pinned mark.colour.0 && nat_lt cost mark.worth

-- each colour is one of the colours that aren't pinned, and has at most one mark, which is
-- worth more than a steal costs
pub record AreWorthy (q : StealQueueState) : Type 0 where
  pub below : All (λ mark. mark.colour.0 < q.colours) q.marks
  pub apart : IsOneEach q.marks
  pub worthy : All (λ mark. q.cost < mark.worth) q.marks
  pub loose : All (λ mark. q.pinned ≤ mark.colour.0) q.marks

-- the marks after this one entered its class: behind all others, and nowhere
-- where it may not be stolen
abbrev pub after_entry : ℕ → ℕ → Mark → List Mark → List Mark
after_entry cost pinned mark marks =
    if is_worthy cost pinned mark then marks ++ mark ∷ [] else marks

-- the mark of this colour is of the same class
abbrev pub keeps_class : ℕ → Mark → List Mark → Bool
keeps_class cost new marks =
    option_map_or (λ old. class_of old.worth cost == class_of new.worth cost)
    (mark_of new.colour marks) false

-- the marks after the mark of a colour became this one: it keeps its place within its class, and
-- enters a class that it wasn't in
abbrev pub after_mark_change : ℕ → ℕ → Mark → List Mark → List Mark
after_mark_change cost pinned new marks =
    if keeps_class cost new marks then after_replacement new marks
    else after_entry cost pinned new (without new.colour marks)

-- the first mark of a class
abbrev pub first_of : ℕ → ℕ → List Mark → Option Mark
first_of cost class marks = find (λ mark. class_of mark.worth cost == class) marks

-- the mark that a thief takes: the first of the highest class that has one
abbrev pub pick_of : ℕ → List Mark → Option Mark
pick_of cost marks =
    option_or (option_or (first_of cost 3 marks) (first_of cost 2 marks)) (first_of cost 1 marks)
