-- Runs of the machine, from its first event to where nothing is left.
use Rattle.std.specs.Prelude.{◌≡◌, ◌<◌, ℕ, zero, suc, ◌+◌, Bool, true, false, ◌&&◌, List, [], ◌∷◌, replicate}
use Rattle.std.specs.List.{range_with_len, list_all}
use Rattle.mely_event.specs.declared.colour.Colour.{Colour}
use Rattle.mely_event.specs.declared.event.Event.{Event}
use Rattle.mely_history.specs.Schedules.{spelled_out}
use Rattle.mely_history.specs.declared.entry.Entry.{Entry}
use Rattle.mely_history.specs.declared.entry.Entry.TheVariants.{Reg}
use Rattle.mely_worker.specs.declared.delivery.Delivery.{Delivery}
use Rattle.mely_worker.specs.declared.delivery.Delivery.TheVariants.{Nothing, PushMark, Report}
use Rattle.mely_machine.specs.Rules.{Rules}
use Rattle.mely_machine.specs.Listing.{Listed}
use Rattle.mely_machine.specs.Machine.{Acts, Doing, Free, Popped, Picked, Landing, Pushing, Turning, Machine, pushes}
use Rattle.mely_machine.specs.MachineStep.{history_for, after_entry, reports, delivery_by, step}

-- nothing was registered, every list is empty, and every worker is free
abbrev pub initial_machine : {X : Type 0} → Rules → X → Machine X
initial_machine rules app = record {
  histories = replicate rules.shape.shards [];
  lists = replicate rules.shape.cores [];
  workers = replicate rules.shape.cores (Free 0);
  app = app;
  made = 0;
}

-- the worker looks for a mark
abbrev pub is_free : Doing → Bool
is_free (Free place) = true
is_free (Popped mark) = false
is_free (Picked mark) = false
is_free (Landing mark) = false
is_free (Pushing to mark) = false
is_free (Turning c count left hand puts) = false

-- there is no mark
abbrev pub is_empty : List Listed → Bool
is_empty [] = true
is_empty (l ∷ list) = false

-- nothing is left to do: every worker is free, and every list is empty
abbrev pub is_quiet : {X : Type 0} → Machine X → Bool
is_quiet m = list_all is_free m.workers && list_all is_empty m.lists

module _ {X : Type 0} (rules : Rules) where
  -- what follows a registration reaches its core
  abbrev pub delivers : Delivery → Machine X → Machine X
  delivers Nothing m = m
  delivers (PushMark to mark) m = pushes to mark m
  delivers (Report to colour started worth) m = reports rules to colour started worth m

  -- a registration from outside, by the pass of the number after the cores', with what
  -- follows it; it counts as a step
  unfoldable pub post : Colour → Event → Machine X → Machine X
  post c event m =
      let registered = after_entry rules (Reg c event rules.shape.cores) m in
      let after = delivers (delivery_by rules (history_for rules m c)
      (history_for rules registered c) c) registered in
      record after { made = after.made + 1 }

  module _ (act : Acts X) where
    -- a step of each of these cores in turn
    unfoldable pub steps : List ℕ → Machine X → Machine X
    steps [] m = m
    steps (core ∷ cores) m = steps cores (step rules act core m)

    -- a round: a step of each core, in ascending order
    abbrev pub round : Machine X → Machine X
    round m = steps (range_with_len 0 rules.shape.cores) m

    -- so many rounds
    unfoldable pub rounds : ℕ → Machine X → Machine X
    rounds zero m = m
    rounds (suc n) m = round (rounds n m)

    -- a drain: so many rounds, before each of which something was left to do, and nothing is left
    -- after them. A drain need not end: two cores may steal a colour from each other for ever.
    -- Where it ends, it ends in one way
    pub record DrainsTo (before after : Machine X) : Type 0 where
      pub count : ℕ
      pub busy : (n : ℕ) → n < count → is_quiet (rounds n before) ≡ false
      pub last : after ≡ rounds count before
      pub quiet : is_quiet after ≡ true

    -- a whole run: an event is posted, the steps of a schedule are made, and a drain ends; the
    -- histories are those that stand then
    pub record RunsTo (app : X) (first : Colour × Event) (schedule : List (ℕ × ℕ))
        (histories : List (List Entry)) : Type 0 where
      pub end : Machine X
      pub drains : DrainsTo
          (steps (spelled_out schedule) (post first.0 first.1 (initial_machine rules app))) end
      pub told : histories ≡ end.histories
