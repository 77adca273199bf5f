-- The machines of the cases: rules, posts and schedules that were drawn at random by an
-- independent model of the runtime.
use Rattle.std.specs.Prelude.{ℕ, zero, suc, ◌+◌, ◌%◌, List, [], ◌∷◌, fold}
use Rattle.mely_event.specs.declared.colour.Colour.{Colour}
use Rattle.mely_event.specs.declared.event.Event.{Event}
use Rattle.mely_event.specs.declared.mark.Mark.{Mark}
use Rattle.mely_machine.specs.Rules.{Rules}
use Rattle.mely_machine.specs.Machine.{Acts, Machine}
use Rattle.mely_machine.specs.MachineRun.{initial_machine, post, steps}
use Rattle.mely_history.specs.Schedules.{spelled_out}

-- shorter names for what the cases are made of: a colour by its number
abbrev pub col : ℕ → Colour
col n = record { 0 = n }

-- an event by its handler and its argument
abbrev pub event : ℕ → ℕ → Event
event h a = record { handler = h; arg = a }

-- a mark by the number of its colour, how many of its events were begun, and its worth
abbrev pub mark : ℕ → ℕ → ℕ → Mark
mark c started worth = record { colour = col c; started = started; worth = worth }

-- handler 0 registers nothing; handler 1 registers handler 0 on the colour of its argument; handler
-- 2 registers handler 1 there, and handler 0 on the next colour of so many
abbrev pub puts_of : ℕ → ℕ → ℕ → List (Colour × Event)
puts_of colours zero arg = []
puts_of colours (suc zero) arg = (col arg, event 0 0) ∷ []
puts_of colours (suc (suc h)) arg =
    (col arg, event 1 ((arg + 1) % colours)) ∷ (col ((arg + 1) % colours), event 0 arg) ∷ []

-- the app of the cases, over so many colours: it only registers, and keeps nothing
abbrev pub act : ℕ → Acts (Unit {0})
act colours x c e = record { puts = puts_of colours e.handler e.arg; becomes = x }

-- the machine after these posts and then this schedule, in which (core, n)
-- stands for n steps of the core
abbrev pub after : Rules → ℕ → List (Colour × Event) → List (ℕ × ℕ) → Machine (Unit {0})
after rules colours posts schedule =
    steps rules (act colours) (spelled_out schedule)
    (fold (λ m p. post rules p.0 p.1 m) (initial_machine rules tt) posts)

-- the machine of each case, with the rules, the posts and the schedule that were drawn for it
abbrev pub machine_0 : Machine (Unit {0})
machine_0 =
    after (record {
      shape = record { cores = 3; shards = 2; batch = 2; steal_cost = 3; group = 4 };
      rows = ((5, 2) ∷ (35, 2) ∷ (34, 3) ∷ []);
      pinned = 0;
    }) 8
    ((col 3, event 0 2) ∷ (col 7, event 2 2) ∷ (col 5, event 1 0) ∷ (col 3, event 0 5)
    ∷ (col 6, event 0 0) ∷ (col 0, event 1 1) ∷ (col 6, event 2 1) ∷ (col 6, event 1 5)
    ∷ (col 2, event 0 2) ∷ (col 1, event 2 6) ∷ (col 7, event 2 6) ∷ (col 0, event 0 3) ∷ [])
    ((1, 3) ∷ (2, 4) ∷ (2, 3) ∷ (0, 3) ∷ (0, 3) ∷ (1, 3) ∷ (2, 5) ∷ (2, 2) ∷ (0, 4) ∷ (1, 1)
    ∷ (2, 1) ∷ (0, 6) ∷ [])

abbrev pub machine_1 : Machine (Unit {0})
machine_1 =
    after (record {
      shape = record { cores = 3; shards = 1; batch = 2; steal_cost = 3; group = 4 };
      rows = ((11, 3) ∷ (19, 1) ∷ (9, 3) ∷ []);
      pinned = 0;
    }) 9
    ((col 0, event 2 4) ∷ (col 7, event 2 0) ∷ (col 8, event 2 5) ∷ (col 3, event 2 4)
    ∷ (col 7, event 2 7) ∷ (col 3, event 1 7) ∷ (col 8, event 2 2) ∷ (col 3, event 1 0) ∷ [])
    ((1, 2) ∷ (0, 1) ∷ (2, 1) ∷ (0, 5) ∷ (0, 3) ∷ (2, 5) ∷ (0, 1) ∷ (1, 6) ∷ (1, 6) ∷ (0, 2)
    ∷ (2, 5) ∷ (1, 4) ∷ [])

abbrev pub machine_2 : Machine (Unit {0})
machine_2 =
    after (record {
      shape = record { cores = 3; shards = 2; batch = 2; steal_cost = 8; group = 4 };
      rows = ((33, 2) ∷ (7, 2) ∷ (26, 3) ∷ []);
      pinned = 0;
    }) 6
    ((col 5, event 2 5) ∷ (col 1, event 2 4) ∷ (col 2, event 0 5) ∷ (col 0, event 0 1)
    ∷ (col 4, event 2 3) ∷ (col 1, event 1 1) ∷ (col 3, event 2 0) ∷ (col 4, event 2 0)
    ∷ (col 3, event 2 4) ∷ (col 0, event 2 1) ∷ (col 4, event 2 2) ∷ [])
    ((2, 2) ∷ (0, 6) ∷ (2, 2) ∷ (0, 1) ∷ (0, 4) ∷ (2, 2) ∷ (1, 1) ∷ (2, 3) ∷ (0, 3) ∷ (1, 6)
    ∷ (2, 5) ∷ (1, 5) ∷ (2, 1) ∷ (0, 5) ∷ [])

abbrev pub machine_3 : Machine (Unit {0})
machine_3 =
    after (record {
      shape = record { cores = 3; shards = 1; batch = 1; steal_cost = 5; group = 4 };
      rows = ((25, 1) ∷ (26, 1) ∷ (10, 3) ∷ []);
      pinned = 0;
    }) 7
    ((col 2, event 1 6) ∷ (col 5, event 2 2) ∷ (col 1, event 0 1) ∷ (col 3, event 2 3)
    ∷ (col 1, event 0 5) ∷ (col 4, event 2 3) ∷ (col 1, event 2 0) ∷ (col 1, event 0 2) ∷ [])
    ((1, 2) ∷ (2, 4) ∷ (1, 2) ∷ (2, 2) ∷ (2, 6) ∷ (1, 2) ∷ (2, 4) ∷ (1, 5) ∷ (2, 6) ∷ (0, 4)
    ∷ (1, 1) ∷ (0, 4) ∷ (2, 6) ∷ [])

abbrev pub machine_4 : Machine (Unit {0})
machine_4 =
    after (record {
      shape = record { cores = 3; shards = 2; batch = 1; steal_cost = 3; group = 4 };
      rows = ((24, 2) ∷ (6, 2) ∷ (36, 2) ∷ []);
      pinned = 0;
    }) 9
    ((col 4, event 1 2) ∷ (col 7, event 1 8) ∷ (col 2, event 2 7) ∷ (col 0, event 2 5)
    ∷ (col 4, event 2 4) ∷ (col 6, event 2 2) ∷ (col 2, event 2 0) ∷ (col 6, event 2 6)
    ∷ (col 4, event 2 6) ∷ (col 6, event 2 6) ∷ (col 6, event 1 2) ∷ [])
    ((1, 1) ∷ (1, 5) ∷ (0, 6) ∷ (2, 6) ∷ (1, 6) ∷ (1, 2) ∷ (1, 2) ∷ (2, 1) ∷ (2, 3) ∷ (0, 1)
    ∷ (0, 2) ∷ [])

abbrev pub machine_5 : Machine (Unit {0})
machine_5 =
    after (record {
      shape = record { cores = 2; shards = 1; batch = 2; steal_cost = 3; group = 4 };
      rows = ((24, 3) ∷ (6, 3) ∷ (11, 2) ∷ []);
      pinned = 0;
    }) 6
    ((col 3, event 1 3) ∷ (col 0, event 0 5) ∷ (col 1, event 2 4) ∷ (col 3, event 2 3)
    ∷ (col 2, event 2 3) ∷ (col 4, event 0 5) ∷ (col 2, event 0 1) ∷ (col 3, event 2 5)
    ∷ (col 0, event 2 4) ∷ (col 3, event 2 0) ∷ (col 1, event 2 0) ∷ [])
    ((0, 4) ∷ (0, 1) ∷ (0, 2) ∷ (0, 1) ∷ (0, 5) ∷ (0, 5) ∷ (1, 6) ∷ (0, 4) ∷ (1, 4) ∷ (1, 2)
    ∷ (1, 1) ∷ [])

abbrev pub machine_6 : Machine (Unit {0})
machine_6 =
    after (record {
      shape = record { cores = 3; shards = 1; batch = 2; steal_cost = 3; group = 4 };
      rows = ((12, 2) ∷ (13, 3) ∷ (22, 1) ∷ []);
      pinned = 0;
    }) 7
    ((col 1, event 0 3) ∷ (col 3, event 2 6) ∷ (col 3, event 2 2) ∷ (col 4, event 2 6)
    ∷ (col 6, event 2 2) ∷ (col 1, event 2 0) ∷ (col 1, event 2 3) ∷ [])
    ((2, 5) ∷ (0, 5) ∷ (2, 4) ∷ (2, 3) ∷ (1, 3) ∷ (1, 1) ∷ (0, 6) ∷ (2, 6) ∷ (1, 2) ∷ (1, 5)
    ∷ (0, 5) ∷ (2, 5) ∷ [])

abbrev pub machine_7 : Machine (Unit {0})
machine_7 =
    after (record {
      shape = record { cores = 3; shards = 2; batch = 2; steal_cost = 5; group = 4 };
      rows = ((27, 2) ∷ (37, 3) ∷ (34, 1) ∷ []);
      pinned = 0;
    }) 7
    ((col 4, event 2 1) ∷ (col 2, event 2 4) ∷ (col 2, event 1 2) ∷ (col 2, event 2 5)
    ∷ (col 5, event 2 0) ∷ (col 4, event 2 5) ∷ (col 4, event 0 6) ∷ [])
    ((0, 3) ∷ (0, 4) ∷ (0, 6) ∷ (1, 2) ∷ (1, 2) ∷ (1, 1) ∷ (2, 2) ∷ (0, 2) ∷ (1, 6) ∷ (0, 6)
    ∷ (0, 5) ∷ (0, 4) ∷ (2, 3) ∷ (1, 2) ∷ (1, 4) ∷ (1, 4) ∷ [])

abbrev pub machine_8 : Machine (Unit {0})
machine_8 =
    after (record {
      shape = record { cores = 3; shards = 2; batch = 2; steal_cost = 8; group = 4 };
      rows = ((20, 3) ∷ (38, 3) ∷ (36, 3) ∷ []);
      pinned = 0;
    }) 6
    ((col 5, event 2 2) ∷ (col 3, event 2 1) ∷ (col 0, event 0 5) ∷ (col 2, event 2 5)
    ∷ (col 2, event 2 1) ∷ (col 5, event 2 4) ∷ (col 2, event 1 2) ∷ (col 3, event 2 0)
    ∷ (col 1, event 0 3) ∷ (col 0, event 2 1) ∷ (col 1, event 1 0) ∷ [])
    ((1, 5) ∷ (1, 3) ∷ (2, 1) ∷ (0, 2) ∷ (0, 4) ∷ (2, 3) ∷ (2, 3) ∷ (0, 2) ∷ (0, 5) ∷ (0, 2)
    ∷ (1, 1) ∷ (2, 5) ∷ (1, 1) ∷ (1, 5) ∷ (2, 2) ∷ (2, 6) ∷ [])

abbrev pub machine_9 : Machine (Unit {0})
machine_9 =
    after (record {
      shape = record { cores = 2; shards = 2; batch = 2; steal_cost = 3; group = 4 };
      rows = ((29, 2) ∷ (30, 1) ∷ (9, 3) ∷ []);
      pinned = 0;
    }) 8
    ((col 7, event 2 0) ∷ (col 5, event 2 2) ∷ (col 0, event 2 1) ∷ (col 4, event 2 3)
    ∷ (col 4, event 2 4) ∷ (col 6, event 0 0) ∷ (col 4, event 2 4) ∷ (col 5, event 0 1)
    ∷ (col 0, event 0 2) ∷ (col 1, event 1 2) ∷ [])
    ((0, 2) ∷ (1, 2) ∷ (1, 1) ∷ (0, 3) ∷ (1, 5) ∷ (1, 6) ∷ (1, 2) ∷ (1, 1) ∷ (1, 4) ∷ (1, 2)
    ∷ (0, 1) ∷ (1, 3) ∷ (1, 1) ∷ (1, 3) ∷ (1, 3) ∷ (1, 1) ∷ [])

abbrev pub machine_10 : Machine (Unit {0})
machine_10 =
    after (record {
      shape = record { cores = 3; shards = 1; batch = 2; steal_cost = 8; group = 4 };
      rows = ((25, 1) ∷ (8, 2) ∷ (20, 3) ∷ []);
      pinned = 0;
    }) 9
    ((col 3, event 0 1) ∷ (col 1, event 1 6) ∷ (col 5, event 2 0) ∷ (col 6, event 1 5)
    ∷ (col 5, event 2 0) ∷ (col 5, event 2 3) ∷ (col 3, event 0 1) ∷ (col 7, event 2 2)
    ∷ (col 8, event 1 7) ∷ (col 8, event 2 5) ∷ (col 3, event 1 2) ∷ [])
    ((1, 6) ∷ (1, 2) ∷ (0, 2) ∷ (2, 4) ∷ (0, 2) ∷ (1, 5) ∷ (0, 3) ∷ (1, 6) ∷ (1, 5) ∷ (0, 4)
    ∷ (2, 4) ∷ (0, 2) ∷ (2, 6) ∷ (0, 6) ∷ (2, 2) ∷ (0, 5) ∷ [])

abbrev pub machine_11 : Machine (Unit {0})
machine_11 =
    after (record {
      shape = record { cores = 2; shards = 2; batch = 1; steal_cost = 3; group = 4 };
      rows = ((35, 3) ∷ (36, 3) ∷ (13, 1) ∷ []);
      pinned = 0;
    }) 6
    ((col 3, event 1 1) ∷ (col 3, event 1 2) ∷ (col 4, event 1 4) ∷ (col 5, event 2 2)
    ∷ (col 0, event 2 1) ∷ (col 4, event 2 4) ∷ [])
    ((1, 5) ∷ (0, 4) ∷ (0, 2) ∷ (1, 5) ∷ (0, 6) ∷ (0, 6) ∷ (0, 1) ∷ (0, 6) ∷ [])

abbrev pub machine_12 : Machine (Unit {0})
machine_12 =
    after (record {
      shape = record { cores = 2; shards = 2; batch = 2; steal_cost = 8; group = 4 };
      rows = ((10, 2) ∷ (39, 1) ∷ (37, 1) ∷ []);
      pinned = 0;
    }) 6
    ((col 2, event 0 1) ∷ (col 3, event 0 2) ∷ (col 0, event 1 0) ∷ (col 0, event 0 2)
    ∷ (col 2, event 2 2) ∷ (col 5, event 2 0) ∷ (col 5, event 1 3) ∷ (col 4, event 0 5)
    ∷ (col 3, event 2 2) ∷ (col 2, event 2 0) ∷ (col 0, event 2 2) ∷ (col 1, event 2 2) ∷ [])
    ((1, 3) ∷ (0, 1) ∷ (0, 4) ∷ (0, 2) ∷ (0, 4) ∷ (1, 6) ∷ (1, 6) ∷ (1, 6) ∷ (0, 1) ∷ (0, 5)
    ∷ (1, 2) ∷ (1, 3) ∷ (1, 6) ∷ (0, 1) ∷ (0, 2) ∷ [])

abbrev pub machine_13 : Machine (Unit {0})
machine_13 =
    after (record {
      shape = record { cores = 3; shards = 2; batch = 2; steal_cost = 8; group = 4 };
      rows = ((16, 1) ∷ (9, 2) ∷ (13, 1) ∷ []);
      pinned = 0;
    }) 7
    ((col 2, event 2 0) ∷ (col 2, event 2 2) ∷ (col 2, event 0 2) ∷ (col 2, event 2 0)
    ∷ (col 0, event 2 3) ∷ (col 1, event 2 1) ∷ (col 0, event 2 1) ∷ (col 1, event 0 5)
    ∷ (col 6, event 1 2) ∷ (col 0, event 0 6) ∷ [])
    ((0, 3) ∷ (2, 1) ∷ (1, 2) ∷ (0, 4) ∷ (2, 1) ∷ (0, 1) ∷ (2, 3) ∷ (1, 2) ∷ (0, 6) ∷ (0, 6) ∷ [])

abbrev pub machine_14 : Machine (Unit {0})
machine_14 =
    after (record {
      shape = record { cores = 3; shards = 2; batch = 2; steal_cost = 3; group = 4 };
      rows = ((14, 2) ∷ (33, 1) ∷ (8, 1) ∷ []);
      pinned = 0;
    }) 6
    ((col 0, event 0 4) ∷ (col 5, event 1 2) ∷ (col 5, event 0 2) ∷ (col 1, event 2 5)
    ∷ (col 3, event 0 2) ∷ (col 0, event 0 3) ∷ (col 5, event 0 0) ∷ (col 3, event 2 4)
    ∷ (col 2, event 2 3) ∷ [])
    ((2, 2) ∷ (2, 4) ∷ (1, 2) ∷ (2, 2) ∷ (2, 1) ∷ (1, 3) ∷ (0, 6) ∷ (0, 4) ∷ (1, 5) ∷ (2, 6)
    ∷ (0, 2) ∷ (0, 2) ∷ (2, 1) ∷ (0, 4) ∷ [])

abbrev pub machine_15 : Machine (Unit {0})
machine_15 =
    after (record {
      shape = record { cores = 3; shards = 1; batch = 2; steal_cost = 8; group = 4 };
      rows = ((15, 1) ∷ (27, 3) ∷ (36, 2) ∷ []);
      pinned = 0;
    }) 8
    ((col 2, event 2 2) ∷ (col 0, event 0 3) ∷ (col 4, event 2 4) ∷ (col 7, event 2 7)
    ∷ (col 6, event 0 0) ∷ (col 1, event 0 0) ∷ (col 2, event 1 0) ∷ (col 0, event 0 6)
    ∷ (col 6, event 2 0) ∷ (col 7, event 2 0) ∷ (col 2, event 2 0) ∷ [])
    ((1, 1) ∷ (1, 6) ∷ (2, 5) ∷ (1, 4) ∷ (2, 2) ∷ (2, 4) ∷ (0, 3) ∷ (0, 1) ∷ (0, 2) ∷ (2, 4)
    ∷ (2, 4) ∷ [])

abbrev pub machine_16 : Machine (Unit {0})
machine_16 =
    after (record {
      shape = record { cores = 2; shards = 1; batch = 1; steal_cost = 8; group = 4 };
      rows = ((10, 3) ∷ (14, 2) ∷ (29, 2) ∷ []);
      pinned = 0;
    }) 5
    ((col 4, event 2 4) ∷ (col 4, event 2 4) ∷ (col 3, event 0 1) ∷ (col 1, event 2 3)
    ∷ (col 3, event 0 2) ∷ (col 2, event 0 1) ∷ [])
    ((1, 5) ∷ (0, 1) ∷ (0, 4) ∷ (0, 5) ∷ (1, 3) ∷ (0, 2) ∷ (0, 1) ∷ (1, 5) ∷ (1, 1) ∷ (1, 1)
    ∷ (0, 2) ∷ [])

abbrev pub machine_17 : Machine (Unit {0})
machine_17 =
    after (record {
      shape = record { cores = 3; shards = 2; batch = 1; steal_cost = 3; group = 4 };
      rows = ((28, 3) ∷ (7, 1) ∷ (34, 2) ∷ []);
      pinned = 0;
    }) 8
    ((col 6, event 1 6) ∷ (col 5, event 0 3) ∷ (col 4, event 2 2) ∷ (col 6, event 2 2)
    ∷ (col 1, event 1 1) ∷ (col 3, event 1 6) ∷ (col 1, event 2 1) ∷ (col 1, event 2 6) ∷ [])
    ((2, 6) ∷ (0, 6) ∷ (0, 3) ∷ (1, 2) ∷ (2, 4) ∷ (0, 6) ∷ (2, 2) ∷ (2, 5) ∷ (2, 2) ∷ (1, 3)
    ∷ (1, 4) ∷ (1, 4) ∷ (0, 3) ∷ (0, 5) ∷ (0, 5) ∷ [])

abbrev pub machine_18 : Machine (Unit {0})
machine_18 =
    after (record {
      shape = record { cores = 2; shards = 1; batch = 2; steal_cost = 3; group = 4 };
      rows = ((37, 3) ∷ (12, 2) ∷ (34, 1) ∷ []);
      pinned = 0;
    }) 5
    ((col 3, event 0 2) ∷ (col 4, event 1 4) ∷ (col 3, event 2 3) ∷ (col 3, event 2 2)
    ∷ (col 2, event 2 2) ∷ (col 4, event 2 4) ∷ (col 4, event 0 3) ∷ (col 1, event 2 3) ∷ [])
    ((1, 5) ∷ (0, 4) ∷ (1, 2) ∷ (0, 6) ∷ (1, 1) ∷ (1, 2) ∷ (0, 3) ∷ (1, 5) ∷ [])

abbrev pub machine_19 : Machine (Unit {0})
machine_19 =
    after (record {
      shape = record { cores = 3; shards = 1; batch = 1; steal_cost = 3; group = 4 };
      rows = ((32, 3) ∷ (36, 2) ∷ (11, 1) ∷ []);
      pinned = 0;
    }) 9
    ((col 6, event 2 4) ∷ (col 7, event 2 3) ∷ (col 8, event 0 5) ∷ (col 8, event 0 2)
    ∷ (col 7, event 0 6) ∷ (col 7, event 0 8) ∷ (col 2, event 2 7) ∷ (col 6, event 2 3)
    ∷ (col 3, event 1 8) ∷ (col 7, event 2 6) ∷ (col 4, event 0 6) ∷ (col 6, event 2 0) ∷ [])
    ((0, 1) ∷ (1, 1) ∷ (0, 5) ∷ (2, 2) ∷ (2, 6) ∷ (0, 1) ∷ (1, 5) ∷ (0, 5) ∷ (1, 6) ∷ (2, 5)
    ∷ (0, 3) ∷ [])

abbrev pub machine_20 : Machine (Unit {0})
machine_20 =
    after (record {
      shape = record { cores = 2; shards = 2; batch = 2; steal_cost = 8; group = 4 };
      rows = ((37, 1) ∷ (26, 3) ∷ (37, 2) ∷ []);
      pinned = 0;
    }) 6
    ((col 5, event 0 2) ∷ (col 5, event 2 3) ∷ (col 3, event 0 4) ∷ (col 3, event 2 4)
    ∷ (col 5, event 2 3) ∷ (col 1, event 0 4) ∷ [])
    ((1, 4) ∷ (1, 6) ∷ (0, 3) ∷ (1, 5) ∷ (0, 5) ∷ (0, 3) ∷ (0, 1) ∷ (1, 5) ∷ (1, 2) ∷ (0, 5)
    ∷ (1, 2) ∷ (0, 3) ∷ (0, 5) ∷ (0, 2) ∷ (1, 4) ∷ [])

abbrev pub machine_21 : Machine (Unit {0})
machine_21 =
    after (record {
      shape = record { cores = 2; shards = 1; batch = 2; steal_cost = 5; group = 4 };
      rows = ((21, 1) ∷ (37, 1) ∷ (21, 3) ∷ []);
      pinned = 0;
    }) 9
    ((col 8, event 2 8) ∷ (col 1, event 2 5) ∷ (col 8, event 1 5) ∷ (col 6, event 0 7)
    ∷ (col 0, event 2 8) ∷ (col 4, event 0 0) ∷ (col 5, event 0 5) ∷ (col 4, event 2 0)
    ∷ (col 4, event 1 8) ∷ (col 5, event 2 6) ∷ [])
    ((1, 6) ∷ (1, 6) ∷ (1, 1) ∷ (1, 1) ∷ (1, 1) ∷ (0, 1) ∷ (1, 4) ∷ (0, 1) ∷ (1, 1) ∷ [])

abbrev pub machine_22 : Machine (Unit {0})
machine_22 =
    after (record {
      shape = record { cores = 3; shards = 1; batch = 2; steal_cost = 8; group = 4 };
      rows = ((13, 2) ∷ (15, 2) ∷ (26, 2) ∷ []);
      pinned = 0;
    }) 5
    ((col 3, event 2 1) ∷ (col 3, event 0 4) ∷ (col 1, event 0 1) ∷ (col 0, event 2 3)
    ∷ (col 0, event 0 2) ∷ (col 3, event 2 1) ∷ (col 0, event 2 3) ∷ (col 2, event 2 3)
    ∷ (col 0, event 1 2) ∷ (col 0, event 1 4) ∷ (col 4, event 2 4) ∷ (col 2, event 1 4) ∷ [])
    ((2, 3) ∷ (0, 5) ∷ (0, 3) ∷ (0, 4) ∷ (2, 5) ∷ (0, 1) ∷ (2, 1) ∷ (0, 4) ∷ (2, 4) ∷ (1, 5)
    ∷ (1, 4) ∷ [])

abbrev pub machine_23 : Machine (Unit {0})
machine_23 =
    after (record {
      shape = record { cores = 3; shards = 1; batch = 2; steal_cost = 3; group = 4 };
      rows = ((9, 3) ∷ (18, 3) ∷ (16, 3) ∷ []);
      pinned = 0;
    }) 5
    ((col 2, event 2 3) ∷ (col 0, event 2 1) ∷ (col 4, event 0 3) ∷ (col 2, event 1 3)
    ∷ (col 2, event 2 1) ∷ (col 1, event 2 3) ∷ (col 1, event 1 2) ∷ (col 2, event 0 0) ∷ [])
    ((2, 6) ∷ (1, 5) ∷ (1, 5) ∷ (0, 3) ∷ (2, 1) ∷ (2, 1) ∷ (0, 6) ∷ (1, 6) ∷ (1, 3) ∷ [])
