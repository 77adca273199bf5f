-- What a history says of one colour (the rules on colours and on stealing whole
-- colours of libasync-smp).
use Rattle.std.specs.Prelude.{◌<◌, ◌%◌, ℕ, List, Option, None, take, drop, unwrap_or, filter_map, sum_by, fold}
use Rattle.std.specs.Option.{option_or}
use Rattle.mely_event.specs.HandlerTable.{rows_of, weight_of}
use Rattle.mely_event.specs.declared.colour.Colour.{Colour}
use Rattle.mely_event.specs.declared.event.Event.{Event}
use Rattle.mely_history.specs.Setup.{shape_of, handlers_of}
use Rattle.mely_history.specs.Entries.{registration_on, take_on, taken_on, finished_on, thief_on}
use Rattle.mely_history.specs.declared.setup.Setup.{Setup}
use Rattle.mely_history.specs.declared.entry.Entry.{Entry}

-- the events that were registered on it, in order
abbrev pub registered_of : List Entry → Colour → List Event
registered_of history c = filter_map (registration_on c) history

-- how many of its events were taken
abbrev pub begun_of : List Entry → Colour → ℕ
begun_of history c = sum_by (taken_on c) history

-- how many of its events were finished
abbrev pub ended_of : List Entry → Colour → ℕ
ended_of history c = sum_by (finished_on c) history

-- the core of its last take, and how many events that took
abbrev pub last_take : List Entry → Colour → Option (ℕ × ℕ)
last_take history c = fold (λ found entry. option_or (take_on c entry) found) None history

-- the core that stole it last; where none did, the core that it began on
abbrev pub owner_of : Setup → List Entry → Colour → ℕ
owner_of setup history c =
    fold (λ core entry. unwrap_or (thief_on c entry) core) (c.0 % (shape_of setup).cores) history

-- its events that wait: those registered, without the first ones, which were taken
abbrev pub queued_of : List Entry → Colour → List Event
queued_of history c = drop (begun_of history c) (registered_of history c)

-- its events that were run, in order: as many of the first ones registered as were finished
abbrev pub ran_of : List Entry → Colour → List Event
ran_of history c = take (ended_of history c) (registered_of history c)

-- the weight of an event
abbrev pub weight : Setup → Event → ℕ
weight setup event = weight_of (rows_of (handlers_of setup)) event.handler

-- its time left: the sum of the weights of its queued events (Mely's measure
-- of what a steal is worth)
abbrev pub worth_of : Setup → List Entry → Colour → ℕ
worth_of setup history c = sum_by (weight setup) (queued_of history c)

-- it runs: more of its events were taken than finished
abbrev pub IsRunning : List Entry → Colour → Type 0
IsRunning history c = ended_of history c < begun_of history c
