-- What waits on one colour.
use Rattle.std.specs.Prelude.{ℕ, ◌+◌, List, [], ◌∷◌, ◌++◌, Option, length, drop}
use Rattle.mely_event.specs.declared.event.Event.{Event}

-- the events that wait with their loads, the oldest first; the weight of each; and how many events
-- were started and finished
pub record ColourQueueState (P : Type 0) : Type 0 where
  pub events : List (Event × Option P)
  pub weights : List ℕ
  pub started : ℕ
  pub finished : ℕ

-- how many events were registered: those that were started and those that wait
abbrev pub registered_in : {P : Type 0} → ColourQueueState P → ℕ
registered_in q = q.started + length q.events

-- one more event at the back
abbrev pub after_push : {P : Type 0} → ColourQueueState P → Event → Option P → ℕ
    → ColourQueueState P
after_push q event load weight = record q {
  events = q.events ++ (event, load) ∷ [];
  weights = q.weights ++ weight ∷ [];
}

-- the first ones were started
abbrev pub after_take : {P : Type 0} → ColourQueueState P → ℕ → ColourQueueState P
after_take q count = record q {
  events = drop count q.events;
  weights = drop count q.weights;
  started = q.started + count;
}

-- so many of those that were started were finished
abbrev pub finished_by : {P : Type 0} → ColourQueueState P → ℕ → ColourQueueState P
finished_by q count = record q { finished = q.finished + count }
