-- The batches of a colour. That of a take is as many events as it counts, from those that were
-- begun before it on, in the order of registration.
use Rattle.std.specs.Prelude.{◌≡◌, ◌<◌, ◌≤◌, ◌+◌, ℕ, List, ◌++◌, Some, length, take, slice_get}
use Rattle.mely_event.specs.declared.colour.Colour.{Colour}
use Rattle.mely_event.specs.declared.event.Event.{Event}
use Rattle.mely_history.specs.History.{registered_of, begun_of, ended_of, ran_of}
use Rattle.mely_history.specs.declared.entry.Entry.{Entry}
use Rattle.mely_history.specs.declared.entry.Entry.TheVariants.{Take, Fin}

-- the entry at the place is a take of the colour
abbrev pub IsTakeAt : List Entry → Colour → ℕ → ℕ → ℕ → Type 0
IsTakeAt history c at core count = slice_get history at ≡ Some (Take c core count)

-- the batches of a colour follow one another, as the law of histories says
pub record FollowOneAnother (history : List Entry) (c : Colour) : Type 0 where
  -- between two takes there is the finish of the first
  pub finished_before : (i j core count core' count' : ℕ) → i < j → IsTakeAt history c i core count
      → IsTakeAt history c j core' count' → (at : ℕ) × (i < at) × (at < j)
      × (slice_get history at ≡ Some (Fin c core count))
  -- a batch has some event, and all its events were registered before it was taken
  pub registered_before : (i core count : ℕ) → IsTakeAt history c i core count → (0 < count)
      × (begun_of (take i history) c + count ≤ length (registered_of (take i history) c))
  -- no event is in two batches: each begins where those before it end, or later
  pub apart : (i j core count core' count' : ℕ) → i < j → IsTakeAt history c i core count
      → IsTakeAt history c j core' count' → begun_of (take i history) c + count
      ≤ begun_of (take j history) c
  -- the events that were run are the first ones that were registered, as many as were finished
  pub run_in_order : (rest : List Event) × (registered_of history c ≡ ran_of history c ++ rest)
      × (length (ran_of history c) ≡ ended_of history c)
