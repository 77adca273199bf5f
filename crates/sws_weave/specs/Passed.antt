-- What a gate was told of a run: that a core was about to run the handler of an event.
use Rattle.std.specs.Prelude.{◌≡◌, ℕ, List, Some, map, slice_get}
use Rattle.std.specs.List.{AllByRecursion}
use Rattle.mely_event.specs.declared.colour.Colour.{Colour}
use Rattle.mely_event.specs.declared.event.Event.{Event}
use Rattle.mely_tally.specs.Account.{taken_of}
use Rattle.mely_weave.specs.Side.{history_for}
use Rattle.mely_weave.specs.Weave.{WeaveState}
use Rattle.sws_handlers.specs.declared.ended.Ended.{Ended}
use Rattle.sws_handlers.specs.Place.{PlaceState}

module _ (passed : Colour → Event → Type 0) where
  -- each event that was taken on a colour of the weave has passed
  abbrev pub WeavePassed : {S P : Type 0} → WeaveState S P → Type 0
  WeavePassed weave = (c : Colour)
      → AllByRecursion (passed c) (taken_of (history_for weave.setup weave.shards c) c)

  -- each event that was run on a colour has passed, by the trails of all colours in order
  abbrev pub TrailsPassed : List (List Event) → Type 0
  TrailsPassed trails = (i : ℕ) (trail : List Event) → slice_get trails i ≡ Some trail
      → AllByRecursion (passed (record { 0 = i })) trail

  -- so it has by the trails that a run of the server leaves
  abbrev pub HandlersPassed : {W L : Type 0} → Ended W L → Type 0
  HandlersPassed ended = TrailsPassed (map (λ trail. trail.items) ended.trails.items)

  -- and by those of the states that it leaves
  abbrev pub StatesPassed : {H W T : Type 0} → List (PlaceState H W T) → Type 0
  StatesPassed states = TrailsPassed (map (λ place. place.trail) states)
