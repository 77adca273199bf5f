-- What the parts keep of a weave that was run and taken apart.
use Rattle.std.specs.Prelude.{◌≡◌, ℕ, ◌+◌, ◌≤◌, ◌<◌, Bool, List, [], Option, Some, length, flat_map, slice_get}
use Rattle.mely_event.specs.declared.colour.Colour.{Colour}
use Rattle.mely_event.specs.declared.event.Event.{Event}
use Rattle.mely_history.specs.History.{ran_of}
use Rattle.mely_history.specs.Legal.{AreLegal, IsDrained}
use Rattle.mely_history.specs.Setup.{shape_of}
use Rattle.mely_history.specs.declared.entry.Entry.{Entry}
use Rattle.mely_history.specs.declared.setup.Setup.{Setup}
use Rattle.mely_weave.specs.Side.{shard_of}
use Rattle.mely_weave.specs.declared.draining.Drained.{Drained}
use Rattle.mely_weave.specs.declared.draining.Drained.TheVariants.{Empty}
use Rattle.sws_link.specs.declared.world.World.{Ghosts as WorldWords}
use Rattle.sws_steps.specs.declared.talk.Talk.{Ghosts as TalkWords}
use Rattle.sws_handlers.specs.declared.load.Load.{Load}
use Rattle.sws_handlers.specs.declared.place.Desk.{Desk}
use Rattle.sws_handlers.specs.declared.place.Seat.{Seat}
use Rattle.sws_handlers.specs.declared.place.Role.TheVariants.{Polling, Accepting, Talking, Logging}
use Rattle.sws_handlers.specs.Counting.{colours_over}
use Rattle.sws_handlers.specs.Place.{PlaceState}

-- the state is of the colour, and has its role: the first polls, the second accepts, so many more
-- talk, and one behind these keeps the log
pub record IsPlacedAs {H W T : Type 0} (total i : ℕ) (place : PlaceState H W T) : Type 0 where
  pub colour : place.colour.0 ≡ i
  pub polls : i ≡ 0 → (desk : Desk W) × (place.role ≡ Polling desk)
  pub accepts : i ≡ 1 → place.role ≡ Accepting
  pub talks : 2 ≤ i → i < total + 2 → (seat : Seat T) × (place.role ≡ Talking seat)
  pub logs : i ≡ total + 2 → place.role ≡ Logging

-- The histories are legal, one for each shard, and where the weave was drained each of them is and
-- nothing is queued. There is a state for each colour, of its role, over the world that was handed
-- in, and its trail is what was run of it.
pub record PartsKept {W L T G H : Type 0} (x : WorldWords W L) (y : TalkWords T L G H)
    (setup : Setup) (first : W) (log : Bool) (how : Drained) (histories : List (List Entry))
    (states : List (PlaceState H W T))
    (queued : List (List (Event × Option (Load W L)))) : Type 0 where
  pub legal : AreLegal setup histories
  pub shards : length histories ≡ (shape_of setup).shards
  pub drained : how ≡ Empty → (shard : ℕ) (history : List Entry) → slice_get histories shard
      ≡ Some history → IsDrained history
  pub emptied : how ≡ Empty → flat_map (λ events. events) queued ≡ []
  pub many : length states ≡ colours_over (x.tells first).total log
  pub placed : (i : ℕ) (place : PlaceState H W T)
      → slice_get states i ≡ Some place → IsPlacedAs (x.tells first).total i place
  pub of_world : (i : ℕ) (place : PlaceState H W T)
      → slice_get states i ≡ Some place → place.first ≡ first
  pub trailed : (c : Colour) (place : PlaceState H W T) (history : List Entry)
      → slice_get states c.0 ≡ Some place → slice_get histories (shard_of setup c) ≡ Some history
      → place.trail ≡ ran_of history c
