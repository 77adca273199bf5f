-- What has become of a connection, by the state of its colour alone: over a
-- weave and over threads alike.
use Rattle.std.specs.Prelude.{◌≡◌, ℕ, List, [], ◌∷◌, map, Option, Some, None}
use Rattle.sws_link.specs.declared.Link.{Ghosts as LinkWords}
use Rattle.sws_link.specs.declared.world.World.{Ghosts as WorldWords}
use Rattle.sws_steps.specs.declared.talk.Talk.{Ghosts as TalkWords}
use Rattle.sws_conn.specs.Outcome.{UnlessMemory}
use Rattle.sws_steps.specs.declared.Handler.{Handler}
use Rattle.sws_conn.specs.Path.{TakesOff}
use Rattle.sws_conn.specs.Talks.{unopened_view, due, HasServed, path_to_come, IsDue}
use Rattle.sws_steps.specs.Talks.{LinesServed}
use Rattle.sws_handlers.specs.declared.place.Seat.{Seat}
use Rattle.sws_handlers.specs.Place.{PlaceState}
use Rattle.sws_handlers.specs.Loads.{LinkStands}
use Rattle.sws_handlers.specs.Handling.{conn_of}
use Rattle.sws_handlers.specs.Tasks.{event_for}

module _ {W L T G H : Type 0} (x : WorldWords W L) (l : LinkWords L) (y : TalkWords T L G H)
    (place : PlaceState H W T) (seat : Seat T) where
  -- the number of the connection of the place
  abbrev pub conn : ℕ
  conn = conn_of place.colour

  -- a connection without a link is unopened; one with a link was given the link of its number,
  -- has served it so far, and gave the lines of what it served
  abbrev pub ServedBy : Option L → Type 0
  ServedBy None = y.view_of seat.talk ≡ unopened_view
  ServedBy (Some now) = (first : L) × LinkStands x l place.first conn first
      × HasServed l (y.responses place.hall) (y.outcome place.hall) first now (y.view_of seat.talk)
      × LinesServed (y.log place.hall conn) (l.tells first) (y.view_of seat.talk)

  -- the steps that were run come first on the path of a link that told its answers to come, whose
  -- rest begins with the due one
  abbrev pub OnPath : List Handler → Type 0
  OnPath [] = y.view_of seat.talk ≡ unopened_view
  OnPath (step ∷ steps) =
      (first : L) × LinkStands x l place.first conn first
      × UnlessMemory (y.view_of seat.talk).end (TakesOff (step ∷ steps)
      (path_to_come (y.path place.hall) (l.tells first)) (y.rest_of seat.talk))
      × IsDue (due (y.view_of seat.talk)) (y.rest_of seat.talk)

  -- the connection was served so far; unless an event was stray, its trail is the steps it ran
  pub record SeatServes : Type 0 where
    -- it answers out of the hall of the place
    pub hall_is : y.hall_of seat.talk ≡ place.hall
    pub served : ServedBy (y.link_of seat.talk)
    -- its lines were counted
    pub answered : seat.answered ≡ (y.view_of seat.talk).lines
    -- without a stray event the trail is the steps that were run
    pub trailed : seat.stray ≡ None → (ran : List Handler)
        × (place.trail ≡ map (event_for conn) ran) × OnPath ran
