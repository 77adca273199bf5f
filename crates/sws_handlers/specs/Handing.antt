-- What is still under way at the end of a run is handed out: the world, and links that never
-- came to their connections.
use Rattle.std.specs.Prelude.{◌≡◌, ℕ, zero, suc, List, [], ◌∷◌, Option, None, Some}
use Rattle.mely_event.specs.declared.event.Event.{Event}
use Rattle.sws_handlers.specs.declared.ended.Served.{Served}
use Rattle.sws_handlers.specs.declared.left.Left.{Left}
use Rattle.sws_handlers.specs.declared.load.WorldLoad.{WorldLoad}
use Rattle.sws_handlers.specs.declared.load.Load.{Load}
use Rattle.sws_handlers.specs.declared.load.Load.TheVariants as load
use Rattle.sws_handlers.specs.RunLeaves.{or_else}

module _ {L : Type 0} where
  -- a connection without a link gets this one
  abbrev pub give_link : L → Served L → Served L
  give_link link s = record s { link = or_else s.link (Some link) }

  -- the connection of this number does, if there is one
  abbrev pub place_link : L → ℕ → List (Served L) → List (Served L)
  place_link link i [] = []
  place_link link zero (s ∷ served) = give_link link s ∷ served
  place_link link (suc i) (s ∷ served) = s ∷ place_link link i served

module _ {W L : Type 0} where
  -- the connections, with the link of one event
  abbrev pub served_with_load : ℕ → Option (Load W L) → List (Served L) → List (Served L)
  served_with_load i None served = served
  served_with_load i (Some (load.World held)) served = served
  served_with_load i (Some (load.Link link)) served = place_link link i served
  served_with_load i (Some (load.Line line)) served = served

  -- the world, where this event has it, or as it was found before
  abbrev pub world_with_load : Option (Load W L) → Option (WorldLoad W) → Option (WorldLoad W)
  world_with_load None world = world
  world_with_load (Some (load.World held)) world = Some held
  world_with_load (Some (load.Link link)) world = world
  world_with_load (Some (load.Line line)) world = world

  -- the connections, with the links of all these events
  abbrev pub served_with_loads : List (Event × Option (Load W L)) → List (Served L)
      → List (Served L)
  served_with_loads [] served = served
  served_with_loads (e ∷ events) served =
      served_with_loads events (served_with_load e.0.arg e.1 served)

  -- the world, where it is in one of them, or as it was found before
  abbrev pub world_with_loads : List (Event × Option (Load W L)) → Option (WorldLoad W)
      → Option (WorldLoad W)
  world_with_loads [] world = world
  world_with_loads (e ∷ events) world = world_with_loads events (world_with_load e.1 world)

  -- the events hand out their links and their world, and the trails and the log stay as they are
  pub record HandsOut (events : List (Event × Option (Load W L)))
      (before after : Left W L) : Type 0 where
    pub served : after.served.items ≡ served_with_loads events before.served.items
    pub world : after.world ≡ world_with_loads events before.world
    pub trails : after.trails ≡ before.trails
    pub log : after.log ≡ before.log
