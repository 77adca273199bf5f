-- What is still under way at the end of a run fits, and each state is over the hall.
use Rattle.std.specs.Prelude.{◌≡◌, ℕ, List, Option, Some, slice_get}
use Rattle.std.specs.List.{AllByRecursion}
use Rattle.mely_event.specs.declared.colour.Colour.{Colour}
use Rattle.mely_event.specs.declared.event.Event.{Event}
use Rattle.mely_queue.specs.Turn.{EachFits}
use Rattle.sws_link.specs.declared.Link.{Ghosts as LinkWords}
use Rattle.sws_link.specs.declared.world.World.{Ghosts as WorldWords}
use Rattle.sws_handlers.specs.declared.load.Load.{Load}
use Rattle.sws_handlers.specs.Loads.{Fit}
use Rattle.sws_handlers.specs.Place.{PlaceState}

module _ {W L : Type 0} (x : WorldWords W L) (l : LinkWords L) (first : W) where
  -- each state is over the hall, and each event queued or refused fits its load and its colour
  pub record RunFits {H T : Type 0} (hall : H) (states : List (PlaceState H W T))
      (waits : List (List (Event × Option (Load W L))))
      (refused : List (Colour × Event × Option (Load W L))) : Type 0 where
    pub of_hall : (i : ℕ) (place : PlaceState H W T)
        → slice_get states i ≡ Some place → place.hall ≡ hall
    pub queued : (c : Colour) (events : List (Event × Option (Load W L)))
        → slice_get waits c.0 ≡ Some events → EachFits (Fit x l first c) events
    pub lost : AllByRecursion (λ put. Fit x l first put.0 put.1 put.2) refused
