-- What contracts see of the state of a colour.
use Rattle.sws_handlers.specs.declared.place.Place.TheInside.{Inside}
use Rattle.sws_handlers.specs.declared.place.Frame.{Frame}
use Rattle.sws_handlers.specs.Place.{PlaceState}

-- the state of a colour, of its private fields
abbrev pub state_of : {W L T G H : Type 0} → (G → H) → Inside W T L G H → PlaceState H W T
state_of contents p = record {
  colour = p.colour;
  trail = p.trail.items;
  lines = p.lines;
  hall = contents p.hall;
  first = p.first.value;
  role = p.role.value;
}

-- the frame of a state: the hall, and the world as it was at first
abbrev pub frame_in : {H W T : Type 0} → PlaceState H W T → Frame H W
frame_in s = record { hall = s.hall; first = s.first }
