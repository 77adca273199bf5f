-- What the state of a colour keeps, whoever runs it: what it has is what the events of its trail
-- have made of the initial state.
use Rattle.std.specs.Prelude.{◌≡◌, ℕ, ◌+◌, ◌≤◌, ◌<◌, false, List, [], ◌∷◌, ◌++◌, map, Option, Some, None, IfSome}
use Rattle.std.specs.List.{AllByRecursion}
use Rattle.mely_event.specs.declared.colour.Colour.{Colour}
use Rattle.mely_event.specs.declared.event.Event.{Event}
use Rattle.sws_link.specs.declared.Link.{Ghosts as LinkWords}
use Rattle.sws_link.specs.declared.world.World.{Ghosts as WorldWords}
use Rattle.sws_log.specs.declared.line.LogLine.{LogLine}
use Rattle.sws_steps.specs.declared.talk.Talk.{Ghosts as TalkWords}
use Rattle.sws_steps.specs.declared.Handler.{Handler}
use Rattle.sws_conn.specs.Talks.{unopened_view, reported_next, due}
use Rattle.sws_handlers.specs.declared.place.Desk.{Desk}
use Rattle.sws_handlers.specs.declared.place.Seat.{Seat}
use Rattle.sws_handlers.specs.declared.place.Role.{Role}
use Rattle.sws_handlers.specs.declared.place.Role.TheVariants.{Polling, Accepting, Talking, Logging}
use Rattle.sws_handlers.specs.Loads.{WorldStands, LinkStands, IsLineIn}
use Rattle.sws_handlers.specs.Tasks.{event_for}
use Rattle.sws_handlers.specs.Handling.{is_due, conn_of}
use Rattle.sws_handlers.specs.Place.{PlaceState}
use Rattle.sws_handlers.specs.Counting.{times}

module _ {W L : Type 0} (x : WorldWords W L) (l : LinkWords L) (first : W) where
  -- each connection of the run may wait, once at most, nobody else does, and a world that
  -- rests is the one of the run
  pub record DeskStands (desk : Desk W) : Type 0 where
    pub room : desk.waiting.total ≡ (x.tells first).total
    pub once : (conn : ℕ) → times conn desk.waiting.items ≤ 1
    pub below : (conn : ℕ) → (x.tells first).total ≤ conn → times conn desk.waiting.items ≡ 0
    pub resting : IfSome desk.resting (WorldStands x l first)

module _ {W L T G H : Type 0} (x : WorldWords W L) (l : LinkWords L) (y : TalkWords T L G H)
    (hall : H) (first : W) (conn : ℕ) where
  -- these steps were run on the connection, from the unopened one on
  abbrev pub RanBy : List Handler → T → Type 0
  RanBy [] talk = (y.link_of talk ≡ None) × (y.view_of talk ≡ unopened_view)
  RanBy (step ∷ steps) talk = (link : L) × LinkStands x l first conn link
      × y.has_run link (step ∷ steps) talk

  -- the first event that wasn't due came after these steps
  pub record FirstStray (trail : List Event) (event : Event) : Type 0 where
    pub front : List Handler
    pub talk : T
    pub more : List Event
    pub is : trail ≡ map (event_for conn) front ++ event ∷ more
    pub ran : RanBy front talk
    pub hall_is : y.hall_of talk ≡ hall
    pub stray : is_due conn (due (y.view_of talk)) event ≡ false

  -- without a stray event the trail is the steps that were run
  abbrev pub TrailIs : List Event → List Handler → Option Event → Type 0
  TrailIs trail ran None = trail ≡ map (event_for conn) ran
  TrailIs trail ran (Some event) = FirstStray trail event

  -- the talk is over the hall; the steps it has run make up the trail, unless an event was stray
  pub record SeatStands (trail : List Event) (seat : Seat T) : Type 0 where
    pub hall_is : y.hall_of seat.talk ≡ hall
    pub next : seat.next ≡ reported_next (y.view_of seat.talk)
    pub answered : seat.answered ≡ (y.view_of seat.talk).lines
    pub ran : List Handler
    pub runs : RanBy ran seat.talk
    pub trailed : TrailIs trail ran seat.stray

module _ {W L T G H : Type 0} (x : WorldWords W L) (l : LinkWords L) (y : TalkWords T L G H) where
  -- the lines are of the connections that the events of the trail name, in this order, and each
  -- is one of its connection's log
  pub record LogStands (hall : H) (first : W) (trail : List Event)
      (lines : List LogLine) : Type 0 where
    pub named : map (λ line. line.conn) lines ≡ map (λ event. event.arg) trail
    pub told : AllByRecursion (λ line. (line.conn < (x.tells first).total)
        × IsLineIn (y.log hall) (x.tells first).coming line) lines

  -- the role is that of the colour, and its desk, its seat or its lines are sound
  abbrev pub RoleStands : H → W → Colour → List Event → List LogLine → Role W T → Type 0
  RoleStands hall first c trail lines (Polling desk) = (c.0 ≡ 0) × DeskStands x l first desk
  RoleStands hall first c trail lines Accepting = c.0 ≡ 1
  RoleStands hall first c trail lines (Talking seat) = ((2 ≤ c.0)
      × (c.0 < (x.tells first).total + 2))
      × SeatStands x l y hall first (conn_of c) trail seat
  RoleStands hall first c trail lines Logging = (c.0 ≡ (x.tells first).total + 2)
      × LogStands hall first trail lines

  -- the role of a state is sound by the state's own hall, world, colour, trail and lines
  abbrev pub IsConsistent : PlaceState H W T → Type 0
  IsConsistent place =
      RoleStands place.hall place.first place.colour place.trail place.lines.came place.role
