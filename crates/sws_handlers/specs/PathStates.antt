-- What the states and loads of the server have of the paths of its connections,
-- where its world is scripted.
use Rattle.std.specs.Prelude.{◌≡◌, ◌≢◌, ◌≤◌, ◌<◌, ◌+◌, ℕ, Bool, true, false, ◌++◌, IsTrue, List, [], ◌∷◌, drop, Option, None, Some, ⊤, length, map, slice_get, option_map}
use Rattle.mely_event.specs.declared.colour.Colour.{Colour}
use Rattle.mely_event.specs.declared.event.Event.{Event}
use Rattle.sws_link.specs.declared.Link.{Ghosts as LinkWords}
use Rattle.sws_link.specs.declared.world.World.{Ghosts as WorldWords}
use Rattle.sws_link.specs.Worlds.{Coming}
use Rattle.sws_steps.specs.declared.End.{End}
use Rattle.sws_steps.specs.declared.End.TheVariants.{Done, Idle, Fault, Memory}
use Rattle.sws_steps.specs.declared.talk.Talk.{Ghosts as TalkWords}
use Rattle.sws_link.specs.Links.{LinkContents}
use Rattle.sws_link.specs.Scripts.{Script}
use Rattle.sws_steps.specs.Logs.{Step}
use Rattle.sws_steps.specs.declared.Handler.TheVariants as handler
use Rattle.sws_conn.specs.Path.{answers_to_come}
use Rattle.sws_conn.specs.Talks.{unopened_view, due}
use Rattle.sws_handlers.specs.declared.load.WorldLoad.{WorldLoad}
use Rattle.sws_handlers.specs.declared.load.Load.{Load}
use Rattle.sws_handlers.specs.declared.load.Load.TheVariants as load
use Rattle.sws_handlers.specs.declared.place.Desk.{Desk}
use Rattle.sws_handlers.specs.declared.place.Role.{Role}
use Rattle.sws_handlers.specs.declared.place.Role.TheVariants.{Polling, Accepting, Talking, Logging}
use Rattle.sws_handlers.specs.Place.{PlaceState}
use Rattle.sws_handlers.specs.Loads.{Fit}
use Rattle.sws_handlers.specs.Handling.{Runs}
use Rattle.sws_handlers.specs.PathPlaces as path

-- the steps of a link to come, where it tells its answers
abbrev pub steps_to_come : (Script → List Step) → Option LinkContents → Option (List Step)
steps_to_come steps tells = option_map steps (answers_to_come tells)

module _ {W L T G H : Type 0} (x : WorldWords W L) (l : LinkWords L) (y : TalkWords T L G H)
    (hall : H) where
  -- the world is scripted, and these are the steps of the paths of its links to come
  pub record TellsPaths (first : W) (paths : List (List Step)) : Type 0 where
    pub scripted : IsTrue (x.tells first).scripted
    pub many : (x.tells first).total ≡ length paths
    pub coming : List Coming
    pub told : (x.tells first).coming ≡ Some coming
    pub each : (i : ℕ) (link : Coming) (way : List Step) → slice_get coming i ≡ Some link
        → slice_get paths i ≡ Some way → option_map (y.steps hall) link.answers ≡ Some way

  -- ---- a state and a load as the paths have them

  module _ (paths : List (List Step)) where
    -- the world has accepted so many links, and has the paths of the others to come
    pub record HasWorld (held : WorldLoad W) (w : path.World) : Type 0 where
      pub accepted : w.accepted ≡ held.accepted
      pub coming : w.coming ≡ drop held.accepted paths

    -- a world rests on both sides, the one as the other, or none rests on either
    abbrev pub HasRest : Option (WorldLoad W) → Option path.World → Type 0
    HasRest None None = ⊤
    HasRest None (Some w) = ⊥
    HasRest (Some held) None = ⊥
    HasRest (Some held) (Some w) = HasWorld held w

    -- the desk has who waits, whether no more links are to come, and the world that rests
    pub record HasDesk (desk : Desk W) (d : path.Desk) : Type 0 where
      pub waiting : d.waiting ≡ desk.waiting.items
      pub last : d.last ≡ desk.last
      pub resting : HasRest desk.resting d.resting

    -- the connection was opened and has run a front of its path, and this is the rest of it; its
    -- link didn't meet want of memory
    pub record HasRun (talk : T) (rest : List Step) : Type 0 where
      pub link : L
      pub ran : List Step
      pub runs : y.has_run link (map (λ step. step.handler) ran) talk
      pub way : steps_to_come (y.steps hall) (l.tells link) ≡ Some (ran ++ rest)
      pub opened : due (y.view_of talk) ≢ Some handler.Open
      pub sound : (y.view_of talk).end ≢ Some Memory

    -- the talk is over the hall; it was never opened, or has this rest of its path to run
    abbrev pub HasTalk : T → Option (List Step) → Type 0
    HasTalk talk None = (y.hall_of talk ≡ hall) × (y.view_of talk ≡ unopened_view)
    HasTalk talk (Some rest) = (y.hall_of talk ≡ hall) × HasRun talk rest

    -- the role is of the kind that the paths have, with the desk or the talk that they have
    abbrev pub HasRole : Role W T → path.Place → Type 0
    HasRole (Polling desk) (path.polling d) = HasDesk desk d
    HasRole Accepting path.accepting = ⊤
    HasRole (Talking seat) (path.talking rest) = HasTalk seat.talk rest
    HasRole Logging path.logging = ⊤
    HasRole role place = ⊥

    -- the role of a state is as the paths have it
    abbrev pub HasPlace : PlaceState H W T → path.Place → Type 0
    HasPlace s place = HasRole s.role place

    -- the load carries the world as the paths have it, a link whose steps to come are these, or a
    -- line of the log
    abbrev pub HasLoad : Load W L → path.Load → Type 0
    HasLoad (load.World held) (path.world w) = HasWorld held w
    HasLoad (load.Link link) (path.link way) =
        steps_to_come (y.steps hall) (l.tells link) ≡ Some way
    HasLoad (load.Line line) path.line = ⊤
    HasLoad carried p = ⊥

-- what a colour has is of its role: the first polls, the second accepts, as many talk as there are
-- links, and the last one is that of the log
abbrev pub IsPlacedAt : ℕ → Colour → path.Place → Type 0
IsPlacedAt total c (path.polling d) = c.0 ≡ 0
IsPlacedAt total c path.accepting = c.0 ≡ 1
IsPlacedAt total c (path.talking rest) = (2 ≤ c.0) × (c.0 < total + 2)
IsPlacedAt total c path.logging = c.0 ≡ total + 2

-- the connection's link met want of memory
abbrev pub is_memory : Option End → Bool
is_memory None = false
is_memory (Some Done) = false
is_memory (Some Idle) = false
is_memory (Some Fault) = false
is_memory (Some Memory) = true

-- the talk of a role met want of memory
abbrev pub is_spoilt_role : {W T L G H : Type 0} → TalkWords T L G H → Role W T → Bool
is_spoilt_role y (Polling desk) = false
is_spoilt_role y Accepting = false
is_spoilt_role y (Talking seat) = is_memory (y.view_of seat.talk).end
is_spoilt_role y Logging = false

-- the talk of a state met want of memory
abbrev pub is_spoilt : {W T L G H : Type 0} → TalkWords T L G H → PlaceState H W T → Bool
is_spoilt y s = is_spoilt_role y s.role

-- there is no load on both sides, or the one is as the other
abbrev pub AreLoads : {P : Type 0} → (P → path.Load → Type 0) → Option P → Option path.Load → Type 0
AreLoads IsLoad None None = ⊤
AreLoads IsLoad None (Some l) = ⊥
AreLoads IsLoad (Some load) None = ⊥
AreLoads IsLoad (Some load) (Some l) = IsLoad load l

-- two lists of what is put have the same colours and events, one by one, and loads of
-- which the one is as the other
abbrev pub ArePuts : {P : Type 0} → (P → path.Load → Type 0) → List (Colour × Event × Option P)
    → List path.Put → Type 0
ArePuts IsLoad [] [] = ⊤
ArePuts IsLoad [] (q ∷ qs) = ⊥
ArePuts IsLoad (p ∷ ps) [] = ⊥
ArePuts IsLoad (p ∷ ps) (q ∷ qs) = ((p.0 ≡ q.0) × (p.1 ≡ q.1) × AreLoads IsLoad p.2 q.2)
    × ArePuts IsLoad ps qs

-- ---- the law

module _ {W L T G H : Type 0} (x : WorldWords W L) (l : LinkWords L) (y : TalkWords T L G H)
    (hall : H) (first : W) (log : Bool) (paths : List (List Step)) (total : ℕ) where
  -- what a handler leaves and puts is what the paths say, unless its
  -- connection has met want of memory
  abbrev pub RanAs : PlaceState H W T → List (Colour × Event × Option (Load W L)) → path.Ran
      → Type 0
  RanAs after puts ran = is_spoilt y after ≡ false → HasPlace x l y hall paths after ran.place
      × ArePuts (HasLoad x l y hall paths) puts ran.puts

  -- over a scripted world every handler makes of what its colour has, and of its load, what the
  -- paths say
  abbrev pub FollowsPaths : Type 0
  FollowsPaths =
      (before after : PlaceState H W T) (event : Event) (carried : Option (Load W L))
      (puts : List (Colour × Event × Option (Load W L))) (place : path.Place)
      (p : Option path.Load)
      → Fit x l first before.colour event carried
      → IsPlacedAt (x.tells first).total before.colour place
      → HasPlace x l y hall paths before place → AreLoads (HasLoad x l y hall paths) carried p
      → path.worlds_of_place place + path.worlds_of_load p ≤ 1
      → Runs x l y log total before event carried after puts
      → RanAs after puts (path.runs_place log total before.colour place event p)

-- what met want of memory says so from then on
abbrev pub StaysSpoilt : {W L T G H : Type 0} → WorldWords W L → LinkWords L
    → TalkWords T L G H → ℕ → Type 0
StaysSpoilt {W} {L} {T} {G} {H} x l y total = (log : Bool) →
    (before after : PlaceState H W T) (event : Event) (carried : Option (Load W L))
    (puts : List (Colour × Event × Option (Load W L)))
    → Runs x l y log total before event carried after puts → is_spoilt y before ≡ true
    → is_spoilt y after ≡ true
