-- What a run leaves of its states, of what is still under way, and how it is judged.
use Rattle.std.specs.Prelude.{◌≡◌, ◌≤◌, ◌<◌, ◌↔◌, ◌⊎◌, ◌||◌, not, ℕ, Bool, true, false, if◌then◌else◌, List, [], ◌∷◌, length, flat_map, slice_get, Option, Some, None, is_some, is_none, IsSome, IfSome}
use Rattle.sws_log.specs.declared.line.LogLine.{LogLine}
use Rattle.sws_link.specs.declared.Link.{Ghosts as LinkWords}
use Rattle.sws_link.specs.declared.world.World.{Ghosts as WorldWords}
use Rattle.sws_steps.specs.declared.End.{End}
use Rattle.sws_steps.specs.declared.End.TheVariants as ending
use Rattle.sws_steps.specs.declared.Next.TheVariants as next
use Rattle.sws_steps.specs.declared.talk.Talk.{Ghosts as TalkWords}
use Rattle.sws_conn.specs.Talks.{reported_end}
use Rattle.sws_handlers.specs.declared.ended.Served.{Served}
use Rattle.sws_handlers.specs.declared.ended.Verdict.{Verdict}
use Rattle.sws_handlers.specs.declared.ended.Verdict.TheVariants as verdict
use Rattle.sws_handlers.specs.declared.load.WorldLoad.{WorldLoad}
use Rattle.sws_handlers.specs.declared.place.Seat.{Seat}
use Rattle.sws_handlers.specs.declared.place.Role.{Role}
use Rattle.sws_handlers.specs.declared.place.Role.TheVariants.{Polling, Accepting, Talking, Logging}
use Rattle.sws_handlers.specs.Invariant.{LogStands}
use Rattle.sws_handlers.specs.KeptLines.{KeptLinesState, AreKept}
use Rattle.sws_handlers.specs.LogTurns.{turns_of, is_numbered}
use Rattle.sws_handlers.specs.Loads.{WorldStands}
use Rattle.sws_handlers.specs.Place.{PlaceState}
use Rattle.sws_handlers.specs.Served.{SeatServes}

-- ---- of the states

-- a state that talks
pub record Talker (H W T : Type 0) : Type 0 where
  pub place : PlaceState H W T
  pub seat : Seat T

-- the connection of a place, where its role is one
abbrev pub talker_by : {H W T : Type 0} → PlaceState H W T → Role W T → List (Talker H W T)
talker_by place (Polling desk) = []
talker_by place Accepting = []
talker_by place (Talking seat) = record { place = place; seat = seat } ∷ []
talker_by place Logging = []

-- the states that talk, in the order of the colours
abbrev pub talkers : {H W T : Type 0} → List (PlaceState H W T) → List (Talker H W T)
talkers states = flat_map (λ place. talker_by place place.role) states

-- the later one, where there is one
abbrev pub or_else : {A : Type 0} → Option A → Option A → Option A
or_else None before = before
or_else (Some now) before = Some now

-- a world that rests in a state
abbrev pub resting_by : {W T : Type 0} → Role W T → Option (WorldLoad W)
resting_by (Polling desk) = desk.resting
resting_by Accepting = None
resting_by (Talking seat) = None
resting_by Logging = None

-- the world that rests in one of the states
abbrev pub resting_in : {H W T : Type 0} → Option (WorldLoad W) → List (PlaceState H W T)
    → Option (WorldLoad W)
resting_in before [] = before
resting_in before (place ∷ states) = resting_in (or_else (resting_by place.role) before) states

-- the lines of a state that keeps the log, or those that were found before
abbrev pub lines_by : {W T : Type 0} → Role W T → KeptLinesState → KeptLinesState → KeptLinesState
lines_by (Polling desk) lines before = before
lines_by Accepting lines before = before
lines_by (Talking seat) lines before = before
lines_by Logging lines before = lines

-- the lines of the state that keeps the log
abbrev pub lines_in : {H W T : Type 0} → KeptLinesState → List (PlaceState H W T) → KeptLinesState
lines_in before [] = before
lines_in before (place ∷ states) = lines_in (lines_by place.role place.lines before) states

-- what a connection shows once its talk was given up
pub record ShowsSeat {T L G H : Type 0} (y : TalkWords T L G H) (seat : Seat T)
    (s : Served L) : Type 0 where
  pub link : s.link ≡ y.link_of seat.talk
  pub linked : (s.link ≡ None) ↔ ((y.view_of seat.talk).pending ≡ next.Open)
  pub end : s.end ≡ reported_end (y.view_of seat.talk)
  pub closed : IsSome s.end ↔ ((y.view_of seat.talk).pending ≡ next.Nothing)
  pub read : s.read ≡ (y.view_of seat.talk).read
  pub few_read : s.read ≤ y.input_limit (y.hall_of seat.talk)
  pub written : s.written ≡ (y.view_of seat.talk).written
  pub few_written : s.written ≤ y.output_limit (y.hall_of seat.talk)
  pub answered : s.answered ≡ seat.answered
  pub stray : s.stray ≡ seat.stray

-- each connection shows how its talk stands
pub record ShowAll {W T L G H : Type 0} (y : TalkWords T L G H) (all : List (Talker H W T))
    (served : List (Served L)) : Type 0 where
  pub many : length served ≡ length all
  pub each : (i : ℕ) (talker : Talker H W T) (s : Served L) → slice_get all i ≡ Some talker
      → slice_get served i ≡ Some s → ShowsSeat y talker.seat s

-- ---- what the type of a state keeps

module _ {W L T G H : Type 0} (x : WorldWords W L) (l : LinkWords L) (y : TalkWords T L G H) where
  -- a world that rests is the one of the run, a connection was served as its trail says, and the
  -- lines of the log that came are those of its trail, of which the first are kept
  abbrev pub RoleTells : PlaceState H W T → Role W T → Type 0
  RoleTells place (Polling desk) = IfSome desk.resting (WorldStands x l place.first)
  RoleTells place Accepting = Unit {0}
  RoleTells place (Talking seat) = SeatServes x l y place seat
  RoleTells place Logging = LogStands x l y place.hall place.first place.trail place.lines.came
      × AreKept place.lines

  -- what a state tells of the run by the role that it has
  abbrev pub StateTells : PlaceState H W T → Type 0
  StateTells place = RoleTells place place.role

-- ---- the verdict

-- a connection that was to be served lacks its link or its end, or met an event that wasn't due
abbrev pub is_lacking : {L : Type 0} → Served L → Bool
is_lacking s = (is_none s.link || is_none s.end) || is_some s.stray

-- the lines of the log, where there is one
abbrev pub lines_kept : Bool → List LogLine → Option (List LogLine)
lines_kept log lines = if log then Some lines else None

-- the turns of the connection's lines in the log aren't 1 to as many as it gave, in order
abbrev pub is_out_of_turn : {L : Type 0} → Option (List LogLine) → ℕ → Served L → Bool
is_out_of_turn None i s = false
is_out_of_turn (Some lines) i s = not (is_numbered s.answered (turns_of i lines))

-- it lacks something, or its lines are out of turn
abbrev pub is_lost : {L : Type 0} → Option (List LogLine) → ℕ → Served L → Bool
is_lost kept i s = is_lacking s || is_out_of_turn kept i s

-- the connection ended since a write of its link found no memory
abbrev pub is_out_of_memory : Option End → Bool
is_out_of_memory None = false
is_out_of_memory (Some ending.Done) = false
is_out_of_memory (Some ending.Idle) = false
is_out_of_memory (Some ending.Fault) = false
is_out_of_memory (Some ending.Memory) = true

-- so many links were to be served: all of the run, or, where the world failed,
-- those that it gave before
abbrev pub links_owed : Bool → ℕ → ℕ → ℕ
links_owed failed accepted total = if failed then accepted else total

module _ {L : Type 0} (served : List (Served L)) where
  -- no connection ended for want of memory
  abbrev pub NoneOutOfMemory : Type 0
  NoneOutOfMemory = (i : ℕ) (s : Served L) → slice_get served i ≡ Some s
      → is_out_of_memory s.end ≡ false

  -- some connection ended for want of memory
  pub record SomeOutOfMemory : Type 0 where
    pub i : ℕ
    pub s : Served L
    pub there : slice_get served i ≡ Some s
    pub ran_out : is_out_of_memory s.end ≡ true

  -- all was run, and no connection ended for want of memory
  pub record IsJudged (whole : Bool) : Type 0 where
    pub ran : whole ≡ true
    pub enough : NoneOutOfMemory

module _ {L : Type 0} (kept : Option (List LogLine)) (served : List (Served L)) where
  -- of so many connections each has what it is to have, its lines in the log among it
  abbrev pub AreWhole : ℕ → Type 0
  AreWhole count = (i : ℕ) (s : Served L) → i < count → slice_get served i ≡ Some s
      → is_lost kept i s ≡ false

  -- the first of so many that lacks something, or whose lines are out of turn
  pub record IsFirstLacking (count conn : ℕ) : Type 0 where
    pub below : conn < count
    pub s : Served L
    pub there : slice_get served conn ≡ Some s
    pub lacks : is_lost kept conn s ≡ true
    pub before : AreWhole conn

  -- the verdict over what is shown: whether all was run, how many links there are, whether the
  -- world is there, how many links it gave and whether it failed. Where not all was run, or a
  -- connection met want of memory, it is that; else the first connection that lacks its link or its
  -- end, met a stray event, or whose lines of the log aren't numbered 1 to as many as it gave, or
  -- the number of all where the world is gone; else whether the world failed
  abbrev pub VerdictIs : Bool → ℕ → Bool → ℕ → Bool → Verdict → Type 0
  VerdictIs whole total there accepted failed verdict.Ok = IsJudged served whole × (there ≡ true)
      × (failed ≡ false) × AreWhole (links_owed failed accepted total)
  VerdictIs whole total there accepted failed verdict.World = IsJudged served whole × (there ≡ true)
      × (failed ≡ true) × AreWhole (links_owed failed accepted total)
  VerdictIs whole total there accepted failed (verdict.Apart conn) =
      IsJudged served whole × (IsFirstLacking (links_owed failed accepted total) conn
      ⊎ ((there ≡ false) × AreWhole (links_owed failed accepted total) × (conn ≡ total)))
  VerdictIs whole total there accepted failed verdict.Memory =
      (whole ≡ false) ⊎ SomeOutOfMemory served
