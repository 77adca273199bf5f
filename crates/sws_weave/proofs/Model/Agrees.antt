-- The server in a weave agrees with the server as a function.
use Rattle.std.specs.Prelude.{◌≡◌, ◌<◌, ◌≤◌, ℕ, zero, suc, ◌+◌, ◌-◌, ◌==◌, Bool, false, List, Option, None, Some, All, length, drop, sum_by, count_by, slice_get, is_some}
use Rattle.std.proofs.Common.{inl, inr}
use Rattle.mely_event.specs.declared.colour.Colour.{Colour}
use Rattle.sws_steps.specs.Logs.{Step}
use Rattle.mely_run.specs.Pieces.{Piece}
use Rattle.sws_weave.specs.Server.{Server}
use Rattle.sws_weave.specs.Openings.{HasNoOpening}
use Rattle.sws_handlers.specs.PathPlaces.{World, Load, world, link, line, Desk, Place, polling, accepting, talking, logging}
use Rattle.sws_handlers.specs.PathStates.{AreLoads}

module _ (whole : List (List Step)) where
  -- the world has accepted so many links, and has the others to come
  pub record WorldAgrees (s : Server) (w : World) : Type 0 where
    pub accepted : w.accepted ≡ s.accepted
    pub coming : w.coming ≡ drop w.accepted whole

  -- no world rests, or the one that rests has accepted so many links and has the others to come
  abbrev pub RestAgrees : Server → Option World → Type 0
  RestAgrees s None = Unit {0}
  RestAgrees s (Some w) = WorldAgrees s w

  -- the desk is as the server has it: who waits, whether links are to come, and the world at rest
  pub record DeskAgrees (s : Server) (desk : Desk) : Type 0 where
    pub waiting : desk.waiting ≡ s.waiting
    pub last : desk.last ≡ s.last
    pub rests : is_some desk.resting ≡ s.rests
    pub world : RestAgrees s desk.resting

  -- a connection has the rest of its path, and the whole of it before it is open
  abbrev pub SeatAgrees : Server → ℕ → Option (List Step) → Type 0
  SeatAgrees s i None = slice_get s.paths i ≡ slice_get whole i
  SeatAgrees s i (Some path) = (slice_get s.paths i ≡ Some path) × HasNoOpening path

  -- colour 0 has the desk, colour 1 accepts, and each later colour has its connection's seat, but
  -- for the last one, which is that of the log
  abbrev pub PlaceAgrees : Server → Colour → Place → Type 0
  PlaceAgrees s c (polling desk) = (c.0 ≡ 0) × DeskAgrees s desk
  PlaceAgrees s c accepting = c.0 ≡ 1
  PlaceAgrees s c (talking seat) = ((2 ≤ c.0) × (c.0 < length whole + 2))
      × SeatAgrees s (c.0 - 2) seat
  PlaceAgrees s c logging = c.0 ≡ length whole + 2

  -- an event is on its colour with its load, by the handler
  abbrev pub ComingAgrees : Server → Colour → ℕ → ℕ → Option Load → Type 0
  ComingAgrees s c zero arg (Some (world w)) = (c.0 ≡ 0) × WorldAgrees s w
      × (arg ≡ 0 → w.accepted < length whole)
  ComingAgrees s c (suc zero) arg None = c.0 ≡ 0
  ComingAgrees s c (suc (suc zero)) arg (Some (world w)) = (c.0 ≡ 1) × WorldAgrees s w
      × (w.accepted < length whole)
  ComingAgrees s c (suc (suc (suc zero))) arg (Some (link path)) = (2 ≤ c.0)
      × (slice_get whole (c.0 - 2) ≡ Some path)
  ComingAgrees s c (suc (suc (suc (suc more)))) arg None = 2 ≤ c.0
  ComingAgrees s c (suc (suc (suc (suc more)))) arg (Some line) = c.0 ≡ length whole + 2
  ComingAgrees s c handler arg load = ⊥

-- the state of a colour
abbrev pub is_state_of : {S P : Type 0} → ℕ → Piece S P → Bool
is_state_of c (d, inl state) = d.0 == c
is_state_of c (d, inr coming) = false

-- so many worlds are in a state, or in a load where there is one
abbrev pub worlds_in_load : {P : Type 0} → (P → ℕ) → Option P → ℕ
worlds_in_load carries None = 0
worlds_in_load carries (Some load) = carries load

-- how many worlds a state or an event under way has
abbrev pub worlds_of : {S P : Type 0} → (S → ℕ) → (P → ℕ) → Piece S P → ℕ
worlds_of holds carries (c, inl state) = holds state
worlds_of holds carries (c, inr (event, load)) = worlds_in_load carries load

module _ {S P : Type 0} (IsPlace : S → Place → Type 0) (IsLoad : P → Load → Type 0) (holds : S → ℕ)
    (carries : P → ℕ) (whole : List (List Step)) where
  -- a state is at its colour as the server has it, and an event under way has its load
  abbrev pub PieceAgrees : Server → Piece S P → Type 0
  PieceAgrees s (c, inl state) = (place : Place) × IsPlace state place × PlaceAgrees whole s c place
  PieceAgrees s (c, inr (event, load)) = (l : Option Load) × AreLoads IsLoad load l
      × ComingAgrees whole s c event.handler event.arg l

  -- each piece has what the function has, with the log or without it, there is one world, and a
  -- colour has one state
  pub record Agrees (log : Bool) (s : Server) (pieces : List (Piece S P)) : Type 0 where
    pub many : length s.paths ≡ length whole
    pub logs : s.log ≡ log
    pub each : All (PieceAgrees s) pieces
    pub one_world : sum_by (worlds_of holds carries) pieces ≤ 1
    pub one_state : (c : ℕ) → count_by (is_state_of c) pieces ≤ 1
