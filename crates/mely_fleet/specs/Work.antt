-- A fleet as the worker of a core sees it at work.
use Rattle.mely_note.specs.declared.note.Note.{Note}
use Rattle.std.specs.Prelude.{◌≡◌, ◌<◌, ◌++◌, ℕ, List, [], ◌∷◌, Option, Some}
use Rattle.mely_event.specs.declared.colour.Colour.{Colour}
use Rattle.mely_event.specs.declared.event.Event.{Event}
use Rattle.mely_event.specs.declared.trail.Trail.{Ghosts as TrailWords}
use Rattle.mely_history.specs.declared.setup.Setup.{Setup}
use Rattle.mely_history.specs.declared.entry.Entry.TheVariants.{Take}
use Rattle.mely_history.specs.Setup.{shape_of}
use Rattle.mely_history.specs.Legal.{IsDrained}
use Rattle.mely_note.specs.Notes.{entries_of, noted_by}
use Rattle.mely_history.specs.Owing.{last_change, IsOwed}
use Rattle.mely_lock.specs.Seen.{OthersSince}
use Rattle.mely_worker.specs.declared.access.Access.{Ghosts as AccessWords}
use Rattle.mely_worker.specs.declared.app.App.{Ghosts as AppWords}
use Rattle.mely_worker.specs.declared.made.Made.{Made}
use Rattle.mely_worker.specs.Access.{Stays}
use Rattle.mely_worker.specs.Step.{Steps}
use Rattle.mely_worker.specs.Worker.{WorkerState}
use Rattle.mely_weave.specs.Hands.{colour_run_by}
use Rattle.mely_weave.specs.Side.{shard_of}
use Rattle.mely_fleet.specs.declared.fleet.FleetOf.{FleetOf}
use Rattle.mely_fleet.specs.declared.passes.PassesOf.{PassesOf}
use Rattle.mely_kept.specs.declared.kept_shard.ShardFrame.{ShardFrame}
use Rattle.mely_kept.specs.Calls.{RegistersAt, TakesAt, FinishesAt, StealsAt}
use Rattle.mely_fleet.specs.Calls.{SeesAt, front_in, front_for}
use Rattle.mely_fleet.specs.Rows.{fronts}
use Rattle.mely_kept_chain.specs.declared.chain_note.ChainNote.{ChainNote}
use Rattle.mely_kept_chain.specs.Chains.{ReachesChain, PushesAt, PopsAt, RetellsAt, PicksAt}
use Rattle.mely_fleet.specs.Fleets.{chain_frame_for, frame_in, given_in}
use Rattle.mely_kept.specs.Frames.{shard_frame}
use Rattle.mely_kept.specs.KeptShard.{KeptShardState}
use Rattle.mely_worker.specs.Conditions.{MayStepAt}

-- where a caller stands: the setup, its number, the frame of the states, those that the colours were
-- given at first, and what it has seen, shard by shard and chain by chain
pub record Standpoint (S P F : Type 0) : Type 0 where
  pub setup : Setup
  pub number : ℕ
  pub frame : F
  pub given : Colour → Option S
  pub fronts : List (List (Note S P))
  pub chains : List (List (ℕ × ChainNote))

-- where the caller with these passes stands
abbrev pub standpoint : {S P V F : Type 0} {g : _} → (V → ShardFrame S F)
    → FleetOf V (Note S P) (ShardFrame S F) → PassesOf V (Note S P) (ShardFrame S F) g
    → Standpoint S P F
standpoint kept_frame fleet passes = record {
  setup = fleet.setup;
  number = passes.number;
  frame = frame_in kept_frame fleet;
  given = given_in kept_frame fleet;
  fronts = fronts passes.shards.items;
  chains = fronts passes.chains.items;
}

-- what the worker of a core may call, by what it has seen: each call on a shard stands at its point
-- in the shard's history, and each call on a chain at its point in the chain's
abbrev pub words : {S P F : Type 0} → TrailWords S F → (F → Colour → Event → Option P → Type 0)
    → AccessWords (Standpoint S P F) S P F
words t fits = record {
  setup_of = λ a. a.setup;
  core_of = λ a. a.number;
  frame_of = λ a. a.frame;
  owes = λ a c core count trail.
      IsOwed a.number (entries_of (front_for a.setup a.fronts c)) c core count trail;
  keeps = λ a b. Unit {0};
  registers = λ a c event load answer b. SeesAt a.setup a.number (shard_of a.setup c) a.fronts
      b.fronts (RegistersAt a.setup a.number c event load answer);
  takes = λ a c answer b. SeesAt a.setup a.number (shard_of a.setup c) a.fronts b.fronts
      (TakesAt t fits a.setup a.frame (a.given c) a.number c answer);
  finishes = λ a turn answer b. SeesAt a.setup a.number (shard_of a.setup turn.colour) a.fronts
      b.fronts (FinishesAt a.setup a.number turn answer);
  steals = λ a c answer b. SeesAt a.setup a.number (shard_of a.setup c) a.fronts b.fronts
      (StealsAt a.setup a.number c answer);
  pushes = λ a core mark answer b. (b.fronts ≡ a.fronts)
      × ReachesChain a.number core a.chains b.chains
      (PushesAt (chain_frame_for a.setup) a.number mark answer);
  pops = λ a answer b. (b.fronts ≡ a.fronts)
      × ReachesChain a.number a.number a.chains b.chains
      (PopsAt (chain_frame_for a.setup) a.number answer);
  retells = λ a core c started worth found b. (b.fronts ≡ a.fronts)
      × ReachesChain a.number core a.chains b.chains (RetellsAt (chain_frame_for a.setup) a.number
      c started worth found);
  picks = λ a core answer b. (b.fronts ≡ a.fronts)
      × ReachesChain a.number core a.chains b.chains
      (PicksAt (chain_frame_for a.setup) a.number answer);
}

-- more was seen, or as much
abbrev pub SeesMore : {S P F : Type 0} → Standpoint S P F → Standpoint S P F → Type 0
SeesMore {S} {P} a b = (k : ℕ) → (more : List (Note S P))
    × (front_in b.fronts k ≡ front_in a.fronts k ++ more)

-- of what was seen of each shard nothing runs and nothing is queued
abbrev pub SeesAllDrained : {S P F : Type 0} → Standpoint S P F → Type 0
SeesAllDrained a = (k : ℕ) → k < (shape_of a.setup).shards
    → IsDrained (entries_of (front_in a.fronts k))

-- each take of the caller has its finish, but that of the colour that runs
abbrev pub HasFinishedBut : {S P F : Type 0} → Standpoint S P F → Option Colour → Type 0
HasFinishedBut a running = (c : Colour) (core count : ℕ)
    → last_change a.number c (entries_of (front_for a.setup a.fronts c)) ≡ Some (Take c core count)
    → running ≡ Some c

-- each take of the worker's core has its finish, but that of the worker's turn
abbrev pub HasFinished : {S P F : Type 0} → Standpoint S P F → WorkerState S P → Type 0
HasFinished a w = HasFinishedBut a (colour_run_by w)

-- what a caller does at work: it sees more, and each take has its finish still, but
-- that of the worker's turn
pub record WorksOn {S P F : Type 0} (a : Standpoint S P F) (w : WorkerState S P)
    (b : Standpoint S P F) (v : WorkerState S P) : Type 0 where
  pub more : SeesMore a b
  pub finished : HasFinished a w → HasFinished b v

-- a caller looked at shards: of each it has seen what others did there since, and of chains nothing
pub record HasLooked {S P F : Type 0} (a b : Standpoint S P F) : Type 0 where
  pub setup : b.setup ≡ a.setup
  pub number : b.number ≡ a.number
  pub frame : b.frame ≡ a.frame
  pub given : b.given ≡ a.given
  pub chains : b.chains ≡ a.chains
  pub others : (k : ℕ) → OthersSince noted_by a.number (front_in a.fronts k) (front_in b.fronts k)

module _ {R S P F : Type 0} (t : TrailWords S F) (fits : F → Colour → Event → Option P → Type 0)
    (y : AppWords R P S F) (app : R) where
  -- the worker made a step by its rule, on what the caller had seen by then; the caller is the same,
  -- and before it and after it the worker meets the conditions of a step
  pub record StepsOn (a : Standpoint S P F) (w : WorkerState S P) (step : Made)
      (b : Standpoint S P F) (v : WorkerState S P) : Type 0 where
    pub steps : Steps (words t fits) y app a w step b v
    pub stays : Stays (λ s. s.setup) (λ s. s.number) (λ s. s.frame) a b
    pub given : b.given ≡ a.given
    pub may : MayStepAt t fits (words t fits) a w
    pub may_then : MayStepAt t fits (words t fits) b v

  -- the worker made these steps, one after another; before each, and after the last one, the caller
  -- may have looked at shards
  abbrev pub MakesSteps : List Made → Standpoint S P F → WorkerState S P → Standpoint S P F
      → WorkerState S P → Type 0
  MakesSteps [] a w b v = HasLooked a b × (v ≡ w)
  MakesSteps (step ∷ later) a w b v = (c d : Standpoint S P F) × (u : WorkerState S P)
      × HasLooked a c × StepsOn c w step d u × MakesSteps later d u b v

-- the worker may make a step with these passes
abbrev pub MayWork : {S P F : Type 0} {g : _} → TrailWords S F
    → (F → Colour → Event → Option P → Type 0)
    → FleetOf (KeptShardState S P) (Note S P) (ShardFrame S F)
    → PassesOf (KeptShardState S P) (Note S P) (ShardFrame S F) g → WorkerState S P → Type 0
MayWork t fits fleet passes w =
    MayStepAt t fits (words t fits) (standpoint (shard_frame t.frame_of) fleet passes) w

-- what the worker does with these passes
abbrev pub Works : {S P F : Type 0} {g : _} → (S → F)
    → FleetOf (KeptShardState S P) (Note S P) (ShardFrame S F)
    → PassesOf (KeptShardState S P) (Note S P) (ShardFrame S F) g → WorkerState S P
    → PassesOf (KeptShardState S P) (Note S P) (ShardFrame S F) g → WorkerState S P → Type 0
Works frame_of fleet before w after v = WorksOn (standpoint (shard_frame frame_of) fleet before) w
    (standpoint (shard_frame frame_of) fleet after) v

-- the worker made steps with these passes, and nothing else was done with it
abbrev pub MakesOn : {R S P F : Type 0} {g : _} → TrailWords S F
    → (F → Colour → Event → Option P → Type 0) → AppWords R P S F → R
    → FleetOf (KeptShardState S P) (Note S P) (ShardFrame S F)
    → PassesOf (KeptShardState S P) (Note S P) (ShardFrame S F) g → WorkerState S P
    → PassesOf (KeptShardState S P) (Note S P) (ShardFrame S F) g → WorkerState S P → Type 0
MakesOn t fits y app fleet before w after v = (steps : List Made) × MakesSteps t fits y app steps
    (standpoint (shard_frame t.frame_of) fleet before) w
    (standpoint (shard_frame t.frame_of) fleet after) v
