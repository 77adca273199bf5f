-- What each call does to a shard or a chain, and what it answers; all else stays.
use Rattle.std.specs.Prelude.{◌≡◌, ◌<◌, ◌≤◌, ◌++◌, ℕ, Bool, List, [], ◌∷◌, Option, None, Some, Result, Ok, Err, IsSome, MatchOption, is_some, take, slice_get, slice_set}
use Rattle.mely_event.specs.declared.colour.Colour.{Colour}
use Rattle.mely_event.specs.declared.event.Event.{Event}
use Rattle.mely_event.specs.declared.mark.Mark.{Mark}
use Rattle.mely_event.specs.declared.there.There.{There}
use Rattle.mely_event.specs.declared.unregistered.Unregistered.{Unregistered}
use Rattle.mely_event.specs.declared.trail.Trail.{Ghosts as TrailWords}
use Rattle.mely_history.specs.declared.registered.Registered.{Registered}
use Rattle.mely_history.specs.declared.no_take.NoTake.{NoTake}
use Rattle.mely_history.specs.declared.no_steal.NoSteal.{NoSteal}
use Rattle.mely_history.specs.declared.stolen.Stolen.{Stolen}
use Rattle.mely_history.specs.declared.after.After.{After}
use Rattle.mely_history.specs.Setup.{colours_of}
use Rattle.mely_history.specs.History.{registered_of, begun_of}
use Rattle.mely_history.specs.Legal.{IsRunningOn}
use Rattle.mely_queue.specs.Turn.{TurnState}
use Rattle.mely_shard.specs.Shard.{ShardState, Registers, RegisteredAs, KeepsAllButSpare, Takes, NoTakeAs, Finishes, AfterAs, Steals, NoStealAs}
use Rattle.mely_steal.specs.Marks.{mark_of, without, after_replacement}
use Rattle.mely_steal.specs.StealQueue.{after_entry, after_mark_change, pick_of}
use Rattle.mely_core.specs.CoreQueue.{CoreQueueState, told_of}
use Rattle.mely_worker.specs.declared.access.Access.{Ghosts as AccessWords}
use Rattle.mely_weave.specs.Side.{SideState, shard_of, history_at}

-- the shard of the colour changes as is said, and all else stays
pub record AtShard {S P : Type 0} (a b : SideState S P) (c : Colour)
    (Does : ShardState S P → ShardState S P → Type 0) : Type 0 where
  pub old : ShardState S P
  pub new : ShardState S P
  pub was : slice_get a.shards (shard_of a.setup c) ≡ Some old
  pub does : Does old new
  pub becomes : b ≡ record a { shards = slice_set a.shards (shard_of a.setup c) new }

-- the chain of the core changes as is said, and all else stays
pub record AtChain {S P : Type 0} (a b : SideState S P) (core : ℕ)
    (Does : CoreQueueState → CoreQueueState → Type 0) : Type 0 where
  pub old : CoreQueueState
  pub new : CoreQueueState
  pub was : slice_get a.chains core ≡ Some old
  pub does : Does old new
  pub becomes : b ≡ record a { chains = slice_set a.chains core new }

-- a registration by the pass of this number
abbrev pub RegisterAs : {S P : Type 0} → Colour → Event → Option P → ℕ
    → Result Registered (Unregistered P) → ShardState S P → ShardState S P → Type 0
RegisterAs c event load by (Ok reply) old new = Registers old new c event load by
    × RegisteredAs old.setup old.history new.history c reply
RegisterAs c event load by (Err back) old new = KeepsAllButSpare old new

-- a take on a shard does what its answer says
abbrev pub TakeAs : {S P : Type 0} → Colour → ℕ → Result (TurnState S P) NoTake
    → ShardState S P → ShardState S P → Type 0
TakeAs c core (Ok turn) old new = Takes old new c core turn
TakeAs c core (Err why) old new = KeepsAllButSpare old new
    × NoTakeAs old.setup old.history c core why

-- a finish on a shard does what its answer says, of a colour that ran on the core of the turn
abbrev pub FinishAs : {S P : Type 0} → TurnState S P → After → ShardState S P → ShardState S P
    → Type 0
FinishAs turn answer old new = Finishes old new turn
    × IsRunningOn old.history turn.colour turn.core turn.count
    × AfterAs old.setup new.history turn.colour answer

-- a steal on a shard does what its answer says
abbrev pub StealAs : {S P : Type 0} → Colour → ℕ → Result Stolen NoSteal → ShardState S P
    → ShardState S P → Type 0
StealAs c to (Ok stolen) old new = Steals old new c to stolen
StealAs c to (Err why) old new = KeepsAllButSpare old new × NoStealAs old.setup old.history c to why

-- a mark enters at the back, unless one of its colour is there
abbrev pub PushAs : Mark → Result (Unit {0}) There → CoreQueueState → CoreQueueState → Type 0
PushAs mark (Ok done) old new = (mark_of mark.colour old.chain ≡ None)
    × (new ≡ record old {
      chain = old.chain ++ mark ∷ [];
      worthy = after_entry old.cost old.pinned mark old.worthy;
    })
PushAs mark (Err there) old new = IsSome (mark_of mark.colour old.chain) × (new ≡ old)

-- the front is taken
abbrev pub PopAs : Option Mark → CoreQueueState → CoreQueueState → Type 0
PopAs None old new = (old.chain ≡ []) × (new ≡ old)
PopAs (Some mark) old new = (old.chain ≡ mark ∷ new.chain)
    × (new ≡ record old { chain = new.chain; worthy = without mark.colour old.worthy })

-- the mark of the colour is raised, unless it is of another period
abbrev pub RetellAs : Colour → ℕ → ℕ → Bool → CoreQueueState → CoreQueueState → Type 0
RetellAs c started worth found old new = (found ≡ is_some (told_of c started worth old.chain))
    × MatchOption (told_of c started worth old.chain) (new ≡ old) (λ told. new
    ≡ record old {
      chain = after_replacement told old.chain;
      worthy = after_mark_change old.cost old.pinned told old.worthy;
    })

-- the first mark of the highest class is taken, of those whose colours aren't pinned
abbrev pub PickAs : Option Mark → CoreQueueState → CoreQueueState → Type 0
PickAs None old new = (pick_of old.cost old.worthy ≡ None) × (new ≡ old)
PickAs (Some mark) old new = (pick_of old.cost old.worthy ≡ Some mark)
    × (mark_of mark.colour old.chain ≡ Some mark) × (old.cost < mark.worth)
    × (old.pinned ≤ mark.colour.0)
    × (new ≡ record old {
      chain = without mark.colour old.chain;
      worthy = without mark.colour old.worthy;
    })

-- a turn of the colour is out on the core, and its state is to have all events that were begun
pub record IsOut {S P : Type 0} (a : SideState S P) (c : Colour) (core count : ℕ)
    (trail : List Event) : Type 0 where
  pub colour : c.0 < colours_of a.setup
  pub runs : IsRunningOn (history_at a c) c core count
  pub trailed : trail ≡ take (begun_of (history_at a c) c) (registered_of (history_at a c) c)

-- the words of the side of one core; whatever is a fact of the side, each call keeps it
abbrev pub side_words : {S P F : Type 0} → TrailWords S F → (SideState S P → Type 0)
    → AccessWords (SideState S P) S P F
side_words t Stands = record {
  setup_of = λ a. a.setup;
  core_of = λ a. a.core;
  frame_of = λ a. t.frame_of a.given;
  owes = λ a c core count trail. IsOut a c core count trail;
  keeps = λ a b. Stands a → Stands b;
  registers = λ a c event load answer b. AtShard a b c (RegisterAs c event load a.core answer);
  takes = λ a c answer b. AtShard a b c (TakeAs c a.core answer);
  finishes = λ a turn answer b. AtShard a b turn.colour (FinishAs turn answer);
  steals = λ a c answer b. AtShard a b c (StealAs c a.core answer);
  pushes = λ a core mark answer b. AtChain a b core (PushAs mark answer);
  pops = λ a answer b. AtChain a b a.core (PopAs answer);
  retells = λ a core c started worth found b. AtChain a b core (RetellAs c started worth found);
  picks = λ a core answer b. AtChain a b core (PickAs answer);
}

-- what the calls of a core do in a weave, where a colour has no more than one mark: the mark that a
-- worker pushes is the only one of its colour, so it always enters
abbrev pub weave_words : {S P F : Type 0} → TrailWords S F → AccessWords (SideState S P) S P F
weave_words t = record (side_words t (λ _. Unit {0})) {
  pushes = λ a core mark answer b.
      (answer ≡ Ok tt) × AtChain a b core (PushAs mark (Ok tt));
}
