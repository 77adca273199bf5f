-- What an event does to the state of its colour, and what it puts.
use Rattle.std.specs.Prelude.{◌≡◌, ◌+◌, ◌++◌, ℕ, List, [], ◌∷◌, Option, None, Some, Bool, false, length}
use Rattle.std.specs.List.{AllByRecursion}
use Rattle.mely_event.specs.declared.colour.Colour.{Colour}
use Rattle.mely_event.specs.declared.event.Event.{Event}
use Rattle.mely_actor.specs.declared.actor.Actor.{Ghosts as ActorWords}
use Rattle.mely_actor.specs.declared.load.Load.{Load}
use Rattle.mely_actor.specs.declared.load.Load.TheVariants.{Posts, Message}
use Rattle.mely_actor.specs.declared.load.Plan.{Plan}
use Rattle.mely_actor.specs.KeptState.{KeptState}
use Rattle.mely_actor.specs.Loads.{IsPut, is_turn}
use Rattle.mely_actor.specs.Sending.{MaySend}
use Rattle.mely_actor.specs.Waiting.{turn_is_put, turning}

module _ {A V M : Type 0} (a : ActorWords A V M) where
  -- a message is received and these are sent: the value keeps the author's fact over both
  pub record Receives (before after : KeptState A M V) (message : M) (sends : List (Colour × M))
      : Type 0 where
    pub counts : after.count ≡ before.count + 1
    pub keeps : (received : List M) (sent : List (Colour × M)) → length received ≡ before.count
        → a.kept before.plan.actor before.log.colour received sent before.value
        → a.kept before.plan.actor before.log.colour (received ++ message ∷ []) (sent ++ sends)
        after.value

  -- these are sent, and no message is received
  pub record SendsOnly (before after : KeptState A M V) (sends all : List (Colour × M))
      : Type 0 where
    pub sends_are : sends ≡ all
    pub counts : after.count ≡ before.count
    pub keeps : after.value ≡ before.value

  -- what the load of an event has its colour do: the first event of a run sends all posts, and a
  -- turn nothing new
  abbrev pub Does : KeptState A M V → KeptState A M V → List (Colour × M) → Option (Load M)
      → Type 0
  Does before after sends (Some (Posts all)) = SendsOnly before after sends all.items
  Does before after sends (Some (Message message)) = Receives before after message sends
  Does before after sends None = SendsOnly before after sends []

  -- what is sent goes behind what waits, of which so much is put as there is room for
  pub record Steps (before : KeptState A M V) (load : Option (Load M)) (after : KeptState A M V)
      (puts : List (Colour × Event × Option (Load M))) : Type 0 where
    pub well : before.failed ≡ false
    pub sends : List (Colour × M)
    pub does : Does before after sends load
    pub put : IsPut a.event_of before.log.colour (turning (is_turn load) before.waiting)
        (turn_is_put (is_turn load) before.waiting (before.waiting ++ sends))
        (before.waiting ++ sends) after.waiting puts

  -- what the handler of an event does, but where the state has failed then
  abbrev pub Runs : KeptState A M V → Option (Load M) → KeptState A M V
      → List (Colour × Event × Option (Load M)) → Type 0
  Runs before load after puts = after.failed ≡ false → Steps before load after puts

  -- all that waits may be sent, but where the state has failed
  abbrev pub MayWait : Plan A M → Bool → List (Colour × M) → Type 0
  MayWait plan failed waiting = failed ≡ false → AllByRecursion (MaySend (a.colours_of plan.actor)
      (a.rows_of plan.actor) a.event_of (a.sound plan.actor)) waiting

  -- the value keeps the author's fact over some messages that its colour has received, and some that
  -- it has sent
  pub record Keeps (actor : A) (colour : Colour) (value : V) : Type 0 where
    pub received : List M
    pub sent : List (Colour × M)
    pub kept : a.kept actor colour received sent value

  -- so it does over as many received messages as were counted, but where the state has failed
  abbrev pub HasKept : A → Colour → ℕ → Bool → V → Type 0
  HasKept actor colour count failed value = failed ≡ false → (keeps : Keeps actor colour value)
      × (length keeps.received ≡ count)
