-- Which events and loads may be together.
use Rattle.std.specs.Prelude.{◌≡◌, ◌<◌, ◌++◌, ℕ, List, [], ◌∷◌, Option, None, Some, Bool, true, false, map, filter_map}
use Rattle.std.specs.List.{AllByRecursion}
use Rattle.mely_event.specs.declared.colour.Colour.{Colour}
use Rattle.mely_event.specs.declared.event.Event.{Event}
use Rattle.mely_worker.specs.Access.{FitsIn}
use Rattle.mely_actor.specs.declared.actor.Actor.{Ghosts as ActorWords}
use Rattle.mely_actor.specs.declared.load.Load.{Load}
use Rattle.mely_actor.specs.declared.load.Load.TheVariants.{Posts, Message}
use Rattle.mely_actor.specs.declared.load.Plan.{Plan}
use Rattle.mely_actor.specs.Sending.{MaySend, first_event, turn_event}
use Rattle.mely_actor.specs.Waiting.{put_later, put_now}

-- the first event of a run is on colour 0 and carries all posts
pub record FitsPosts {M : Type 0} (colours : ℕ) (posts all : List (Colour × M)) (colour : Colour)
    (event : Event) : Type 0 where
  pub there : colour.0 < colours
  pub first : event ≡ first_event
  pub are : all ≡ posts

-- a turn carries nothing
pub record FitsNothing (colours : ℕ) (colour : Colour) (event : Event) : Type 0 where
  pub there : colour.0 < colours
  pub turn : event ≡ turn_event

-- an event of a message carries it, and the colour may be sent it
pub record FitsMessage {M : Type 0} (colours : ℕ) (event_of : M → Event)
    (sound : Colour → M → Type 0) (colour : Colour) (event : Event) (message : M) : Type 0 where
  pub there : colour.0 < colours
  pub own : 0 < event.handler
  pub of_message : event ≡ event_of message
  pub is_sound : sound colour message

module _ {M : Type 0} (colours : ℕ) (event_of : M → Event) (sound : Colour → M → Type 0)
    (posts : List (Colour × M)) (colour : Colour) (event : Event) where
  -- each event carries either
  abbrev pub FitsLoad : Option (Load M) → Type 0
  FitsLoad (Some (Posts all)) = FitsPosts colours posts all.items colour event
  FitsLoad (Some (Message message)) = FitsMessage colours event_of sound colour event message
  FitsLoad None = FitsNothing colours colour event

-- the app is of this actor, and all that is to be posted may be sent
pub record Serves {A M : Type 0} (colours rows : ℕ) (event_of : M → Event)
    (sound : Colour → M → Type 0) (actor : A) (plan : Plan A M) : Type 0 where
  pub same : plan.actor ≡ actor
  pub library : 0 < rows
  pub may : AllByRecursion (MaySend colours rows event_of sound) plan.posts.items

-- the message of a load
abbrev pub message_of : {M : Type 0} → Option (Load M) → Option M
message_of (Some (Posts all)) = None
message_of (Some (Message message)) = Some message
message_of None = None

-- the messages that events carry, in order
abbrev pub messages_of : {M : Type 0} → List (Event × Option (Load M)) → List M
messages_of loads = filter_map (λ load. message_of load.1) loads

-- whether it is the load of a turn
abbrev pub is_turn : {M : Type 0} → Option (Load M) → Bool
is_turn (Some load) = false
is_turn None = true

-- what is registered for a message that is sent
abbrev pub as_put : {M : Type 0} → (M → Event) → Colour × M → Colour × Event × Option (Load M)
as_put event_of send = (send.0, event_of send.1, Some (Message send.1))

-- for all that are sent
abbrev pub as_puts : {M : Type 0} → (M → Event) → List (Colour × M)
    → List (Colour × Event × Option (Load M))
as_puts event_of sends = map (as_put event_of) sends

-- the turn, where it is registered
abbrev pub turn_puts : {M : Type 0} → Colour → Bool → List (Colour × Event × Option (Load M))
turn_puts colour true = (colour, turn_event, None) ∷ []
turn_puts colour false = []

-- what is registered of what is to be sent, where a turn is registered already or not, and of what
-- waits then
pub record IsPut {M : Type 0} (event_of : M → Event) (colour : Colour) (busy turn : Bool)
    (all left : List (Colour × M)) (puts : List (Colour × Event × Option (Load M))) : Type 0 where
  pub puts_are : puts ≡ as_puts event_of (put_now busy all) ++ turn_puts colour turn
  pub left_is : left ≡ put_later busy all

-- each put fits
abbrev pub ArePutsFit : {A V M : Type 0} → ActorWords A V M → A → List (Colour × M)
    → List (Colour × Event × Option (Load M)) → Type 0
ArePutsFit a actor posts puts = AllByRecursion (FitsIn (a.colours_of actor) (a.rows_of actor)
    (FitsLoad (a.colours_of actor) a.event_of (a.sound actor) posts)) puts
