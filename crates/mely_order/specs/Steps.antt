-- What a step and a post change of what is seen of the colours of a weave.
use Rattle.std.specs.Prelude.{◌≡◌, ◌≢◌, List, [], ◌∷◌, ◌++◌, Option, Some, Result, Ok, Err, ◌⊎◌}
use Rattle.mely_event.specs.declared.colour.Colour.{Colour}
use Rattle.mely_event.specs.declared.event.Event.{Event}
use Rattle.mely_event.specs.declared.trail.Trail.{Ghosts as TrailWords}
use Rattle.mely_event.specs.declared.unregistered.Unregistered.{Unregistered}
use Rattle.mely_history.specs.declared.registered.Registered.{Registered}
use Rattle.mely_worker.specs.declared.app.App.{Ghosts as AppWords}
use Rattle.mely_worker.specs.declared.made.Made.{Made}
use Rattle.mely_worker.specs.declared.made.Made.TheVariants as made
use Rattle.mely_worker.specs.Step.{register_name}
use Rattle.mely_weave.specs.Weave.{WeaveState}
use Rattle.mely_tally.specs.Tallies.{Carried}
use Rattle.mely_order.specs.Seen.{Put, seen, lost_in}

-- the event enters a line behind all others; where it was refused for memory the line stays
abbrev pub Enters : {P : Type 0} → Result Registered (Unregistered P) → Carried P
    → List (Carried P) → List (Carried P) → Type 0
Enters (Ok reply) event before after = after ≡ before ++ event ∷ []
Enters (Err back) event before after = after ≡ before

-- the registration is kept among those that were refused, where it was
abbrev pub IsKept : {P : Type 0} → Result Registered (Unregistered P) → Put P → List (Put P)
    → List (Put P) → Type 0
IsKept (Ok reply) put before after = after ≡ before
IsKept {P = P} (Err back) put before after = (front : List (Put P)) × (behind : List (Put P))
    × (before ≡ front ++ behind) × (after ≡ front ++ (put ∷ []) ++ behind)

-- nothing is seen of any colour, and nothing was refused
pub record NothingSeen {S P : Type 0} (before after : WeaveState S P) : Type 0 where
  pub each : (c : Colour) → seen c after ≡ seen c before
  pub lost : lost_in after ≡ lost_in before

-- a registration: the first one that is left to a colour's turn, in whatever colour's line it is
-- to stand
pub record RegistersFirst {S P : Type 0} (step : Made)
    (before after : WeaveState S P) : Type 0 where
  pub by : Colour
  pub put : Put P
  pub rest : List (Put P)
  pub answer : Result Registered (Unregistered P)
  pub named : step ≡ register_name put.0 answer
  pub first : (seen by before).puts ≡ put ∷ rest
  pub left : (seen by after).puts ≡ rest
  pub enters : Enters answer (put.1, put.2) (seen put.0 before).line (seen put.0 after).line
  pub states : (c : Colour) → (seen c after).state ≡ (seen c before).state
  pub lines : (c : Colour) → c.0 ≢ put.0.0 → (seen c after).line ≡ (seen c before).line
  pub others : (c : Colour) → c.0 ≢ by.0 → (seen c after).puts ≡ (seen c before).puts
  pub lost : IsKept answer put (lost_in before) (lost_in after)

module _ {R S P F : Type 0} (t : TrailWords S F) (fits : F → Colour → Event → Option P → Type 0)
    (y : AppWords R P S F) (app : R) (step : Made) (before after : WeaveState S P) where
  -- a handler: the first event of a colour's line, which fitted, is run on the colour's state, once
  -- nothing is left to register; what the handler puts is left to register then
  pub record RunsFirst : Type 0 where
    pub of : Colour
    pub state : S
    pub event : Carried P
    pub becomes : S
    pub puts : List (Put P)
    pub named : step ≡ made.Ran of event.0.handler
    pub ran : y.runs app state event.0 event.1 becomes puts
    pub colour : t.colour_of state ≡ of
    pub frame : t.frame_of state ≡ t.frame_of before.given
    pub fit : fits (t.frame_of before.given) of event.0 event.1
    pub was : (seen of before).state ≡ Some state
    pub is : (seen of after).state ≡ Some becomes
    pub first : (seen of before).line ≡ event ∷ (seen of after).line
    pub none_left : (seen of before).puts ≡ []
    pub put : (seen of after).puts ≡ puts
    pub others : (c : Colour) → c.0 ≢ of.0 → seen c after ≡ seen c before
    pub lost : lost_in after ≡ lost_in before

  -- a step makes one registration, runs one event, or nothing is seen of it
  abbrev pub StepSeen : Type 0
  StepSeen = NothingSeen before after
      ⊎ (RegistersFirst step before after ⊎ RunsFirst)

-- a post: the event enters the line of its colour, unless it was refused
pub record PostSeen {S P : Type 0} (colour : Colour) (event : Event) (load : Option P)
    (answer : Result Registered (Unregistered P)) (before after : WeaveState S P) : Type 0 where
  pub enters : Enters answer (event, load) (seen colour before).line (seen colour after).line
  pub states : (c : Colour) → (seen c after).state ≡ (seen c before).state
  pub lines : (c : Colour) → c.0 ≢ colour.0 → (seen c after).line ≡ (seen c before).line
  pub puts : (c : Colour) → (seen c after).puts ≡ (seen c before).puts
  pub lost : lost_in after ≡ lost_in before
