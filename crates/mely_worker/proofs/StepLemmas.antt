-- After a step a worker meets the conditions of the next one.
use Rattle.std.proofs.Common.{◌≡◌, ℕ, ◌≤◌, List, [], ◌∷◌, ◌++◌, length, Option, ap, subst, sym, ◌∙◌, append_assoc, arith}
use Rattle.std.specs.List.{AllByRecursion}
use Rattle.mely_event.specs.declared.event.Event.{Event}
use Rattle.mely_event.specs.declared.colour.Colour.{Colour}
use Rattle.mely_event.specs.declared.trail.Trail.{Ghosts as TrailWords}
use Rattle.mely_event.specs.HandlerTable.{rows_of}
use Rattle.mely_history.specs.Setup.{colours_of, handlers_of}
use Rattle.mely_queue.specs.Turn.{TurnState}
use Rattle.mely_worker.specs.declared.phase.Phase.TheVariants.{Turning}
use Rattle.mely_worker.specs.declared.delivery.Delivery.TheVariants.{Nothing}
use Rattle.mely_worker.specs.declared.access.Access.{Ghosts as AccessWords}
use Rattle.mely_worker.specs.Access.{events_of}
use Rattle.mely_worker.specs.Access.{FitsIn}
use Rattle.mely_worker.specs.Worker.{WorkerState}
use Rattle.mely_worker.specs.Step.{in_phase}
use Rattle.mely_worker.specs.Conditions.{MayStepAt, WillBeSpentAt, AppServesAt}
use Rattle.mely_worker.specs.declared.app.App.{Ghosts as AppWords}

-- what fits fewer colours and handlers fits more of them
fits_more : {P : Type 0} (m n k l : ℕ) (Fits : Colour → Event → Option P → Type 0) (puts : List (Colour × Event × Option P)) → m ≤ k → n ≤ l → AllByRecursion (FitsIn m n Fits) puts → AllByRecursion (FitsIn k l Fits) puts
fits_more m n k l Fits [] p q h = h
fits_more m n k l Fits (put ∷ puts) p q h =
    (record { colour = omega (arith, h.0.colour, p); handler = omega (arith, h.0.handler, q); load = h.0.load }, fits_more m n k l Fits puts p q h.1)

module _ {A S P F : Type 0} (t : TrailWords S F) (Fits : F → Colour → Event → Option P → Type 0) (x : AccessWords A S P F) (access : A) where
  -- the turn will still be spent once the handler of its first event ran
  turn_after_run : (turn : TurnState S P) (event : Event × Option P) (rest : List (Event × Option P)) (state : S) → WillBeSpentAt t Fits x access turn → turn.events ≡ event ∷ rest → t.colour_of state ≡ t.colour_of turn.state → t.frame_of state ≡ t.frame_of turn.state → t.trail_of state ≡ t.trail_of turn.state ++ event.0 ∷ [] → WillBeSpentAt t Fits x access (record turn { state = state; events = rest })
  turn_after_run turn event rest state stands left colour fr trail =
      let fits : AllByRecursion (λ (e : Event × Option P). Fits (x.frame_of access) turn.colour e.0 e.1) (event ∷ rest) = subst (λ (l : List (Event × Option P)). AllByRecursion (λ (e : Event × Option P). Fits (x.frame_of access) turn.colour e.0 e.1) l) left stands.events_fit in
      let owed : x.owes access turn.colour turn.core turn.count (t.trail_of turn.state ++ events_of (event ∷ rest)) = subst (λ (l : List (Event × Option P)). x.owes access turn.colour turn.core turn.count (t.trail_of turn.state ++ events_of l)) left stands.owed in
      let same : t.trail_of turn.state ++ events_of (event ∷ rest) ≡ t.trail_of state ++ events_of rest = sym (ap (λ (l : List Event). l ++ events_of rest) trail ∙ append_assoc (t.trail_of turn.state) (event.0 ∷ []) (events_of rest)) in
      record {
        of_setup = stands.of_setup;
        of_colour = colour ∙ stands.of_colour;
        of_frame = fr ∙ stands.of_frame;
        events_fit = fits.1;
        owed = subst (λ (l : List Event). x.owes access turn.colour turn.core turn.count l) same owed;
      }

  -- the same, where the event was handed out and the handler was given the state
  turn_after_next : (turn next : TurnState S P) (event : Event × Option P) (lent state : S) → WillBeSpentAt t Fits x access turn → turn.events ≡ event ∷ next.events → next ≡ record turn { events = next.events } → lent ≡ next.state → t.colour_of state ≡ t.colour_of lent → t.frame_of state ≡ t.frame_of lent → t.trail_of state ≡ t.trail_of lent ++ event.0 ∷ [] → WillBeSpentAt t Fits x access (record next { state = state })
  turn_after_next turn next event lent state stands left rest given colour fr trail =
      let was : lent ≡ turn.state = given ∙ ap (λ (n : TurnState S P). n.state) rest in
      let after : WillBeSpentAt t Fits x access (record turn { state = state; events = next.events }) = turn_after_run turn event next.events state stands left (colour ∙ ap t.colour_of was) (fr ∙ ap t.frame_of was) (trail ∙ ap (λ (s : S). t.trail_of s ++ event.0 ∷ []) was) in
      subst (λ (n : TurnState S P). WillBeSpentAt t Fits x access (record n { state = state })) (sym rest) after

  -- the worker may step again once the handler of the next event ran
  pub stands_after_run : {R : Type 0} (y : AppWords R P S F) (app : R) (w : WorkerState S P) (turn next : TurnState S P) (event : Event × Option P) (lent state : S) (none puts : List (Colour × Event × Option P)) → AppServesAt x y access app → MayStepAt t Fits x access (in_phase w (Turning turn Nothing none)) → turn.events ≡ event ∷ next.events → next ≡ record turn { events = next.events } → lent ≡ next.state → t.colour_of state ≡ t.colour_of lent → t.frame_of state ≡ t.frame_of lent → t.trail_of state ≡ t.trail_of lent ++ event.0 ∷ [] → AllByRecursion (FitsIn (y.colours_of app) (y.handlers_of app) (Fits (t.frame_of lent))) puts → MayStepAt t Fits x access (in_phase w (Turning (record next { state = state }) Nothing puts))
  stands_after_run y app w turn next event lent state none puts served stands left rest given colour fr trail fit =
      let of_frame : t.frame_of lent ≡ x.frame_of access = ap t.frame_of (given ∙ ap (λ (n : TurnState S P). n.state) rest) ∙ stands.phase.of_turn.of_frame in
      let fit' : AllByRecursion (FitsIn (y.colours_of app) (y.handlers_of app) (Fits (x.frame_of access))) puts = subst (λ (f : F). AllByRecursion (FitsIn (y.colours_of app) (y.handlers_of app) (Fits f)) puts) of_frame fit in
      record {
        own_core = stands.own_core;
        core = stands.core;
        batch = stands.batch;
        victims = stands.victims;
        phase = record {
          of_turn = turn_after_next turn next event lent state stands.phase.of_turn left rest given colour fr trail;
          in_hand = tt;
          of_puts = fits_more (y.colours_of app) (y.handlers_of app) (colours_of (x.setup_of access)) (length (rows_of (handlers_of (x.setup_of access)))) (Fits (x.frame_of access)) puts served.colours served.handlers fit';
        };
        lost = stands.lost;
      }
