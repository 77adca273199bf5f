-- What an app's author gets of the order in which the handlers ran: a value that each handler makes
-- of the one before and of its event is, in the end, made of all events one after another.
use Rattle.std.proofs.Common.{◌≡◌, List, [], ◌∷◌, Option, Some, fold, map, refl, sym, ◌∙◌, ap}
use Rattle.std.specs.List.{AllByRecursion}
use Rattle.std.specs.Prelude.{slice_get}
use Rattle.mely_event.specs.declared.colour.Colour.{Colour}
use Rattle.mely_event.specs.declared.event.Event.{Event}
use Rattle.mely_event.specs.declared.trail.Trail.{Ghosts as TrailWords}
use Rattle.mely_history.specs.declared.entry.Entry.{Entry}
use Rattle.mely_history.specs.declared.setup.Setup.{Setup}
use Rattle.mely_history.specs.History.{registered_of}
use Rattle.mely_note.specs.Notes.{loaded_of}
use Rattle.mely_note.proofs.NoteLemmas.{events-loaded_of}
use Rattle.mely_tally.specs.Account.{HandlerRun, IsRunOf}
use Rattle.mely_weave.specs.Side.{shard_of}
use Rattle.mely_worker.specs.declared.app.App.{Ghosts as AppWords}
use Rattle.mely_chain.specs.Runs.{Follow, given_to}
use Rattle.mely_chain.proofs.OrderLemmas.{each_on}
use Rattle.mely_app.specs.InOrder.{RanInOrder}

-- a step along the events alone is one along the events with their loads
fold_events : {V X : Type 0} (step : V → Event → V) (value : V) (loads : List (Event × X)) → fold (λ v load. step v load.0) value loads ≡ fold step value (map (λ load. load.0) loads)
fold_events step value [] = refl
fold_events step value (load ∷ loads) = fold_events step (step value load.0) loads

module _ {R S P F : Type 0} (t : TrailWords S F) (fits : F → Colour → Event → Option P → Type 0) (y : AppWords R P S F) (app : R) (setup : Setup) (frame : F)
    (begin : Colour × Event × Option P) (first : List S) (histories : List (List Entry)) (states : List S) (ran : RanInOrder t fits y app setup frame begin first histories states)
    {V : Type 0} (value : S → V) (c : Colour) (from to : S) (given : slice_get first c.0 ≡ Some from) (left : slice_get states c.0 ≡ Some to) where
  -- a run of the app's handlers on the colour
  abbrev IsOn : HandlerRun S P → Type 0
  IsOn run = IsRunOf t fits y app setup frame run × (run.colour ≡ c)

  along : (step : V → Event × Option P → V) → ((run : HandlerRun S P) → IsRunOf t fits y app setup frame run → run.colour ≡ c → value run.becomes ≡ step (value run.state) (run.event, run.load))
      → (state : S) (runs : List (HandlerRun S P)) → AllByRecursion IsOn runs → Follow state runs to → value to ≡ fold step (value state) (map given_to runs)
  along step steps state [] each follow = ap value follow
  along step steps state (run ∷ runs) each follow =
      along step steps run.becomes runs each.1 follow.1
      ∙ ap (λ v. fold step v (map given_to runs)) (steps run each.0.0 each.0.1 ∙ ap (λ s. step (value s) (run.event, run.load)) follow.0)

  -- The value of the state that is left, where each run of a handler on the colour takes one step with
  -- its event and load: the steps along all that was registered there, from the value at first.
  pub value_is_fold : (step : V → Event × Option P → V) → ((run : HandlerRun S P) → IsRunOf t fits y app setup frame run → run.colour ≡ c → value run.becomes ≡ step (value run.state) (run.event, run.load))
      → value to ≡ fold step (value from) (loaded_of (ran.notes (shard_of setup c)) c)
  value_is_fold step steps =
      let chain = ran.in_order.on_colour c from to given left in
      along step steps from _ (each_on t fits y app setup frame begin (λ d. slice_get first d.0) (λ d. slice_get states d.0) (λ d. ran.notes (shard_of setup d)) ran.by_core ran.by_colour ran.in_order c) chain.follow
      ∙ ap (fold step (value from)) chain.given

  -- Where the step takes no load, the history alone tells the value.
  pub value_of_history : (step : V → Event → V) → ((run : HandlerRun S P) → IsRunOf t fits y app setup frame run → run.colour ≡ c → value run.becomes ≡ step (value run.state) run.event)
      → (history : List Entry) → slice_get histories (shard_of setup c) ≡ Some history → value to ≡ fold step (value from) (registered_of history c)
  value_of_history step steps history at =
      value_is_fold (λ v load. step v load.0) steps
      ∙ fold_events step (value from) (loaded_of (ran.notes (shard_of setup c)) c)
      ∙ ap (fold step (value from)) (events-loaded_of (ran.notes (shard_of setup c)) c ∙ sym (ap (λ h. registered_of h c) (ran.of_histories (shard_of setup c) history at)))
