-- What the handlers of a run put, against what was registered.
use Rattle.std.specs.Prelude.{◌≡◌, ◌+◌, ℕ, zero, suc, List, [], Option, Some, sum_by, slice_get}
use Rattle.std.specs.List.{AllByRecursion}
use Rattle.mely_event.specs.declared.colour.Colour.{Colour}
use Rattle.mely_event.specs.declared.event.Event.{Event}
use Rattle.mely_event.specs.declared.trail.Trail.{Ghosts as TrailWords}
use Rattle.mely_history.specs.History.{registered_of}
use Rattle.mely_history.specs.declared.entry.Entry.{Entry}
use Rattle.mely_history.specs.declared.setup.Setup.{Setup}
use Rattle.mely_tally.specs.Account.{HandlerRun, IsRunOf, count_put, count_puts, count_run, sum_along}
use Rattle.mely_weave.specs.Side.{shard_of}
use Rattle.mely_worker.specs.declared.app.App.{Ghosts as AppWords}

module _ {R S P F : Type 0} (t : TrailWords S F) (fits : F → Colour → Event → Option P → Type 0)
    (y : AppWords R P S F) (app : R) (setup : Setup) (frame : F) where
  -- These are the runs of the app's handlers, by its relation. What they put, with the first event,
  -- is what the histories say was registered, and they were run on what was registered, each event
  -- once, on the events of its colour before it: so it is counted on each colour, whatever number
  -- an event has.
  pub record PutsAre (begin : Colour × Event × Option P) (histories : List (List Entry))
      (runs : List (HandlerRun S P)) : Type 0 where
    pub each : AllByRecursion (IsRunOf t fits y app setup frame) runs
    pub put : (c : Colour) (history : List Entry) → slice_get histories (shard_of setup c)
        ≡ Some history → (number : Event → ℕ) → sum_by number (registered_of history c)
        ≡ count_put c number begin + sum_by (λ run. count_puts c number run.puts) runs
    pub ran : (c : Colour) (history : List Entry) → slice_get histories (shard_of setup c)
        ≡ Some history → (number : List Event → Event → ℕ) → sum_by (count_run t c number) runs
        ≡ sum_along number [] (registered_of history c)

  -- some runs of the app's handlers put all that was registered, but for the first event
  abbrev pub HasPutAll : Colour × Event × Option P → List (List Entry) → Type 0
  HasPutAll begin histories = (runs : List (HandlerRun S P)) × PutsAre begin histories runs

  -- what a handler puts is told by the colour, the events that were run on it before, and the event
  abbrev pub TellsPuts : (Colour → List Event → Event → List (Colour × Event × Option P)) → Type 0
  TellsPuts puts_of = (run : HandlerRun S P) → IsRunOf t fits y app setup frame run
      → run.puts ≡ puts_of run.colour (t.trail_of run.state) run.event

-- a number of each of so many colours, summed up
abbrev pub sum_colours : ℕ → (Colour → ℕ) → ℕ
sum_colours zero f = 0
sum_colours (suc n) f = sum_colours n f + f (record { 0 = n })
