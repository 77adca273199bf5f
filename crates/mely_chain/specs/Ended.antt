-- The runs of handlers that a weave made which has come to its end.
use Rattle.std.specs.Prelude.{◌≡◌, ℕ, List, [], Option, Some, slice_get}
use Rattle.mely_event.specs.declared.colour.Colour.{Colour}
use Rattle.mely_event.specs.declared.event.Event.{Event}
use Rattle.mely_event.specs.declared.trail.Trail.{Ghosts as TrailWords}
use Rattle.mely_note.specs.declared.note.Note.{Note}
use Rattle.mely_note.specs.Notes.{entries_of}
use Rattle.mely_tally.specs.Account.{HandlerRun}
use Rattle.mely_weave.specs.Side.{history_for}
use Rattle.mely_weave.specs.Weave.{WeaveState}
use Rattle.mely_worker.specs.Worker.{WorkerState}
use Rattle.mely_worker.specs.declared.app.App.{Ghosts as AppWords}
use Rattle.mely_chain.specs.InOrder.{AreInOrder}

-- no registration of a handler was refused for want of memory
abbrev pub NoneLost : {S P : Type 0} → WeaveState S P → Type 0
NoneLost {S = S} {P = P} weave = (core : ℕ) (w : WorkerState S P) → slice_get weave.workers core
    ≡ Some w → w.lost ≡ []

-- The runs of the cores, and with them those of the colours, which are in their order by notes of
-- the weave's histories.
pub record RanInOrder {R S P F : Type 0} (t : TrailWords S F)
    (fits : F → Colour → Event → Option P → Type 0) (y : AppWords R P S F) (app : R)
    (weave : WeaveState S P) (begin : Colour × Event × Option P)
    (given left : Colour → Option S) : Type 0 where
  pub notes : Colour → List (Note S P)
  pub by_core : List (List (HandlerRun S P))
  pub by_colour : Colour → List (ℕ × HandlerRun S P)
  pub noted : (c : Colour) → entries_of (notes c) ≡ history_for weave.setup weave.shards c
  pub in_order : AreInOrder t fits y app weave.setup (t.frame_of weave.given) begin given left notes
      by_core by_colour
