-- What was registered on the colours of a run that came to its end, and by which run of a handler.
use Rattle.std.specs.Prelude.{◌≡◌, ◌==◌, ◌<◌, ℕ, List, [], ◌∷◌, Option, Some, None, if◌then◌else◌, map, filter_map, slice_get}
use Rattle.mely_event.specs.declared.colour.Colour.{Colour}
use Rattle.mely_event.specs.declared.event.Event.{Event}
use Rattle.mely_tally.specs.Account.{HandlerRun}
use Rattle.mely_chain.specs.Runs.{puts_on, puts_of}

-- a registration on a colour: the event with its load, when it was made, by a clock that goes on
-- from each registration to what it causes, and what made it: the run of a handler, by its colour
-- and its number among the runs of that colour, or nobody, where it was the first event
pub record Registration (P : Type 0) : Type 0 where
  pub event : Event × Option P
  pub at : ℕ
  pub cause : Option (Colour × ℕ)

module _ {P : Type 0} where
  -- the event of a registration, where the first event's is asked for
  abbrev pub put_first : Registration P → Option (Event × Option P)
  put_first came = by came.cause where
    by : Option (Colour × ℕ) → Option (Event × Option P)
    by None = Some came.event
    by (Some run) = None

  -- where it was made by a run of this colour
  abbrev pub put_by_colour : Colour → Registration P → Option (Event × Option P)
  put_by_colour d came = by came.cause where
    by : Option (Colour × ℕ) → Option (Event × Option P)
    by None = None
    by (Some run) = if run.0.0 == d.0 then Some came.event else None

  -- where it was made by this run
  abbrev pub put_by_run : Colour → ℕ → Registration P → Option (Event × Option P)
  put_by_run d j came = by came.cause where
    by : Option (Colour × ℕ) → Option (Event × Option P)
    by None = None
    by (Some run) = if run.0.0 == d.0 then (if run.1 == j then Some came.event else None) else None

-- Of what was registered on each colour, and of the runs of each colour, in their order: each
-- registration but that of the first event was put by a run; what a run put on a colour was
-- registered there, in that order, and behind what the runs of its colour before it put; and each
-- registration was made later than that of the event by whose run it was put. So nothing is made
-- up, and what one colour sends to another arrives in the order in which it was sent.
pub record AreCaused {S P : Type 0} (begin : Colour × Event × Option P)
    (loaded : Colour → List (Event × Option P)) (runs : Colour → List (HandlerRun S P))
    : Type 0 where
  pub came : Colour → List (Registration P)
  pub loads : (c : Colour) → map (λ one. one.event) (came c) ≡ loaded c
  pub rise : (c : Colour) (i j : ℕ) (one two : Registration P) → slice_get (came c) i ≡ Some one
      → slice_get (came c) j ≡ Some two → i < j → one.at < two.at
  pub first : (c : Colour) → filter_map put_first (came c) ≡ puts_on c (begin ∷ [])
  pub by_colour : (c d : Colour) → filter_map (put_by_colour d) (came c)
      ≡ puts_on c (puts_of (runs d))
  pub by_run : (c d : Colour) (j : ℕ) (run : HandlerRun S P) → slice_get (runs d) j ≡ Some run
      → filter_map (put_by_run d j) (came c) ≡ puts_on c run.puts
  pub caused : (c d : Colour) (i j : ℕ) (one : Registration P) → slice_get (came c) i ≡ Some one
      → one.cause ≡ Some (d, j) → (cause : Registration P) × (slice_get (came d) j ≡ Some cause)
      × (cause.at < one.at)
