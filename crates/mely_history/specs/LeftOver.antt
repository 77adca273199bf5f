-- What is left of a history where the fronts of all cores are drained.
use Rattle.std.specs.Prelude.{◌≡◌, ◌<◌, ◌≤◌, ℕ, List, [], take, drop}
use Rattle.std.specs.List.{AllByRecursion}
use Rattle.mely_event.specs.declared.colour.Colour.{Colour}
use Rattle.mely_history.specs.Setup.{shape_of}
use Rattle.mely_history.specs.Entries.{pass_of, entries_by}
use Rattle.mely_history.specs.History.{registered_of, queued_of}
use Rattle.mely_history.specs.Legal.{IsDrained}
use Rattle.mely_history.specs.declared.setup.Setup.{Setup}
use Rattle.mely_history.specs.declared.entry.Entry.{Entry}

-- of each core, its pass has seen so many entries of the history: all that it made itself are among
-- them, and in them nothing runs or waits
pub record HaveDrainedFronts (setup : Setup) (history : List Entry) (seen : ℕ → ℕ) : Type 0 where
  pub own : (core : ℕ) → core < (shape_of setup).cores
      → entries_by core (drop (seen core) history) ≡ []
  pub drained : (core : ℕ) → core < (shape_of setup).cores → IsDrained (take (seen core) history)

-- the core has seen the most
pub record HasSeenMost (setup : Setup) (seen : ℕ → ℕ) (core : ℕ) : Type 0 where
  pub there : core < (shape_of setup).cores
  pub most : (other : ℕ) → other < (shape_of setup).cores → seen other ≤ seen core

-- what waits was registered behind this place, and all behind it was made by
-- passes that are no core's
pub record IsLeftOver (setup : Setup) (history : List Entry) (place : ℕ) : Type 0 where
  pub behind : (c : Colour) → queued_of history c ≡ registered_of (drop place history) c
  pub by_others : AllByRecursion (λ entry. (shape_of setup).cores
      ≤ pass_of entry) (drop place history)
