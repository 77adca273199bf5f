-- Paths of connections that open once, at their beginning.
use Rattle.std.specs.Prelude.{◌≡◌, ◌≢◌, ℕ, List, ◌∷◌, Some, slice_get}
use Rattle.std.specs.List.{AllByRecursion}
use Rattle.sws_steps.specs.Logs.{Step}
use Rattle.sws_steps.specs.declared.Handler.TheVariants as handler
use Rattle.sws_handlers.specs.Tasks.{number_of}

-- no opening
abbrev pub HasNoOpening : List Step → Type 0
HasNoOpening path = AllByRecursion (λ step. number_of step.handler ≢ number_of handler.Open) path

-- the path begins with the opening, and has no other
pub record IsOpened (path : List Step) : Type 0 where
  pub first : Step
  pub later : List Step
  pub path_is : path ≡ first ∷ later
  pub opens : first.handler ≡ handler.Open
  pub once : HasNoOpening later

-- each path does
abbrev pub AreOpened : List (List Step) → Type 0
AreOpened whole = (i : ℕ) (path : List Step) → slice_get whole i ≡ Some path → IsOpened path
