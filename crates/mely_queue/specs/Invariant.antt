-- What the fields of a queue keep.
use Rattle.std.specs.Prelude.{◌≡◌, ◌≤◌, ◌<◌, ◌+◌, ◌^◌, ◌*◌, ℕ, List, Option, length, sum}
use Rattle.mely_event.specs.declared.event.Event.{Event}

-- each event has a weight, the counts fit their words, and the time left is the sum of the weights
pub record IsConsistent {P : Type 0} (events : List (Event × Option P)) (weights : List ℕ)
    (started finished time_left : ℕ) : Type 0 where
  pub weighed : length events ≡ length weights
  pub counted : started + length events < 2 ^ 64
  pub done : finished ≤ started
  pub worth : time_left ≡ sum weights
  pub small : time_left ≤ 4294967295 * (started + length events)
