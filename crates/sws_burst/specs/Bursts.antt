-- The events of a talk that takes several steps in one: each event is a burst of steps, which goes
-- on until the link isn't ready, nothing is left to do, or the burst has had its share.
use Rattle.std.specs.Prelude.{◌≡◌, ◌-◌, ◌||◌, ◌⊎◌, ℕ, zero, suc, Bool, true, false, if◌then◌else◌, List, [], ◌∷◌, Option, None, Some, map}
use Rattle.sws_steps.specs.declared.Handler.{Handler}
use Rattle.sws_steps.specs.declared.Handler.TheVariants as handler
use Rattle.sws_steps.specs.declared.Next.{Next}
use Rattle.sws_steps.specs.declared.Next.TheVariants as next
use Rattle.sws_steps.specs.Logs.{Step}
use Rattle.sws_steps.specs.Talks.{TalkView}

-- a burst has at most so many steps
abbrev pub burst_limit : ℕ
burst_limit = 32

-- whether a step can be made at once, after one that answered this
abbrev pub is_ready : Next → Bool
is_ready next.Open = false
is_ready next.Read = true
is_ready next.Parse = true
is_ready next.Look = true
is_ready next.Write = true
is_ready next.Wait = false
is_ready next.Close = true
is_ready next.Nothing = false

-- whether the step had to be waited for: it opens the link, or is done again since the link wasn't
-- ready
abbrev pub is_awaited : Handler → Bool
is_awaited handler.Open = true
is_awaited handler.Read = false
is_awaited handler.Parse = false
is_awaited handler.Look = false
is_awaited handler.Write = false
is_awaited handler.Resume = true
is_awaited handler.Close = false

-- whether no further step is left, and how many are after one more
abbrev pub is_spent : ℕ → Bool
is_spent zero = true
is_spent (suc left) = false

abbrev pub spend : ℕ → ℕ
spend zero = zero
spend (suc left) = left

-- whether a burst begins with the step, where the one before may have so many steps more
abbrev pub begins : ℕ → Handler → Bool
begins left step = is_spent left || is_awaited step

-- how many steps more the burst may have after the step
abbrev pub left_after : ℕ → Handler → ℕ
left_after left step = if begins left step then burst_limit - 1 else spend left

-- of steps that follow one another those with which a burst begins, where the burst before them may
-- have so many steps more
unfoldable pub bursts_from : ℕ → List Handler → List Handler
bursts_from left [] = []
bursts_from left (step ∷ later) =
    if begins left step then step ∷ bursts_from (left_after left step) later
    else bursts_from (left_after left step) later

-- how many steps more the last burst may have after these steps
unfoldable pub left_of : ℕ → List Handler → ℕ
left_of left [] = left
left_of left (step ∷ later) = left_of (left_after left step) later

-- the events by which these steps are taken: the first, which is the opening, by itself, and then
-- bursts
abbrev pub bursts_of : List Handler → List Handler
bursts_of [] = []
bursts_of (opening ∷ later) = opening ∷ bursts_from 0 later

-- whether no step can be made at once: none is due, or one that has to be waited for
abbrev pub is_quiet : Option Handler → Bool
is_quiet None = true
is_quiet (Some step) = is_awaited step

-- the next step, if there is one, begins a burst
abbrev pub IsBetween : ℕ → Option Handler → Type 0
IsBetween left due = (left ≡ 0) ⊎ (is_quiet due ≡ true)

-- the talk inside was opened and has taken these steps, whose bursts are the events that were run,
-- and the last of them is over
pub record HasBurst {T L : Type 0} (has_run : L → List Handler → T → Type 0)
    (due : T → Option Handler) (first : L) (trail : List Handler) (talk : T) : Type 0 where
  pub later : List Handler
  pub ran : has_run first (handler.Open ∷ later) talk
  pub events : trail ≡ bursts_of (handler.Open ∷ later)
  pub between : IsBetween (left_of 0 later) (due talk)

-- a talk of which no log is kept
abbrev pub unlogged : TalkView → TalkView
unlogged view = record view { lines = 0 }

-- an event that gives no line
abbrev pub plain_step : Handler → Step
plain_step event = record { handler = event; line = false }

-- events that give no line
abbrev pub plain_steps : List Handler → List Step
plain_steps events = map plain_step events
