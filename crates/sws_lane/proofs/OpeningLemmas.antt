-- Events of bursts open once, at their beginning, as the steps do.
use Rattle.std.proofs.Common.{◌≡◌, ◌≢◌, ℕ, zero, suc, Bool, true, false, if◌then◌else◌, List, [], ◌∷◌, map, refl, sym, subst, ◌||◌}
use Rattle.std.proofs.lemmas.Option.{none-some, same_Some}
use Rattle.std.specs.List.{AllByRecursion}
use Rattle.sws_steps.specs.Logs.{Step}
use Rattle.sws_steps.specs.declared.Handler.TheVariants as handler
use Rattle.sws_handlers.specs.Tasks.{number_of}
use Rattle.sws_burst.specs.Bursts.{begins}
use Rattle.sws_burst.specs.LoggedBursts.{events_from, events_of, gives_line_from, left_behind}
use Rattle.sws_weave.specs.Openings.{HasNoOpening, IsOpened, AreOpened}

-- an event, and those behind it, where a burst begins, and else those alone
none_opens_by : (b : Bool) (event : Step) (later : List Step) → number_of event.handler ≢ number_of handler.Open → HasNoOpening later → HasNoOpening (if b then event ∷ later else later)
none_opens_by true event later other rest = (other, rest)
none_opens_by false event later other rest = rest

-- of steps none of which opens, no event does
none_opens : (left : ℕ) (steps : List Step) → HasNoOpening steps → HasNoOpening (events_from left steps)
unfolding events_from
none_opens left [] none = none
none_opens left (step ∷ later) none =
    none_opens_by (begins left step.handler) (record { handler = step.handler; line = step.line || gives_line_from (left_behind left step) later }) (events_from (left_behind left step) later)
    none.0 (none_opens (left_behind left step) later none.1)

-- the events of a path that opens once do
opens_once : (path : List Step) → IsOpened path → IsOpened (events_of path)
opens_once path o = subst (λ (p : List Step). IsOpened (events_of p)) (sym o.path_is) (record {
  first = o.first;
  later = events_from 0 o.later;
  path_is = refl;
  opens = o.opens;
  once = none_opens 0 o.later o.once;
})

-- so do those of each path
pub all_open_once : (whole : List (List Step)) → AreOpened whole → AreOpened (map events_of whole)
all_open_once [] all i path there = absurd (none-some path there)
all_open_once (first ∷ later) all zero path there =
    subst (λ (p : List Step). IsOpened p) (same_Some (events_of first) path there) (opens_once first (all zero first refl))
all_open_once (first ∷ later) all (suc i) path there = all_open_once later (λ j p. all (suc j) p) i path there
