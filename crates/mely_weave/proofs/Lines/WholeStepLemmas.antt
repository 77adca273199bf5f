-- A step by the worker's rule keeps all standing well.
use Rattle.std.proofs.Common.{◌≡◌, ℕ, zero, suc, ◌<◌, Bool, true, false, List, [], ◌∷◌, Option, Some, None, refl, sym, ap, subst}
use Rattle.std.specs.Prelude.{slice_get, slice_set}
use Rattle.mely_event.specs.declared.colour.Colour.{Colour}
use Rattle.mely_event.specs.declared.event.Event.{Event}
use Rattle.mely_event.specs.declared.trail.Trail.{Ghosts as TrailWords}
use Rattle.mely_history.specs.Setup.{shape_of}
use Rattle.mely_queue.specs.Turn.{TurnState}
use Rattle.mely_worker.specs.declared.phase.Phase.{Phase}
use Rattle.mely_worker.specs.declared.phase.Phase.TheVariants.{Free, Popped, Picked, Landing, Pushing, Turning}
use Rattle.mely_worker.specs.declared.delivery.Delivery.{Delivery}
use Rattle.mely_worker.specs.declared.delivery.Delivery.TheVariants.{Nothing, PushMark, Report}
use Rattle.mely_worker.specs.declared.made.Made.{Made}
use Rattle.mely_worker.specs.declared.made.Made.TheVariants as names
use Rattle.mely_worker.specs.declared.app.App.{Ghosts as AppWords}
use Rattle.mely_worker.specs.Worker.{WorkerState}
use Rattle.mely_worker.specs.Conditions.{PhaseMayStep, MayStep}
use Rattle.mely_worker.specs.Step.{Line, Steps, StepsFrom, StepsTurning, StepsPuts, StepsTurn, StepsFree, StepsHunt, in_phase}
use Rattle.mely_weave.specs.Side.{SideState, readiness_for}
use Rattle.mely_weave.specs.Hands.{held_in, colour_in}
use Rattle.mely_weave.specs.Calls.{side_words, weave_words, IsOut}
use Rattle.mely_weave.specs.SideStands.{SideStands}
use Rattle.mely_weave.specs.StandsWell.{side_of, PhaseIsTold, StandsWell, WasntRefused}
use Rattle.mely_weave.specs.Weave.{WeaveState}
use Rattle.mely_weave.proofs.Lines.LineLemmas.{StepKeeps, own, told, take_line, steal_line, finish_line}
use Rattle.mely_weave.proofs.Lines.TurnLineLemmas.{register_line, run_line, halted_line}
use Rattle.mely_weave.proofs.Lines.ChainLineLemmas.{push_enters, push_line, pop_line, pick_line, retell_line}
use Rattle.mely_worker.proofs.ViewsLemmas.{line_under}
use Rattle.mely_weave.proofs.Lines.StepLemmas.{well_after}

module _ {S P F R : Type 0} (t : TrailWords S F) (fits : F → Colour → Event → Option P → Type 0) (weave : WeaveState S P) (well : StandsWell t fits weave) (k : ℕ) (w : WorkerState S P) (here : slice_get weave.workers k ≡ Some w) (low : k < (shape_of weave.setup).cores)
    (Keep : SideState S P → Type 0) (y : AppWords R P S F) (app : R) (made : Made) (b : SideState S P) (v : WorkerState S P) where
  abbrev Keeps : WorkerState S P → Made → Type 0
  Keeps u m = StepKeeps t fits weave well k w here low b u m

  abbrev from : SideState S P
  from = side_of weave k

  -- what each answer keeps, the line keeps
  carried : {Answer : Type 0} (Called : Answer → Type 0) (next : Answer → WorkerState S P) (name : Answer → Made) → ((answer : Answer) → Called answer → Keeps (next answer) (name answer)) → Line Called next name made v → Keeps v made
  carried Called next name keeps line =
      subst (λ (u : WorkerState S P). Keeps u made) (sym line.becomes) (subst (λ (m : Made). Keeps (next line.answer) m) (sym line.named) (keeps line.answer line.called))

  said : (phase : Phase S P) → w.phase ≡ phase → PhaseIsTold weave.setup (readiness_for weave.setup weave.shards) k phase
  said phase is = subst (PhaseIsTold weave.setup (readiness_for weave.setup weave.shards) k) is (told t fits weave well k w here low)

  own_core : w.core ≡ k
  own_core = own t fits weave well k w here low

  turn_keeps : (turn : TurnState S P) (left : List (Event × Option P)) → w.phase ≡ Turning turn Nothing [] → StepsTurn (side_words t Keep) y app from w made b v turn left → Keeps v made
  turn_keeps turn [] is line = carried _ _ _ (λ answer called. finish_line t fits weave well k w here low turn is b answer called) line
  turn_keeps turn (event ∷ rest) is r =
      subst (λ (u : WorkerState S P). Keeps u made) (sym r.becomes) (run_line t fits weave well k w here low turn r.state rest r.puts made is b r.untouched (subst WasntRefused (sym r.named) tt))

  puts_keep : (turn : TurnState S P) (puts : List (Colour × Event × Option P)) → w.phase ≡ Turning turn Nothing puts → StepsPuts (side_words t Keep) y app from w made b v turn puts → Keeps v made
  puts_keep turn [] is line = turn_keeps turn turn.events is line
  puts_keep turn (put ∷ rest) is line =
      let may : PhaseMayStep t fits weave.setup k (t.frame_of weave.given) (IsOut from) (Turning turn Nothing (put ∷ rest)) = subst (PhaseMayStep t fits weave.setup k (t.frame_of weave.given) (IsOut from)) is (well.worker k w here).may.phase in
      let fit = may.of_puts.0 in
      carried _ _ _ (λ answer called. register_line t fits weave well k w here low turn put.0 put.1 put.2 rest is (record { colour = fit.colour; handler = fit.handler }) b answer called) line

  turning_keeps : (turn : TurnState S P) (hand : Delivery) (puts : List (Colour × Event × Option P)) → w.phase ≡ Turning turn hand puts → StepsTurning (side_words t Keep) y app from w made b v turn hand puts → Keeps v made
  turning_keeps turn Nothing puts is line = puts_keep turn puts is line
  turning_keeps turn (PushMark core mark) puts is line =
      carried _ _ _ (λ answer called. push_line t fits weave well k w here low core mark (in_phase w (Turning turn Nothing puts)) (names.Pushed mark.colour core) (ap (held_in w.core) is) refl refl (sym (ap colour_in is)) ((said (Turning turn (PushMark core mark) puts) is).0, tt) tt b answer called) line
  turning_keeps turn (Report core colour started worth) puts is line =
      let told_of = said (Turning turn (Report core colour started worth) puts) is in
      carried _ _ _ (λ found called. retell_line t fits weave well k w here low b core colour started worth found called (in_phase w (Turning turn Nothing puts)) (sym (ap (held_in w.core) is)) told_of.1 (names.Told colour core found) refl (sym (ap colour_in is)) (told_of.0, tt) tt) line

  hunt_keeps : (n : ℕ) (victim : Option ℕ) → slice_get w.victims n ≡ victim → w.phase ≡ Free (suc n) → StepsHunt (side_words t Keep) y app from w made b v (suc n) victim → Keeps v made
  hunt_keeps n None there is line = absurd line
  hunt_keeps n (Some victim) there is line = carried _ _ _ (λ answer called. pick_line t fits weave well k w here low (suc n) victim n is there b answer called) line

  free_keeps : (halted : Bool) (place : ℕ) → w.phase ≡ Free place → StepsFree (side_words t Keep) y app from w made b v halted place → Keeps v made
  free_keeps true place is line = subst (λ (u : WorkerState S P). Keeps u made) (sym line.1) (halted_line t fits weave well k w here low b made line.0 (subst WasntRefused (sym line.2) tt))
  free_keeps false zero is line = carried _ _ _ (λ answer called. pop_line t fits weave well k w here low zero is b answer called) line
  free_keeps false (suc n) is line = hunt_keeps n (slice_get w.victims n) refl is line

  from_phase : (phase : Phase S P) → w.phase ≡ phase → StepsFrom (side_words t Keep) y app from w made b v phase → Keeps v made
  from_phase (Turning turn hand puts) is line = turning_keeps turn hand puts is line
  from_phase (Pushing core mark) is line =
      carried _ _ _ (λ answer called. push_line t fits weave well k w here low core mark (in_phase w (Free 0)) (names.Pushed mark.colour core) (ap (held_in w.core) is) refl refl (sym (ap colour_in is)) tt tt b answer called) line
  from_phase (Popped mark) is line = carried _ _ _ (λ answer called. take_line t fits weave well k w here low mark is b answer called) line
  from_phase (Picked mark victim) is line = carried _ _ _ (λ answer called. steal_line t fits weave well k w here low mark victim is b answer called) line
  from_phase (Landing mark) is line =
      carried _ _ _ (λ answer called. push_line t fits weave well k w here low w.core mark (in_phase w (Free 0)) (names.Landed mark.colour) (ap (held_in w.core) is) refl refl (sym (ap colour_in is)) tt tt b answer called) line
  from_phase (Free place) is line = free_keeps w.halted place is line

  -- the step keeps what stands
  pub step_keeps : Steps (side_words t Keep) y app from w made b v → Keeps v made
  step_keeps line = from_phase w.phase refl line

  -- and so all stands well after it
  pub step_stands : Steps (side_words t Keep) y app from w made b v → SideStands t fits b → MayStep t fits b.setup b.core (t.frame_of b.given) (IsOut b) v
      → StandsWell t fits (record { setup = b.setup; given = b.given; shards = b.shards; chains = b.chains; workers = slice_set weave.workers k v })
  step_stands line stands may =
      let keeps = step_keeps line in
      let to : SideState S P = record { setup = weave.setup; core = k; given = weave.given; shards = keeps.shards; chains = keeps.chains } in
      subst (λ (s : SideState S P). StandsWell t fits (record { setup = s.setup; given = s.given; shards = s.shards; chains = s.chains; workers = slice_set weave.workers k v })) (sym keeps.becomes)
      (well_after t fits weave well k w here keeps.shards keeps.chains v keeps.kept (subst (SideStands t fits) keeps.becomes stands)
      (subst (λ (s : SideState S P). MayStep t fits s.setup s.core (t.frame_of s.given) (IsOut s) v) keeps.becomes may))

  -- a line that pushes nothing is the same in a weave
  turn_enters : (turn : TurnState S P) (left : List (Event × Option P)) → StepsTurn (side_words t Keep) y app from w made b v turn left → StepsTurn (weave_words t) y app from w made b v turn left
  turn_enters turn [] line = line
  turn_enters turn (event ∷ rest) line = record { state = line.state; puts = line.puts; ran = line.ran; becomes = line.becomes; named = line.named; untouched = line.untouched }

  puts_enter : (turn : TurnState S P) (puts : List (Colour × Event × Option P)) → StepsPuts (side_words t Keep) y app from w made b v turn puts → StepsPuts (weave_words t) y app from w made b v turn puts
  puts_enter turn [] line = turn_enters turn turn.events line
  puts_enter turn (put ∷ rest) line = line

  -- a mark in hand enters
  turning_enters : (turn : TurnState S P) (hand : Delivery) (puts : List (Colour × Event × Option P)) → w.phase ≡ Turning turn hand puts → StepsTurning (side_words t Keep) y app from w made b v turn hand puts → StepsTurning (weave_words t) y app from w made b v turn hand puts
  turning_enters turn Nothing puts is line = puts_enter turn puts line
  turning_enters turn (PushMark core mark) puts is line = line_under (push_enters t fits weave well k w here low core mark (ap (held_in w.core) is) b) line
  turning_enters turn (Report core colour started worth) puts is line = line

  hunt_enters : (place : ℕ) (victim : Option ℕ) → StepsHunt (side_words t Keep) y app from w made b v place victim → StepsHunt (weave_words t) y app from w made b v place victim
  hunt_enters place (Some victim) line = line
  hunt_enters place None line = absurd line

  free_enters : (halted : Bool) (place : ℕ) → StepsFree (side_words t Keep) y app from w made b v halted place → StepsFree (weave_words t) y app from w made b v halted place
  free_enters true place line = line
  free_enters false zero line = line
  free_enters false (suc n) line = hunt_enters (suc n) (slice_get w.victims n) line

  phase_enters : (phase : Phase S P) → w.phase ≡ phase → StepsFrom (side_words t Keep) y app from w made b v phase → StepsFrom (weave_words t) y app from w made b v phase
  phase_enters (Turning turn hand puts) is line = turning_enters turn hand puts is line
  phase_enters (Pushing core mark) is line = line_under (push_enters t fits weave well k w here low core mark (ap (held_in w.core) is) b) line
  phase_enters (Popped mark) is line = line
  phase_enters (Picked mark victim) is line = line
  phase_enters (Landing mark) is line = line_under (push_enters t fits weave well k w here low w.core mark (ap (held_in w.core) is) b) line
  phase_enters (Free place) is line = free_enters w.halted place line

  -- a mark that the step pushes enters
  pub step_enters : Steps (side_words t Keep) y app from w made b v → Steps (weave_words t) y app from w made b v
  step_enters line = phase_enters w.phase refl line
