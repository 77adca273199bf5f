-- What one line of the worker's rule does to what is registered, what is left to register, and what
-- was run: over any access.
use Rattle.std.proofs.Common.{◌≡◌, ℕ, zero, suc, ◌+◌, ◌==◌, List, [], ◌∷◌, ◌++◌, Option, Some, None, Result, Ok, Err, Bool, true, false, if◌then◌else◌, refl, sym, ◌∙◌, ap, subst, arith, append_assoc}
use Rattle.std.proofs.lemmas.List.Sums.{sum_by-cons, sum_by_push}
use Rattle.std.specs.List.{AllByRecursion}
use Rattle.std.specs.Prelude.{slice_get, sum_by}
use Rattle.mely_event.specs.declared.colour.Colour.{Colour}
use Rattle.mely_event.specs.declared.event.Event.{Event}
use Rattle.mely_event.specs.declared.mark.Mark.{Mark}
use Rattle.mely_event.specs.declared.there.There.{There}
use Rattle.mely_event.specs.declared.trail.Trail.{Ghosts as TrailWords}
use Rattle.mely_event.specs.declared.unregistered.Unregistered.{Unregistered}
use Rattle.mely_history.specs.declared.after.After.{After}
use Rattle.mely_history.specs.declared.after.After.TheVariants.{More, Idle}
use Rattle.mely_history.specs.declared.no_steal.NoSteal.{NoSteal}
use Rattle.mely_history.specs.declared.no_steal.NoSteal.TheVariants as no_steal
use Rattle.mely_history.specs.declared.no_take.NoTake.{NoTake}
use Rattle.mely_history.specs.declared.no_take.NoTake.TheVariants as no_take
use Rattle.mely_history.specs.declared.registered.Registered.{Registered}
use Rattle.mely_history.specs.declared.stolen.Stolen.{Stolen}
use Rattle.mely_queue.specs.Turn.{TurnState, EachFits}
use Rattle.mely_worker.specs.Access.{events_of}
use Rattle.mely_worker.specs.Conditions.{MayStepAt, PhaseMayStep}
use Rattle.mely_worker.specs.declared.access.Access.{Ghosts as AccessWords}
use Rattle.mely_worker.specs.declared.app.App.{Ghosts as AppWords}
use Rattle.mely_worker.specs.declared.delivery.Delivery.{Delivery}
use Rattle.mely_worker.specs.declared.delivery.Delivery.TheVariants.{Nothing, PushMark, Report}
use Rattle.mely_worker.specs.declared.made.Made.{Made}
use Rattle.mely_worker.specs.declared.phase.Phase.{Phase}
use Rattle.mely_worker.specs.declared.phase.Phase.TheVariants.{Free, Popped, Picked, Landing, Pushing, Turning}
use Rattle.mely_worker.specs.Step.{Steps, StepsFrom, StepsTurning, StepsPuts, StepsTurn, StepsHunt, StepsFree, after_register, after_finish, after_take, after_steal, after_pop, after_pick}
use Rattle.mely_worker.specs.Worker.{WorkerState}
use Rattle.mely_tally.proofs.AlongLemmas.{cancel_behind}
use Rattle.mely_tally.specs.Account.{HandlerRun, IsRunOf, count_put, count_puts, count_run, count_due, count_left, puts_left, sum_along}

either_way : (own : Bool) (n : ℕ) → (if own then n else n) ≡ n
either_way true n = refl
either_way false n = refl

module _ {A R S P F : Type 0} (x : AccessWords A S P F) (y : AppWords R P S F) (app : R) (a b : A) (w : WorkerState S P) (step : Made) (v : WorkerState S P) where
  -- ---- the run of a line, if it is one

  abbrev runs_turn : (turn : TurnState S P) (left : List (Event × Option P)) → StepsTurn x y app a w step b v turn left → List (HandlerRun S P)
  runs_turn turn [] line = []
  runs_turn turn (event ∷ rest) line = record { colour = turn.colour; state = turn.state; event = event.0; load = event.1; becomes = line.state; puts = line.puts } ∷ []

  abbrev runs_puts : (turn : TurnState S P) (puts : List (Colour × Event × Option P)) → StepsPuts x y app a w step b v turn puts → List (HandlerRun S P)
  runs_puts turn [] line = runs_turn turn turn.events line
  runs_puts turn (put ∷ rest) line = []

  abbrev runs_turning : (turn : TurnState S P) (hand : Delivery) (puts : List (Colour × Event × Option P)) → StepsTurning x y app a w step b v turn hand puts → List (HandlerRun S P)
  runs_turning turn (PushMark core mark) puts line = []
  runs_turning turn (Report core colour started worth) puts line = []
  runs_turning turn Nothing puts line = runs_puts turn puts line

  abbrev runs_from : (phase : Phase S P) → StepsFrom x y app a w step b v phase → List (HandlerRun S P)
  runs_from (Turning turn hand puts) line = runs_turning turn hand puts line
  runs_from (Pushing core mark) line = []
  runs_from (Popped mark) line = []
  runs_from (Picked mark victim) line = []
  runs_from (Landing mark) line = []
  runs_from (Free place) line = []

  -- the run of the handler that the step made, if it made one
  abbrev pub runs_of : Steps x y app a w step b v → List (HandlerRun S P)
  runs_of line = runs_from w.phase line

  -- ---- what is registered

  module _ (c : Colour) (number : Event → ℕ) (registered : A → ℕ) where
    -- a registration is counted where it is made, and no other call counts
    pub record CountsRegistrations : Type 0 where
      pub registers : (d : Colour) (event : Event) (load : Option P) (reply : Registered) → x.registers a d event load (Ok reply) b → registered b ≡ registered a + count_put c number (d, event, load)
      pub refuses : (d : Colour) (event : Event) (load : Option P) (back : Unregistered P) → x.registers a d event load (Err back) b → registered b ≡ registered a
      pub takes : (d : Colour) (answer : Result (TurnState S P) NoTake) → x.takes a d answer b → registered b ≡ registered a
      pub finishes : (turn : TurnState S P) (answer : After) → x.finishes a turn answer b → registered b ≡ registered a
      pub steals : (d : Colour) (answer : Result Stolen NoSteal) → x.steals a d answer b → registered b ≡ registered a
      pub pushes : (core : ℕ) (mark : Mark) (answer : Result (Unit {0}) There) → x.pushes a core mark answer b → registered b ≡ registered a
      pub pops : (answer : Option Mark) → x.pops a answer b → registered b ≡ registered a
      pub retells : (core : ℕ) (d : Colour) (started worth : ℕ) (found : Bool) → x.retells a core d started worth found b → registered b ≡ registered a
      pub picks : (core : ℕ) (answer : Option Mark) → x.picks a core answer b → registered b ≡ registered a

    module _ (counts : CountsRegistrations) where
      abbrev put_by : HandlerRun S P → ℕ
      put_by run = count_puts c number run.puts

      -- what is left then, by what the worker is then
      due_is : (u : WorkerState S P) (n : ℕ) → v ≡ u → count_due c number u ≡ n → count_due c number v ≡ n
      due_is u n is due = ap (λ z. count_due c number z) is ∙ due

      take_due : (mark : Mark) (answer : Result (TurnState S P) NoTake) → count_due c number (after_take w mark answer) ≡ count_puts c number w.lost
      take_due mark (Ok turn) = omega arith
      take_due mark (Err no_take.Memory) = omega arith
      take_due mark (Err (no_take.Elsewhere owner)) = omega arith
      take_due mark (Err (no_take.Busy core)) = omega arith
      take_due mark (Err (no_take.Empty registered)) = omega arith

      steal_due : (mark : Mark) (victim : ℕ) (answer : Result Stolen NoSteal) → count_due c number (after_steal w mark victim answer) ≡ count_puts c number w.lost
      steal_due mark victim (Ok stolen) = omega arith
      steal_due mark victim (Err no_steal.Memory) = omega arith
      steal_due mark victim (Err (no_steal.Pinned colour)) = omega arith
      steal_due mark victim (Err no_steal.Own) = omega arith
      steal_due mark victim (Err (no_steal.Busy core)) = omega arith
      steal_due mark victim (Err (no_steal.Empty registered)) = omega arith
      steal_due mark victim (Err (no_steal.Cheap worth)) = omega arith

      finish_due : (d : Colour) (answer : After) → count_due c number (after_finish w d answer) ≡ count_puts c number w.lost
      finish_due d (More started worth) = omega arith
      finish_due d Idle = omega arith

      pop_due : (answer : Option Mark) → count_due c number (after_pop w answer) ≡ count_puts c number w.lost
      pop_due None = omega arith
      pop_due (Some mark) = omega arith

      pick_due : (place victim : ℕ) (answer : Option Mark) → count_due c number (after_pick w place victim answer) ≡ count_puts c number w.lost
      pick_due place victim None = omega arith
      pick_due place victim (Some mark) = omega arith

      -- where nothing is put or registered
      still : (n : ℕ) → registered b ≡ registered a → count_due c number v ≡ n → registered b + count_due c number v ≡ registered a + n + 0
      still n same due = omega (arith, same, due)

      register_put : (turn : TurnState S P) (rest : List (Colour × Event × Option P)) (put : Colour × Event × Option P) (answer : Result Registered (Unregistered P)) → x.registers a put.0 put.1 put.2 answer b → v ≡ after_register w turn rest put answer
          → registered b + count_due c number v ≡ registered a + (count_puts c number (put ∷ rest) + count_puts c number w.lost) + 0
      register_put turn rest put (Ok reply) called is =
          let more = counts.registers put.0 put.1 put.2 reply called in
          let due = ap (λ z. count_due c number z) is in
          let all = sum_by-cons (count_put c number) put rest in
          omega (arith, more, due, all)
      register_put turn rest put (Err back) called is =
          let same = counts.refuses put.0 put.1 put.2 back called in
          let due = ap (λ z. count_due c number z) is in
          let all = sum_by-cons (count_put c number) put rest in
          let lost = sum_by_push (count_put c number) w.lost put in
          omega (arith, same, due, all, lost)

      put_turn : (turn : TurnState S P) (left : List (Event × Option P)) (line : StepsTurn x y app a w step b v turn left) → registered b + count_due c number v ≡ registered a + (0 + count_puts c number w.lost) + sum_by put_by (runs_turn turn left line)
      put_turn turn [] line = still _ (counts.finishes turn line.answer line.called) (due_is _ _ line.becomes (finish_due turn.colour line.answer) ∙ omega arith)
      put_turn turn (event ∷ rest) line =
          let same : registered b ≡ registered a = ap registered line.untouched in
          let due = ap (λ z. count_due c number z) line.becomes in
          omega (arith, same, due)

      put_puts : (turn : TurnState S P) (puts : List (Colour × Event × Option P)) (line : StepsPuts x y app a w step b v turn puts) → registered b + count_due c number v ≡ registered a + (count_puts c number puts + count_puts c number w.lost) + sum_by put_by (runs_puts turn puts line)
      put_puts turn [] line = put_turn turn turn.events line
      put_puts turn (put ∷ rest) line = register_put turn rest put line.answer line.called line.becomes

      put_turning : (turn : TurnState S P) (hand : Delivery) (puts : List (Colour × Event × Option P)) (line : StepsTurning x y app a w step b v turn hand puts) → registered b + count_due c number v ≡ registered a + (count_puts c number puts + count_puts c number w.lost) + sum_by put_by (runs_turning turn hand puts line)
      put_turning turn (PushMark core mark) puts line = still _ (counts.pushes core mark line.answer line.called) (due_is _ _ line.becomes refl)
      put_turning turn (Report core colour started worth) puts line = still _ (counts.retells core colour started worth line.answer line.called) (due_is _ _ line.becomes refl)
      put_turning turn Nothing puts line = put_puts turn puts line

      put_hunt : (place : ℕ) (victim : Option ℕ) → StepsHunt x y app a w step b v place victim → registered b + count_due c number v ≡ registered a + (0 + count_puts c number w.lost) + 0
      put_hunt place (Some victim) line = still _ (counts.picks victim line.answer line.called) (due_is _ _ line.becomes (pick_due place victim line.answer) ∙ omega arith)
      put_hunt place None line = absurd line

      put_free : (halted : Bool) (place : ℕ) → puts_left w.phase ≡ [] → StepsFree x y app a w step b v halted place → registered b + count_due c number v ≡ registered a + (0 + count_puts c number w.lost) + 0
      put_free true place none line = still _ (ap registered line.0) (due_is w _ line.1 (ap (λ l. count_puts c number l + count_puts c number w.lost) none))
      put_free false zero none line = still _ (counts.pops line.answer line.called) (due_is _ _ line.becomes (pop_due line.answer) ∙ omega arith)
      put_free false (suc n) none line = put_hunt (suc n) (slice_get w.victims n) line

      put_from : (phase : Phase S P) → w.phase ≡ phase → (line : StepsFrom x y app a w step b v phase) → registered b + count_due c number v ≡ registered a + (count_puts c number (puts_left phase) + count_puts c number w.lost) + sum_by put_by (runs_from phase line)
      put_from (Turning turn hand puts) at line = put_turning turn hand puts line
      put_from (Pushing core mark) at line = still _ (counts.pushes core mark line.answer line.called) (due_is _ _ line.becomes (omega arith))
      put_from (Popped mark) at line = still _ (counts.takes mark.colour line.answer line.called) (due_is _ _ line.becomes (take_due mark line.answer) ∙ omega arith)
      put_from (Picked mark victim) at line = still _ (counts.steals mark.colour line.answer line.called) (due_is _ _ line.becomes (steal_due mark victim line.answer) ∙ omega arith)
      put_from (Landing mark) at line = still _ (counts.pushes w.core mark line.answer line.called) (due_is _ _ line.becomes (omega arith))
      put_from (Free place) at line = put_free w.halted place (ap puts_left at) line

      -- what the step's handler put, and what was left before, is registered or left
      pub puts_step : (line : Steps x y app a w step b v) → registered b + count_due c number v ≡ registered a + count_due c number w + sum_by (λ run. count_puts c number run.puts) (runs_of line)
      puts_step line = put_from w.phase refl line

  -- ---- what was run

  module _ (t : TrailWords S F) (c : Colour) (number : List Event → Event → ℕ) (taken : A → ℕ) where
    -- a turn's events are counted where it is taken, and no other call counts
    pub record CountsTakes : Type 0 where
      pub takes : (mark : Mark) (turn : TurnState S P) → x.takes a mark.colour (Ok turn) b → v ≡ after_take w mark (Ok turn) → taken b ≡ taken a + count_left t c number (Turning turn Nothing [])
      pub untaken : (d : Colour) (why : NoTake) → x.takes a d (Err why) b → taken b ≡ taken a
      pub registers : (d : Colour) (event : Event) (load : Option P) (answer : Result Registered (Unregistered P)) → x.registers a d event load answer b → taken b ≡ taken a
      pub finishes : (turn : TurnState S P) (answer : After) → x.finishes a turn answer b → taken b ≡ taken a
      pub steals : (d : Colour) (answer : Result Stolen NoSteal) → x.steals a d answer b → taken b ≡ taken a
      pub pushes : (core : ℕ) (mark : Mark) (answer : Result (Unit {0}) There) → x.pushes a core mark answer b → taken b ≡ taken a
      pub pops : (answer : Option Mark) → x.pops a answer b → taken b ≡ taken a
      pub retells : (core : ℕ) (d : Colour) (started worth : ℕ) (found : Bool) → x.retells a core d started worth found b → taken b ≡ taken a
      pub picks : (core : ℕ) (answer : Option Mark) → x.picks a core answer b → taken b ≡ taken a

    -- the event of a run joined the trail
    abbrev pub TrailGrows : TurnState S P → S → Event → Type 0
    TrailGrows turn state event = t.trail_of state ≡ t.trail_of turn.state ++ event ∷ []

    module _ (counts : CountsTakes) where
      abbrev ran_by : HandlerRun S P → ℕ
      ran_by run = count_run t c number run

      -- what is left then, by what the worker is then
      left_is : (u : WorkerState S P) (n : ℕ) → v ≡ u → count_left t c number u.phase ≡ n → count_left t c number v.phase ≡ n
      left_is u n is left = ap (λ z. count_left t c number z.phase) is ∙ left

      untaken_left : (mark : Mark) (why : NoTake) → count_left t c number (after_take w mark (Err why)).phase ≡ 0
      untaken_left mark no_take.Memory = refl
      untaken_left mark (no_take.Elsewhere owner) = refl
      untaken_left mark (no_take.Busy core) = refl
      untaken_left mark (no_take.Empty registered) = refl

      steal_left : (mark : Mark) (victim : ℕ) (answer : Result Stolen NoSteal) → count_left t c number (after_steal w mark victim answer).phase ≡ 0
      steal_left mark victim (Ok stolen) = refl
      steal_left mark victim (Err no_steal.Memory) = refl
      steal_left mark victim (Err (no_steal.Pinned colour)) = refl
      steal_left mark victim (Err no_steal.Own) = refl
      steal_left mark victim (Err (no_steal.Busy core)) = refl
      steal_left mark victim (Err (no_steal.Empty registered)) = refl
      steal_left mark victim (Err (no_steal.Cheap worth)) = refl

      finish_left : (d : Colour) (answer : After) → count_left t c number (after_finish w d answer).phase ≡ 0
      finish_left d (More started worth) = refl
      finish_left d Idle = refl

      pop_left : (answer : Option Mark) → count_left t c number (after_pop w answer).phase ≡ 0
      pop_left None = refl
      pop_left (Some mark) = refl

      pick_left : (place victim : ℕ) (answer : Option Mark) → count_left t c number (after_pick w place victim answer).phase ≡ 0
      pick_left place victim None = refl
      pick_left place victim (Some mark) = refl

      -- where nothing is taken or run
      at_rest : (n : ℕ) → taken b ≡ taken a → count_left t c number v.phase ≡ n → 0 + count_left t c number v.phase + taken a ≡ n + taken b
      at_rest n same left = omega (arith, same, left)

      -- the events that are left of a turn
      abbrev left_of : TurnState S P → List (Event × Option P) → ℕ
      left_of turn left = if turn.colour.0 == c.0 then sum_along number (t.trail_of turn.state) (events_of left) else 0

      ran_one : (turn : TurnState S P) (event : Event × Option P) (rest : List (Event × Option P)) (state : S) → TrailGrows turn state event.0 → (own : Bool)
          → (if own then number (t.trail_of turn.state) event.0 else 0) + (if own then sum_along number (t.trail_of state) (events_of rest) else 0) ≡ (if own then sum_along number (t.trail_of turn.state) (events_of (event ∷ rest)) else 0)
      ran_one turn event rest state grows true = let same = ap (λ l. sum_along number l (events_of rest)) grows in omega (arith, same)
      ran_one turn event rest state grows false = omega arith

      ran_turn : (turn : TurnState S P) (left : List (Event × Option P)) (line : StepsTurn x y app a w step b v turn left) → AllByRecursion (λ run. t.trail_of run.becomes ≡ t.trail_of run.state ++ run.event ∷ []) (runs_turn turn left line)
          → sum_by ran_by (runs_turn turn left line) + count_left t c number v.phase + taken a ≡ left_of turn left + taken b
      ran_turn turn [] line grow =
          let same = counts.finishes turn line.answer line.called in
          let left = left_is _ _ line.becomes (finish_left turn.colour line.answer) in
          let none = either_way (turn.colour.0 == c.0) 0 in
          omega (arith, same, left, none)
      ran_turn turn (event ∷ rest) line grow =
          let same : taken b ≡ taken a = ap taken line.untouched in
          let left = ap (λ z. count_left t c number z.phase) line.becomes in
          let one = ran_one turn event rest line.state grow.0 (turn.colour.0 == c.0) in
          omega (arith, same, left, one)

      ran_puts : (turn : TurnState S P) (puts : List (Colour × Event × Option P)) (line : StepsPuts x y app a w step b v turn puts) → AllByRecursion (λ run. t.trail_of run.becomes ≡ t.trail_of run.state ++ run.event ∷ []) (runs_puts turn puts line)
          → sum_by ran_by (runs_puts turn puts line) + count_left t c number v.phase + taken a ≡ left_of turn turn.events + taken b
      ran_puts turn [] line grow = ran_turn turn turn.events line grow
      ran_puts turn (put ∷ rest) line grow = register_left line.answer line.called line.becomes where
        register_left : (answer : Result Registered (Unregistered P)) → x.registers a put.0 put.1 put.2 answer b → v ≡ after_register w turn rest put answer → 0 + count_left t c number v.phase + taken a ≡ left_of turn turn.events + taken b
        register_left (Ok reply) called is = at_rest _ (counts.registers put.0 put.1 put.2 (Ok reply) called) (left_is _ _ is refl)
        register_left (Err back) called is = at_rest _ (counts.registers put.0 put.1 put.2 (Err back) called) (left_is _ _ is refl)

      ran_turning : (turn : TurnState S P) (hand : Delivery) (puts : List (Colour × Event × Option P)) (line : StepsTurning x y app a w step b v turn hand puts) → AllByRecursion (λ run. t.trail_of run.becomes ≡ t.trail_of run.state ++ run.event ∷ []) (runs_turning turn hand puts line)
          → sum_by ran_by (runs_turning turn hand puts line) + count_left t c number v.phase + taken a ≡ left_of turn turn.events + taken b
      ran_turning turn (PushMark core mark) puts line grow = at_rest _ (counts.pushes core mark line.answer line.called) (left_is _ _ line.becomes refl)
      ran_turning turn (Report core colour started worth) puts line grow = at_rest _ (counts.retells core colour started worth line.answer line.called) (left_is _ _ line.becomes refl)
      ran_turning turn Nothing puts line grow = ran_puts turn puts line grow

      ran_hunt : (place : ℕ) (victim : Option ℕ) → StepsHunt x y app a w step b v place victim → 0 + count_left t c number v.phase + taken a ≡ 0 + taken b
      ran_hunt place (Some victim) line = at_rest _ (counts.picks victim line.answer line.called) (left_is _ _ line.becomes (pick_left place victim line.answer))
      ran_hunt place None line = absurd line

      ran_free : (halted : Bool) (place : ℕ) → count_left t c number w.phase ≡ 0 → StepsFree x y app a w step b v halted place → 0 + count_left t c number v.phase + taken a ≡ 0 + taken b
      ran_free true place none line = at_rest _ (ap taken line.0) (left_is w _ line.1 none)
      ran_free false zero none line = at_rest _ (counts.pops line.answer line.called) (left_is _ _ line.becomes (pop_left line.answer))
      ran_free false (suc n) none line = ran_hunt (suc n) (slice_get w.victims n) line

      take_left : (mark : Mark) (answer : Result (TurnState S P) NoTake) → x.takes a mark.colour answer b → v ≡ after_take w mark answer → 0 + count_left t c number v.phase + taken a ≡ 0 + taken b
      take_left mark (Ok turn) called is =
          let more = counts.takes mark turn called is in
          let left = left_is (after_take w mark (Ok turn)) (count_left t c number (Turning turn Nothing [])) is refl in
          omega (arith, more, left)
      take_left mark (Err why) called is = at_rest 0 (counts.untaken mark.colour why called) (left_is _ _ is (untaken_left mark why))

      ran_from : (phase : Phase S P) → w.phase ≡ phase → (line : StepsFrom x y app a w step b v phase) → AllByRecursion (λ run. t.trail_of run.becomes ≡ t.trail_of run.state ++ run.event ∷ []) (runs_from phase line)
          → sum_by ran_by (runs_from phase line) + count_left t c number v.phase + taken a ≡ count_left t c number phase + taken b
      ran_from (Turning turn hand puts) at line grow = ran_turning turn hand puts line grow
      ran_from (Pushing core mark) at line grow = at_rest _ (counts.pushes core mark line.answer line.called) (left_is _ _ line.becomes refl)
      ran_from (Popped mark) at line grow = take_left mark line.answer line.called line.becomes
      ran_from (Picked mark victim) at line grow = at_rest _ (counts.steals mark.colour line.answer line.called) (left_is _ _ line.becomes (steal_left mark victim line.answer))
      ran_from (Landing mark) at line grow = at_rest _ (counts.pushes w.core mark line.answer line.called) (left_is _ _ line.becomes refl)
      ran_from (Free place) at line grow = ran_free w.halted place (ap (count_left t c number) at) line

      -- what was left of a turn, and what was taken since, was run or is left
      pub ran_step : (line : Steps x y app a w step b v) → AllByRecursion (λ run. t.trail_of run.becomes ≡ t.trail_of run.state ++ run.event ∷ []) (runs_of line)
          → sum_by (count_run t c number) (runs_of line) + count_left t c number v.phase + taken a ≡ count_left t c number w.phase + taken b
      ran_step line grow = ran_from w.phase refl line grow

  -- ---- the run is one by the app, on a state of its colour

  module _ (t : TrailWords S F) (fits : F → Colour → Event → Option P → Type 0)
      (owed_once : (c : Colour) (core count : ℕ) (trail other : List Event) → x.owes a c core count trail → x.owes a c core count other → trail ≡ other)
      (may : MayStepAt t fits x a w) (may_then : MayStepAt t fits x b v) where
    -- the run is by the app, and its event joined the trail
    abbrev pub RunsWell : HandlerRun S P → Type 0
    RunsWell run = IsRunOf t fits y app (x.setup_of a) (x.frame_of a) run × (t.trail_of run.becomes ≡ t.trail_of run.state ++ run.event ∷ [])

    abbrev PhaseMay : A → Phase S P → Type 0
    PhaseMay at phase = PhaseMayStep t fits (x.setup_of at) (x.core_of at) (x.frame_of at) (x.owes at) phase

    well_turn : (turn : TurnState S P) (hand : Delivery) (left : List (Event × Option P)) → turn.events ≡ left → PhaseMay a (Turning turn hand []) → (line : StepsTurn x y app a w step b v turn left) → AllByRecursion RunsWell (runs_turn turn left line)
    well_turn turn hand [] is phase line = tt
    well_turn turn hand (event ∷ rest) is phase line =
        let spent = phase.of_turn in
        let then_turn : TurnState S P = record turn { state = line.state; events = rest } in
        let then_b : PhaseMay b (Turning then_turn Nothing line.puts) = subst (λ (z : WorkerState S P). PhaseMay b z.phase) line.becomes may_then.phase in
        let then_a : PhaseMay a (Turning then_turn Nothing line.puts) = subst (λ (z : A). PhaseMay z (Turning then_turn Nothing line.puts)) line.untouched then_b in
        let before : x.owes a turn.colour turn.core turn.count (t.trail_of turn.state ++ event.0 ∷ events_of rest) = subst (λ l. x.owes a turn.colour turn.core turn.count (t.trail_of turn.state ++ events_of l)) is spent.owed in
        let same : t.trail_of line.state ++ events_of rest ≡ t.trail_of turn.state ++ event.0 ∷ events_of rest = owed_once turn.colour turn.core turn.count _ _ then_a.of_turn.owed before in
        let fit : EachFits (fits (x.frame_of a) turn.colour) (event ∷ rest) = subst (λ l. EachFits (fits (x.frame_of a) turn.colour) l) is spent.events_fit in (
          (
            record { ran = line.ran; there = spent.of_setup; coloured = spent.of_colour; framed = spent.of_frame; fit = fit.0 },
            cancel_behind (t.trail_of line.state) (t.trail_of turn.state ++ event.0 ∷ []) (events_of rest) (same ∙ sym (append_assoc (t.trail_of turn.state) (event.0 ∷ []) (events_of rest))),
          ),
          tt,
        )

    well_puts : (turn : TurnState S P) (hand : Delivery) (puts : List (Colour × Event × Option P)) → PhaseMay a (Turning turn hand puts) → (line : StepsPuts x y app a w step b v turn puts) → AllByRecursion RunsWell (runs_puts turn puts line)
    well_puts turn hand [] phase line = well_turn turn hand turn.events refl phase line
    well_puts turn hand (put ∷ rest) phase line = tt

    well_turning : (turn : TurnState S P) (hand : Delivery) (puts : List (Colour × Event × Option P)) → PhaseMay a (Turning turn hand puts) → (line : StepsTurning x y app a w step b v turn hand puts) → AllByRecursion RunsWell (runs_turning turn hand puts line)
    well_turning turn (PushMark core mark) puts phase line = tt
    well_turning turn (Report core colour started worth) puts phase line = tt
    well_turning turn Nothing puts phase line = well_puts turn Nothing puts phase line

    well_from : (phase : Phase S P) → PhaseMay a phase → (line : StepsFrom x y app a w step b v phase) → AllByRecursion RunsWell (runs_from phase line)
    well_from (Turning turn hand puts) phase line = well_turning turn hand puts phase line
    well_from (Pushing core mark) phase line = tt
    well_from (Popped mark) phase line = tt
    well_from (Picked mark victim) phase line = tt
    well_from (Landing mark) phase line = tt
    well_from (Free place) phase line = tt

    pub well_step : (line : Steps x y app a w step b v) → AllByRecursion RunsWell (runs_of line)
    well_step line = well_from w.phase may.phase line
