-- Where the pieces of an app go in each line of the worker's rule.
use Rattle.std.proofs.Common.{◌≡◌, ◌<◌, ℕ, List, [], ◌∷◌, ◌++◌, Option, None, Some, Ok, map, take, drop, append_assoc, arith, refl, sym, ap, subst, ◌∙◌}
use Rattle.std.specs.Prelude.{slice_get, IsPermutation}
use Rattle.std.proofs.lemmas.List.{append-nil, map-append, take-append-drop}
use Rattle.std.proofs.lemmas.List.Sorted.{IsPermutation-cons, IsPermutation-append_right, IsPermutation-middle}
use Rattle.mely_event.specs.declared.colour.Colour.{Colour}
use Rattle.mely_event.specs.declared.event.Event.{Event}
use Rattle.mely_event.specs.declared.mark.Mark.{Mark}
use Rattle.mely_event.specs.declared.trail.Trail.{Ghosts as TrailWords}
use Rattle.mely_history.specs.declared.registered.Registered.{Registered}
use Rattle.mely_history.specs.declared.after.After.{After}
use Rattle.mely_history.specs.declared.after.After.TheVariants.{More, Idle}
use Rattle.mely_history.specs.Setup.{shape_of}
use Rattle.mely_history.specs.Legal.{IsRunningOn}
use Rattle.mely_queue.specs.Turn.{TurnState, EachFits}
use Rattle.mely_shard.specs.Shard.{HomeStands}
use Rattle.mely_core.specs.CoreQueue.{CoreQueueState}
use Rattle.mely_worker.specs.declared.phase.Phase.{Phase}
use Rattle.mely_worker.specs.declared.phase.Phase.TheVariants as at
use Rattle.mely_worker.specs.declared.delivery.Delivery.TheVariants.{Nothing}
use Rattle.mely_worker.specs.declared.app.App.{Ghosts as AppWords}
use Rattle.mely_worker.specs.Access.{IsColour}
use Rattle.mely_worker.specs.Conditions.{PhaseMayStep}
use Rattle.mely_worker.specs.Worker.{WorkerState}
use Rattle.mely_worker.specs.Step.{in_phase, after_register, after_finish, after_take}
use Rattle.mely_weave.specs.Side.{SideState, shard_of}
use Rattle.mely_weave.specs.Calls.{AtShard, AtChain, RegisterAs, TakeAs, FinishAs, IsOut}
use Rattle.mely_weave.specs.StandsWell.{side_of, StandsWell}
use Rattle.mely_weave.specs.Weave.{WeaveState}
use Rattle.mely_weave.proofs.Entries.SideLemmas.{shard_owns}
use Rattle.mely_weave.proofs.Lines.LineLemmas.{stands}
use Rattle.mely_run.specs.Pieces.{Piece, state_piece, event_piece, of_state, of_lane, of_put, of_phase, of_worker, pieces}
use Rattle.mely_run.proofs.Pieces.ChangesLemmas.{Ran}
use Rattle.mely_run.proofs.Pieces.PermutingLemmas.{same_order, onward, back, past}
use Rattle.mely_run.proofs.Pieces.MovesLemmas.{next, worker_front, none_moves, lane_front}

-- one piece goes from the worker to the lane
given_over : {A : Type 0} (lane held_before : List A) (p : A) (held_behind rest : List A) → IsPermutation (lane ++ ((held_before ++ p ∷ held_behind) ++ rest)) ((lane ++ p ∷ []) ++ ((held_before ++ held_behind) ++ rest))
given_over lane held_before p held_behind rest =
    onward (IsPermutation-append_right lane ((held_before ++ p ∷ held_behind) ++ rest) (p ∷ ((held_before ++ held_behind) ++ rest))
    (onward (same_order ((held_before ++ p ∷ held_behind) ++ rest) (held_before ++ p ∷ (held_behind ++ rest)) (append_assoc held_before (p ∷ held_behind) rest))
    (onward (IsPermutation-middle held_before p (held_behind ++ rest)) (same_order (p ∷ (held_before ++ (held_behind ++ rest))) (p ∷ ((held_before ++ held_behind) ++ rest)) (ap (λ l. p ∷ l) (sym (append_assoc held_before held_behind rest)))))))
    (same_order (lane ++ p ∷ ((held_before ++ held_behind) ++ rest)) ((lane ++ p ∷ []) ++ ((held_before ++ held_behind) ++ rest)) (sym (append_assoc lane (p ∷ []) ((held_before ++ held_behind) ++ rest))))

-- a state and the first events go from the lane to the worker
taken_over : {A : Type 0} (p : A) (taken left rest : List A) → IsPermutation (p ∷ ((taken ++ left) ++ rest)) (left ++ ((p ∷ (taken ++ [])) ++ rest))
taken_over p taken left rest =
    onward (same_order (p ∷ ((taken ++ left) ++ rest)) (p ∷ (taken ++ (left ++ rest))) (ap (λ l. p ∷ l) (append_assoc taken left rest)))
    (onward (IsPermutation-cons p (taken ++ (left ++ rest)) (left ++ (taken ++ rest)) (past taken left rest))
    (onward (back (IsPermutation-middle left p (taken ++ rest)))
    (same_order (left ++ p ∷ (taken ++ rest)) (left ++ ((p ∷ (taken ++ [])) ++ rest)) (ap (λ l. left ++ p ∷ (l ++ rest)) (sym (append-nil taken))))))

module _ {S P F : Type 0} (t : TrailWords S F) (fits : F → Colour → Event → Option P → Type 0) (weave : WeaveState S P) (well : StandsWell t fits weave) (k : ℕ) (w : WorkerState S P) (here : slice_get weave.workers k ≡ Some w) (low : k < (shape_of weave.setup).cores)
    (b : SideState S P) where
  abbrev from : SideState S P
  from = side_of weave k

  abbrev after : WorkerState S P → WeaveState S P
  after u = next t fits weave well k w here low b u

  -- no piece moves
  still : (u : WorkerState S P) → b.shards ≡ weave.shards → of_worker u ≡ of_worker w → IsPermutation (pieces weave) (pieces (after u))
  still u same held = none_moves t fits weave well k w here low b u same held

  pub chain_still : (u : WorkerState S P) (core : ℕ) (Does : CoreQueueState → CoreQueueState → Type 0) → AtChain from b core Does → of_worker u ≡ of_worker w → IsPermutation (pieces weave) (pieces (after u))
  chain_still u core Does called held = still u (ap (λ (s : SideState S P). s.shards) called.becomes) held

  pub held_in : (phase : Phase S P) → w.phase ≡ phase → of_worker w ≡ of_phase phase
  held_in phase is = ap of_phase is

  pub may : (phase : Phase S P) → w.phase ≡ phase → PhaseMayStep t fits weave.setup k (t.frame_of weave.given) (IsOut from) phase
  may phase is = subst (PhaseMayStep t fits weave.setup k (t.frame_of weave.given) (IsOut from)) is (well.worker k w here).may.phase

  -- an event is registered
  pub register_moves : (turn : TurnState S P) (rest : List (Colour × Event × Option P)) (put : Colour × Event × Option P) (reply : Registered) → w.phase ≡ at.Turning turn Nothing (put ∷ rest) → AtShard from b put.0 (RegisterAs put.0 put.1 put.2 k (Ok reply))
      → IsPermutation (pieces weave) (pieces (after (after_register w turn rest put (Ok reply))))
  register_moves turn rest put reply phase called =
      let c : Colour = put.0 in
      let does = called.does.0 in
      let in_setup : IsColour weave.setup c = (may (at.Turning turn Nothing (put ∷ rest)) phase).of_puts.0.colour in
      let front = lane_front t fits weave well k w here low c in_setup called.old called.was does.before does.was in
      let v' : WorkerState S P = after_register w turn rest put (Ok reply) in
      let left : List (Piece S P) = map (λ (e : Event × Option P). event_piece turn.colour e.0 e.1) turn.events in
      let lane_now : of_lane c (record does.before { events = does.before.events ++ (put.1, put.2) ∷ [] }) ≡ of_lane c does.before ++ of_put put ∷ [] =
      ap (λ (ps : List (Piece S P)). of_state c does.before.state ++ ps) (map-append (λ (e : Event × Option P). event_piece c e.0 e.1) does.before.events ((put.1, put.2) ∷ []))
      ∙ sym (append_assoc (of_state c does.before.state) (map (λ (e : Event × Option P). event_piece c e.0 e.1) does.before.events) (of_put put ∷ [])) in
      onward (subst (λ (ps : List (Piece S P)). IsPermutation (pieces weave) (of_lane c does.before ++ (ps ++ front.rest))) (held_in (at.Turning turn Nothing (put ∷ rest)) phase) front.was)
      (onward (given_over (of_lane c does.before) (state_piece turn.colour turn.state ∷ left) (of_put put) (map of_put rest) front.rest)
      (subst (λ (ps : List (Piece S P)). IsPermutation (ps ++ (((state_piece turn.colour turn.state ∷ left) ++ map of_put rest) ++ front.rest)) (pieces (after v'))) lane_now
      (front.becomes b v' called.new _ (record does.before { events = does.before.events ++ (put.1, put.2) ∷ [] }) does.after (ap (λ (s : SideState S P). s.shards) called.becomes))))

  -- a turn ends
  pub finish_moves : (turn : TurnState S P) (answer : After) → w.phase ≡ at.Turning turn Nothing [] → turn.events ≡ [] → AtShard from b turn.colour (FinishAs turn answer) → IsPermutation (pieces weave) (pieces (after (after_finish w turn.colour answer)))
  finish_moves turn answer phase none called =
      let c : Colour = turn.colour in
      let does = called.does.0 in
      let in_setup : IsColour weave.setup c = (may (at.Turning turn Nothing []) phase).of_turn.of_setup in
      let front = lane_front t fits weave well k w here low c in_setup called.old called.was does.before does.was in
      let lane_is = (well.shard (shard_of weave.setup c) called.old called.was).kept.each c does.before (shard_owns t fits from (stands t fits weave well k w here low) c called.old in_setup called.was) does.was in
      let waiting : List (Piece S P) = map (λ (e : Event × Option P). event_piece c e.0 e.1) does.before.events in
      let was_away : does.before.state ≡ None = away does.before.state refl lane_is.state called.does.1 in
      let u : WorkerState S P = after_finish w c answer in
      onward (subst (λ (ps : List (Piece S P)). IsPermutation (pieces weave) (of_lane c does.before ++ (ps ++ front.rest))) (held_in (at.Turning turn Nothing []) phase ∙ ap (λ (es : List (Event × Option P)). state_piece c turn.state ∷ (map (λ (e : Event × Option P). event_piece c e.0 e.1) es ++ [])) none) front.was)
      (onward (same_order (of_lane c does.before ++ ((state_piece c turn.state ∷ []) ++ front.rest)) (waiting ++ state_piece c turn.state ∷ front.rest) (ap (λ (o : Option S). (of_state c o ++ waiting) ++ state_piece c turn.state ∷ front.rest) was_away))
      (onward (IsPermutation-middle waiting (state_piece c turn.state) front.rest)
      (subst (λ (ps : List (Piece S P)). IsPermutation ((state_piece c turn.state ∷ waiting) ++ (ps ++ front.rest)) (pieces (after u))) (nothing answer)
      (front.becomes b u called.new _ (record does.before { state = Some turn.state }) does.after (ap (λ (s : SideState S P). s.shards) called.becomes)))))
    where
      nothing : (answer : After) → of_worker (after_finish w turn.colour answer) ≡ []
      nothing (More started worth) = refl
      nothing Idle = refl

      away : (o : Option S) → called.does.0.before.state ≡ o → HomeStands t called.old.history turn.colour called.does.0.before.given called.does.0.before.state → IsRunningOn called.old.history turn.colour turn.core turn.count
          → called.does.0.before.state ≡ None
      away None e home runs = e
      away (Some s) e home runs =
          let at_home = subst (HomeStands t called.old.history turn.colour called.does.0.before.given) e home in
          let rests = at_home.0 in
          let less = runs.running in
          absurd (omega (arith, rests, less))

  -- a colour is taken
  pub take_moves : (mark : Mark) (turn : TurnState S P) → w.phase ≡ at.Popped mark → AtShard from b mark.colour (TakeAs mark.colour k (Ok turn)) → IsPermutation (pieces weave) (pieces (after (after_take w mark (Ok turn))))
  take_moves mark turn phase called =
      let c : Colour = mark.colour in
      let does = called.does in
      let in_setup : IsColour weave.setup c = may (at.Popped mark) phase in
      let front = lane_front t fits weave well k w here low c in_setup called.old called.was does.before does.was in
      let piece : Event × Option P → Piece S P = λ e. event_piece c e.0 e.1 in
      let u : WorkerState S P = after_take w mark (Ok turn) in
      let in_lane : IsPermutation (pieces weave) (state_piece c does.home ∷ (map piece does.before.events ++ front.rest)) =
      onward (subst (λ (ps : List (Piece S P)). IsPermutation (pieces weave) (of_lane c does.before ++ (ps ++ front.rest))) (held_in (at.Popped mark) phase) front.was)
      (same_order (of_lane c does.before ++ front.rest) (state_piece c does.home ∷ (map piece does.before.events ++ front.rest)) (ap (λ (o : Option S). (of_state c o ++ map piece does.before.events) ++ front.rest) does.at_home)) in
      let split : map piece does.before.events ≡ map piece (take turn.count does.before.events) ++ map piece (drop turn.count does.before.events) =
      ap (map piece) (sym (take-append-drop turn.count does.before.events)) ∙ map-append piece (take turn.count does.before.events) (drop turn.count does.before.events) in
      let held : of_worker u ≡ state_piece c does.home ∷ (map piece (take turn.count does.before.events) ++ []) = ap (λ (r : TurnState S P). of_phase (at.Turning r Nothing [])) does.made in
      let out : IsPermutation (state_piece c does.home ∷ (map piece does.before.events ++ front.rest)) (pieces (after u)) =
      onward (same_order (state_piece c does.home ∷ (map piece does.before.events ++ front.rest)) (state_piece c does.home ∷ ((map piece (take turn.count does.before.events) ++ map piece (drop turn.count does.before.events)) ++ front.rest)) (ap (λ (ps : List (Piece S P)). state_piece c does.home ∷ (ps ++ front.rest)) split))
      (onward (taken_over (state_piece c does.home) (map piece (take turn.count does.before.events)) (map piece (drop turn.count does.before.events)) front.rest)
      (subst (λ (ps : List (Piece S P)). IsPermutation (map piece (drop turn.count does.before.events) ++ (ps ++ front.rest)) (pieces (after u))) held
      (front.becomes b u called.new _ (record does.before { state = None; events = drop turn.count does.before.events }) does.after (ap (λ (s : SideState S P). s.shards) called.becomes)))) in
      onward in_lane out

  -- a handler runs
  unfoldable pub run_moves : {R : Type 0} (y : AppWords R P S F) (app : R) (turn : TurnState S P) (event : Event × Option P) (rest : List (Event × Option P)) (state : S) (puts : List (Colour × Event × Option P)) → w.phase ≡ at.Turning turn Nothing [] → turn.events ≡ event ∷ rest → b ≡ from
      → y.runs app turn.state event.0 event.1 state puts → Ran t fits y app (t.frame_of weave.given) (pieces weave) (pieces (after (in_phase w (at.Turning (record turn { state = state; events = rest }) Nothing puts))))
  run_moves y app turn event rest state puts phase some same runs =
      let c : Colour = turn.colour in
      let piece : Event × Option P → Piece S P = λ e. event_piece c e.0 e.1 in
      let spent = (may (at.Turning turn Nothing []) phase).of_turn in
      let fit : EachFits (fits (t.frame_of weave.given) c) (event ∷ rest) = subst (EachFits (fits (t.frame_of weave.given) c)) some spent.events_fit in
      let front = worker_front t fits weave well k w here low in
      let u : WorkerState S P = in_phase w (at.Turning (record turn { state = state; events = rest }) Nothing puts) in
      let open_up : IsPermutation (pieces weave) (state_piece c turn.state ∷ piece event ∷ (map piece rest ++ front.rest)) =
      onward (subst (λ (ps : List (Piece S P)). IsPermutation (pieces weave) (ps ++ front.rest)) (held_in (at.Turning turn Nothing []) phase ∙ ap (λ (es : List (Event × Option P)). state_piece c turn.state ∷ (map piece es ++ [])) some) front.was)
      (same_order ((state_piece c turn.state ∷ piece event ∷ (map piece rest ++ [])) ++ front.rest) (state_piece c turn.state ∷ piece event ∷ (map piece rest ++ front.rest)) (ap (λ (ps : List (Piece S P)). state_piece c turn.state ∷ piece event ∷ (ps ++ front.rest)) (append-nil (map piece rest)))) in
      record {
        colour = c;
        event = event.0;
        load = event.1;
        state = turn.state;
        left = state;
        puts = puts;
        rest = map piece rest ++ front.rest;
        was = open_up;
        coloured = spent.of_colour;
        framed = spent.of_frame;
        fit = fit.0;
        runs = runs;
        becomes =
            onward (IsPermutation-cons (state_piece c state) (map of_put puts ++ (map piece rest ++ front.rest)) (map piece rest ++ (map of_put puts ++ front.rest)) (past (map of_put puts) (map piece rest) front.rest))
            (onward (same_order (state_piece c state ∷ (map piece rest ++ (map of_put puts ++ front.rest))) ((state_piece c state ∷ (map piece rest ++ map of_put puts)) ++ front.rest) (ap (λ (ps : List (Piece S P)). state_piece c state ∷ ps) (sym (append_assoc (map piece rest) (map of_put puts) front.rest))))
            (front.becomes b u (ap (λ (s : SideState S P). s.shards) same)));
      }
