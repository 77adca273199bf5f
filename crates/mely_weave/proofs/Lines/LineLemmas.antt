-- What each line of the worker's rule keeps.
use Rattle.std.proofs.Common.{◌≡◌, ℕ, ◌≤◌, ◌<◌, List, [], ◌∷◌, Option, Some, Result, Ok, Err, length, refl, sym, ◌∙◌, ap, subst, arith}
use Rattle.std.proofs.lemmas.Option.{none-some, same_Some}
use Rattle.std.specs.Prelude.{slice_get, slice_set}
use Rattle.mely_event.specs.declared.colour.Colour.{Colour}
use Rattle.mely_event.specs.declared.event.Event.{Event}
use Rattle.mely_event.specs.declared.mark.Mark.{Mark}
use Rattle.mely_event.specs.declared.trail.Trail.{Ghosts as TrailWords}
use Rattle.mely_history.specs.declared.setup.Setup.{Setup}
use Rattle.mely_history.specs.declared.entry.Entry.{Entry}
use Rattle.mely_history.specs.declared.entry.Entry.TheVariants.{Take, Fin, Steal}
use Rattle.mely_history.specs.declared.no_take.NoTake.{NoTake}
use Rattle.mely_history.specs.declared.no_take.NoTake.TheVariants as no_take
use Rattle.mely_history.specs.declared.no_steal.NoSteal.{NoSteal}
use Rattle.mely_history.specs.declared.no_steal.NoSteal.TheVariants as no_steal
use Rattle.mely_history.specs.declared.stolen.Stolen.{Stolen}
use Rattle.mely_history.specs.declared.after.After.{After}
use Rattle.mely_history.specs.declared.after.After.TheVariants.{More, Idle}
use Rattle.mely_history.specs.Setup.{shape_of, pinned_of}
use Rattle.mely_history.specs.History.{begun_of, ended_of, queued_of, owner_of, worth_of, IsRunning}
use Rattle.mely_history.specs.Legal.{IsRunningOn, IsLegal}
use Rattle.mely_history.specs.ColourAccount.{ColourAccount, account_of}
use Rattle.mely_queue.specs.Turn.{TurnState}
use Rattle.mely_shard.specs.Shard.{ShardState}
use Rattle.mely_core.specs.CoreQueue.{CoreQueueState}
use Rattle.mely_worker.specs.declared.phase.Phase.TheVariants.{Free, Popped, Picked, Landing, Pushing, Turning}
use Rattle.mely_worker.specs.declared.delivery.Delivery.TheVariants.{Nothing}
use Rattle.mely_worker.specs.declared.made.Made.{Made}
use Rattle.mely_worker.specs.Worker.{WorkerState}
use Rattle.mely_worker.specs.Step.{in_phase, halted_in, after_finish, after_take, after_steal, finish_name, take_name, steal_name}
use Rattle.mely_weave.specs.Side.{SideState, Readiness, shard_of, history_for, readiness_for}
use Rattle.mely_weave.specs.Marks.{Placed, MarksStand, marks_in_system}
use Rattle.mely_weave.specs.Hands.{held_by, held_in, colour_in}
use Rattle.mely_weave.specs.Calls.{AtShard, TakeAs, FinishAs, StealAs}
use Rattle.mely_weave.specs.SideStands.{PartsOf}
use Rattle.mely_weave.specs.StandsWell.{side_of, PhaseIsTold, StandsWell, WasntRefused}
use Rattle.mely_weave.specs.Weave.{WeaveState}
use Rattle.mely_weave.proofs.Marks.MarkLemmas.{stand_alike}
use Rattle.mely_weave.proofs.Entries.EntryLemmas.{Adds, ready_rests, none_waits, account_moves}
use Rattle.mely_weave.proofs.Entries.EffectLemmas.{take_keeps, more_keeps, idle_keeps, steal_keeps}
use Rattle.mely_weave.proofs.Entries.SideLemmas.{history_was, history_becomes, histories_stay}
use Rattle.mely_weave.proofs.Entries.CallLemmas.{take_adds, steal_adds, finish_adds, owner_runs}
use Rattle.mely_weave.proofs.Marks.HandLemmas.{IsSoundMark, hand_sound, hand_same, hand_gains, hand_gives, hand_swaps}
use Rattle.mely_weave.proofs.Lines.StepLemmas.{KeptBy, same_keeps, entry_keeps}

module _ {S P F : Type 0} (t : TrailWords S F) (fits : F → Colour → Event → Option P → Type 0) (weave : WeaveState S P) (well : StandsWell t fits weave) (k : ℕ) (w : WorkerState S P) (here : slice_get weave.workers k ≡ Some w) (low : k < (shape_of weave.setup).cores) where
  abbrev pub a : SideState S P
  a = side_of weave k

  abbrev pub side : List (ShardState S P) → List CoreQueueState → SideState S P
  side shards chains = record { setup = weave.setup; core = k; given = weave.given; shards = shards; chains = chains }

  abbrev pub h : List (ShardState S P) → Colour → List Entry
  h shards = history_for weave.setup shards

  abbrev pub of : List (ShardState S P) → Colour → Readiness
  of shards = readiness_for weave.setup shards

  abbrev pub account : List (ShardState S P) → Colour → ColourAccount
  account shards c = account_of weave.setup (h shards c) c

  abbrev pub Kept : List (ShardState S P) → List CoreQueueState → WorkerState S P → Type 0
  Kept = KeptBy t fits weave well k w here

  pub stands : PartsOf t fits a
  stands = record { shards = well.shards; shard = well.shard; chains = well.chains; chain = well.chain }

  -- the step of the worker leaves this side and this worker, and keeps what stands
  pub record StepKeeps (b : SideState S P) (v : WorkerState S P) (made : Made) : Type 0 where
    pub shards : List (ShardState S P)
    pub chains : List CoreQueueState
    pub becomes : b ≡ side shards chains
    pub kept : Kept shards chains v
    pub never : WasntRefused made

  pub own : w.core ≡ k
  own = sym (well.worker k w here).may.own_core

  pub told : PhaseIsTold weave.setup (of weave.shards) k w.phase
  told = (well.worker k w here).told

  -- the shards after one of them changed
  abbrev with_shard : Colour → ShardState S P → List (ShardState S P)
  with_shard c new = slice_set weave.shards (shard_of weave.setup c) new

  -- a mark in the worker's hand is sound
  in_hand_sound : (m : Placed) → held_by w ≡ m ∷ [] → IsSoundMark (of weave.shards) m
  in_hand_sound m holds = hand_sound held_by (of weave.shards) weave.chains weave.workers well.marks k w m here holds

  -- its colour doesn't run, and something of it waits
  not_running : (m : Placed) (history : List Entry) → held_by w ≡ m ∷ [] → h weave.shards m.1.colour ≡ history → IsRunning history m.1.colour → ⊥
  not_running m history holds was runs =
      let rests = ready_rests weave.setup (account weave.shards m.1.colour) (in_hand_sound m holds).ready in
      let at_rest : begun_of (h weave.shards m.1.colour) m.1.colour ≡ ended_of (h weave.shards m.1.colour) m.1.colour = rests.0 in
      let less : ended_of (h weave.shards m.1.colour) m.1.colour < begun_of (h weave.shards m.1.colour) m.1.colour = subst (λ (l : List Entry). IsRunning l m.1.colour) (sym was) runs in
      omega (arith, at_rest, less)

  not_empty : (m : Placed) (history : List Entry) → held_by w ≡ m ∷ [] → h weave.shards m.1.colour ≡ history → queued_of history m.1.colour ≡ [] → ⊥
  not_empty m history holds was none =
      let c : Colour = m.1.colour in
      let rests = ready_rests weave.setup (account weave.shards c) (in_hand_sound m holds).ready in
      let some = rests.1 in
      let few = none_waits (account weave.shards c) (subst (λ (l : List Entry). queued_of l c ≡ []) (sym was) none) in
      omega (arith, some, few)

  -- a worker that has a mark in hand, and has it still
  pub same_marks : (shards : List (ShardState S P)) (v : WorkerState S P) → held_by v ≡ held_by w → MarksStand (of weave.shards) (marks_in_system held_by weave.chains (slice_set weave.workers k v))
  same_marks shards v same =
      stand_alike (of weave.shards) (marks_in_system held_by weave.chains weave.workers) (marks_in_system held_by weave.chains (slice_set weave.workers k v)) (λ p. sym (hand_same held_by weave.chains weave.workers k w v here same p)) well.marks

  -- a popped mark's colour is taken
  pub take_line : (mark : Mark) → w.phase ≡ Popped mark → (b : SideState S P) (answer : Result (TurnState S P) NoTake) → AtShard a b mark.colour (TakeAs mark.colour k answer) → StepKeeps b (after_take w mark answer) (take_name answer)
  take_line mark phase b (Ok turn) at =
      let c : Colour = mark.colour in
      let shards : List (ShardState S P) = with_shard c at.new in
      let at' : AtShard a (side shards weave.chains) c (TakeAs c k (Ok turn)) = record { old = at.old; new = at.new; was = at.was; does = at.does; becomes = refl } in
      let adds : Adds weave.setup (h weave.shards) (h shards) (Take c k turn.count) = take_adds t fits a (side shards weave.chains) c stands k turn at' in
      let v : WorkerState S P = in_phase w (Turning turn Nothing []) in
      let holds : held_by w ≡ (w.core, mark) ∷ [] = ap (held_in w.core) phase in
      record {
        shards = shards;
        chains = weave.chains;
        becomes = at.becomes;
        kept = entry_keeps t fits weave well k w here shards weave.chains v (Take c k turn.count) adds refl (λ core no. absurd no)
            (λ d is _. absurd (none-some d (sym (ap colour_in phase) ∙ is)))
            (λ core is. (sym is, ap (λ (u : TurnState S P). Some u.colour) at.does.made))
            (ap (λ (u : TurnState S P). u.core) at.does.made, tt)
            (take_keeps weave.setup (h weave.shards) (h shards) c k turn.count adds (marks_in_system held_by weave.chains weave.workers) (marks_in_system held_by weave.chains (slice_set weave.workers k v)) (w.core, mark) refl
            (hand_gives held_by weave.chains weave.workers k w v here (w.core, mark) holds refl) well.marks);
        never = tt;
      }
  take_line mark phase b (Err no_take.Memory) at =
      let c : Colour = mark.colour in
      let shards : List (ShardState S P) = with_shard c at.new in
      let at' : AtShard a (side shards weave.chains) c (TakeAs c k (Err no_take.Memory)) = record { old = at.old; new = at.new; was = at.was; does = at.does; becomes = refl } in
      let v : WorkerState S P = halted_in w (Pushing w.core mark) in
      record {
        shards = shards;
        chains = weave.chains;
        becomes = at.becomes;
        kept = same_keeps t fits weave well k w here shards weave.chains v (histories_stay a (side shards weave.chains) c (TakeAs c k (Err no_take.Memory)) at' at.does.0.history) refl (sym (ap colour_in phase)) tt
            (same_marks shards v (sym (ap (held_in w.core) phase)));
        never = tt;
      }
  take_line mark phase b (Err (no_take.Elsewhere owner)) at =
      let c : Colour = mark.colour in
      let holds : held_by w ≡ (w.core, mark) ∷ [] = ap (held_in w.core) phase in
      let of_setup = (well.shard (shard_of weave.setup c) at.old at.was).of_setup in
      absurd (at.does.1.0 (sym own ∙ (in_hand_sound (w.core, mark) holds).owner ∙ ap (λ (l : List Entry). owner_of weave.setup l c) (history_was a b c (TakeAs c k (Err (no_take.Elsewhere owner))) at) ∙ ap (λ (s : Setup). owner_of s at.old.history c) (sym of_setup)))
  take_line mark phase b (Err (no_take.Busy core)) at =
      absurd (not_running (w.core, mark) at.old.history (ap (held_in w.core) phase) (history_was a b mark.colour (TakeAs mark.colour k (Err (no_take.Busy core))) at) at.does.1.1)
  take_line mark phase b (Err (no_take.Empty registered)) at =
      absurd (not_empty (w.core, mark) at.old.history (ap (held_in w.core) phase) (history_was a b mark.colour (TakeAs mark.colour k (Err (no_take.Empty registered))) at) at.does.1.2)

  -- a picked mark's colour is stolen
  pub steal_line : (mark : Mark) (victim : ℕ) → w.phase ≡ Picked mark victim → (b : SideState S P) (answer : Result Stolen NoSteal) → AtShard a b mark.colour (StealAs mark.colour k answer) → StepKeeps b (after_steal w mark victim answer) (steal_name mark.colour answer)
  steal_line mark victim phase b (Ok stolen) at =
      let c : Colour = mark.colour in
      let shards : List (ShardState S P) = with_shard c at.new in
      let Does : ShardState S P → ShardState S P → Type 0 = StealAs c k (Ok stolen) in
      let at' : AtShard a (side shards weave.chains) c (StealAs c k (Ok stolen)) = record { old = at.old; new = at.new; was = at.was; does = at.does; becomes = refl } in
      let adds : Adds weave.setup (h weave.shards) (h shards) (Steal c stolen.from k) = steal_adds t fits a (side shards weave.chains) c stands k stolen at' in
      let new_mark : Mark = record { colour = c; started = stolen.started; worth = stolen.worth } in
      let v : WorkerState S P = in_phase w (Landing new_mark) in
      let u : WorkerState S P = in_phase w (Free 0) in
      let holds : held_by w ≡ (victim, mark) ∷ [] = ap (held_in w.core) phase in
      let now : held_by v ≡ (k, new_mark) ∷ [] = ap (λ (n : ℕ). let q : Placed = (n, new_mark) in q ∷ []) own in
      let becomes : h shards c ≡ at.new.history = history_becomes a (side shards weave.chains) c (StealAs c k (Ok stolen)) at' in
      let of_setup : at.new.setup ≡ weave.setup = at.does.same_setup ∙ (well.shard (shard_of weave.setup c) at.old at.was).of_setup in
      record {
        shards = shards;
        chains = weave.chains;
        becomes = at.becomes;
        kept = entry_keeps t fits weave well k w here shards weave.chains v (Steal c stolen.from k) adds refl (λ core no. absurd no)
            (λ d is _. absurd (none-some d (sym (ap colour_in phase) ∙ is)))
            (λ core no. absurd no)
            tt
            (steal_keeps weave.setup (h weave.shards) (h shards) c stolen.from k adds (marks_in_system held_by weave.chains weave.workers) (marks_in_system held_by weave.chains (slice_set weave.workers k v)) (marks_in_system held_by weave.chains (slice_set weave.workers k u)) (victim, mark) stolen.started stolen.worth refl
            (at.does.started ∙ ap (λ (l : List Entry). begun_of l c) (sym becomes))
            (at.does.worth ∙ ap (λ (s : Setup). worth_of s at.new.history c) of_setup ∙ ap (λ (l : List Entry). worth_of weave.setup l c) (sym becomes))
            (hand_gives held_by weave.chains weave.workers k w u here (victim, mark) holds refl)
            (hand_swaps held_by weave.chains weave.workers k w v here u (victim, mark) (k, new_mark) holds now refl) well.marks);
        never = tt;
      }
  steal_line mark victim phase b (Err no_steal.Memory) at =
      let c : Colour = mark.colour in
      let shards : List (ShardState S P) = with_shard c at.new in
      let at' : AtShard a (side shards weave.chains) c (StealAs c k (Err no_steal.Memory)) = record { old = at.old; new = at.new; was = at.was; does = at.does; becomes = refl } in
      let v : WorkerState S P = halted_in w (Pushing victim mark) in
      record {
        shards = shards;
        chains = weave.chains;
        becomes = at.becomes;
        kept = same_keeps t fits weave well k w here shards weave.chains v (histories_stay a (side shards weave.chains) c (StealAs c k (Err no_steal.Memory)) at' at.does.0.history) refl (sym (ap colour_in phase)) tt
            (same_marks shards v (sym (ap (held_in w.core) phase)));
        never = tt;
      }
  steal_line mark victim phase b (Err (no_steal.Pinned pinned)) at =
      let of_setup = (well.shard (shard_of weave.setup mark.colour) at.old at.was).of_setup in
      let loose = (subst (PhaseIsTold weave.setup (of weave.shards) k) phase told).2 in
      let low = at.does.1.0 in
      let same : pinned_of at.old.setup ≡ pinned_of weave.setup = ap pinned_of of_setup in
      absurd (omega (arith, loose, low, same))
  steal_line mark victim phase b (Err no_steal.Own) at =
      let c : Colour = mark.colour in
      let holds : held_by w ≡ (victim, mark) ∷ [] = ap (held_in w.core) phase in
      let of_setup = (well.shard (shard_of weave.setup c) at.old at.was).of_setup in
      let other = (subst (PhaseIsTold weave.setup (of weave.shards) k) phase told).0 in
      absurd (other ((in_hand_sound (victim, mark) holds).owner ∙ ap (λ (l : List Entry). owner_of weave.setup l c) (history_was a b c (StealAs c k (Err no_steal.Own)) at) ∙ ap (λ (s : Setup). owner_of s at.old.history c) (sym of_setup) ∙ sym at.does.1.1))
  steal_line mark victim phase b (Err (no_steal.Busy core)) at =
      absurd (not_running (victim, mark) at.old.history (ap (held_in w.core) phase) (history_was a b mark.colour (StealAs mark.colour k (Err (no_steal.Busy core))) at) at.does.1.2)
  steal_line mark victim phase b (Err (no_steal.Empty registered)) at =
      absurd (not_empty (victim, mark) at.old.history (ap (held_in w.core) phase) (history_was a b mark.colour (StealAs mark.colour k (Err (no_steal.Empty registered))) at) at.does.1.3)
  steal_line mark victim phase b (Err (no_steal.Cheap worth)) at =
      let c : Colour = mark.colour in
      let holds : held_by w ≡ (victim, mark) ∷ [] = ap (held_in w.core) phase in
      let of_setup = (well.shard (shard_of weave.setup c) at.old at.was).of_setup in
      let over = (subst (PhaseIsTold weave.setup (of weave.shards) k) phase told).1 in
      let most : mark.worth ≤ worth_of weave.setup (h weave.shards c) c = (in_hand_sound (victim, mark) holds).worth in
      let is : worth_of weave.setup (h weave.shards c) c ≡ worth_of at.old.setup at.old.history c = ap (λ (l : List Entry). worth_of weave.setup l c) (history_was a b c (StealAs c k (Err (no_steal.Cheap worth))) at) ∙ ap (λ (s : Setup). worth_of s at.old.history c) (sym of_setup) in
      let cheap = at.does.1.4 in
      let worth_is = at.does.1.3 in
      let cost : (shape_of at.old.setup).steal_cost ≡ (shape_of weave.setup).steal_cost = ap (λ (s : Setup). (shape_of s).steal_cost) of_setup in
      absurd (omega (arith, over, most, is, cheap, worth_is, cost))

  -- a turn is finished
  pub finish_line : (turn : TurnState S P) → w.phase ≡ Turning turn Nothing [] → (b : SideState S P) (answer : After) → AtShard a b turn.colour (FinishAs turn answer) → StepKeeps b (after_finish w turn.colour answer) (finish_name turn.colour answer)
  finish_line turn phase b (More started worth) at =
      let c : Colour = turn.colour in
      let shards : List (ShardState S P) = with_shard c at.new in
      let at' : AtShard a (side shards weave.chains) c (FinishAs turn (More started worth)) = record { old = at.old; new = at.new; was = at.was; does = at.does; becomes = refl } in
      let adds : Adds weave.setup (h weave.shards) (h shards) (Fin c turn.core turn.count) = finish_adds t fits a (side shards weave.chains) c stands turn (More started worth) refl at' in
      let of_turn = (subst (PhaseIsTold weave.setup (of weave.shards) k) phase told).0 in
      let new_mark : Mark = record { colour = c; started = started; worth = worth } in
      let v : WorkerState S P = in_phase w (Pushing w.core new_mark) in
      let was : h weave.shards c ≡ at.old.history = history_was a b c (FinishAs turn (More started worth)) at in
      let becomes : h shards c ≡ at.new.history = history_becomes a (side shards weave.chains) c (FinishAs turn (More started worth)) at' in
      let old_setup = (well.shard (shard_of weave.setup c) at.old at.was).of_setup in
      let runs : IsRunningOn (h weave.shards c) c turn.core turn.count = subst (λ (l : List Entry). IsRunningOn l c turn.core turn.count) (sym was) at.does.1 in
      let legal : IsLegal weave.setup (h weave.shards c) = adds.legal in
      let owner : turn.core ≡ (account shards c).owner = owner_runs t fits a (side shards weave.chains) c stands (h weave.shards c) turn.core turn.count legal runs ∙ sym (ap (λ (s : ColourAccount). s.owner) (account_moves weave.setup (h weave.shards) (h shards) (Fin c turn.core turn.count) adds)) in
      let now : held_by v ≡ (turn.core, new_mark) ∷ [] = ap (λ (n : ℕ). let q : Placed = (n, new_mark) in q ∷ []) (own ∙ sym of_turn) in
      record {
        shards = shards;
        chains = weave.chains;
        becomes = at.becomes;
        kept = entry_keeps t fits weave well k w here shards weave.chains v (Fin c turn.core turn.count) adds refl (λ core is. sym is ∙ of_turn)
            (λ d is other. absurd (other (sym (ap (λ (e : Colour). e.0) (same_Some c d (sym (ap colour_in phase) ∙ is)))) of_turn))
            (λ core no. absurd no)
            tt
            (more_keeps weave.setup (h weave.shards) (h shards) c turn.core turn.count adds runs.running (marks_in_system held_by weave.chains weave.workers) (marks_in_system held_by weave.chains (slice_set weave.workers k v)) started worth
            (subst (λ (l : List Entry). 0 < length (queued_of l c)) (sym becomes) at.does.2.0) owner
            (at.does.2.1 ∙ ap (λ (l : List Entry). begun_of l c) (sym becomes))
            (at.does.2.2 ∙ ap (λ (s : Setup). worth_of s at.new.history c) old_setup ∙ ap (λ (l : List Entry). worth_of weave.setup l c) (sym becomes))
            (hand_gains held_by weave.chains weave.workers k w v here (turn.core, new_mark) (ap (held_in w.core) phase) now) well.marks);
        never = tt;
      }
  finish_line turn phase b Idle at =
      let c : Colour = turn.colour in
      let shards : List (ShardState S P) = with_shard c at.new in
      let at' : AtShard a (side shards weave.chains) c (FinishAs turn Idle) = record { old = at.old; new = at.new; was = at.was; does = at.does; becomes = refl } in
      let adds : Adds weave.setup (h weave.shards) (h shards) (Fin c turn.core turn.count) = finish_adds t fits a (side shards weave.chains) c stands turn Idle refl at' in
      let of_turn = (subst (PhaseIsTold weave.setup (of weave.shards) k) phase told).0 in
      let v : WorkerState S P = in_phase w (Free 0) in
      let was : h weave.shards c ≡ at.old.history = history_was a b c (FinishAs turn Idle) at in
      let becomes : h shards c ≡ at.new.history = history_becomes a (side shards weave.chains) c (FinishAs turn Idle) at' in
      let runs : IsRunningOn (h weave.shards c) c turn.core turn.count = subst (λ (l : List Entry). IsRunningOn l c turn.core turn.count) (sym was) at.does.1 in
      record {
        shards = shards;
        chains = weave.chains;
        becomes = at.becomes;
        kept = entry_keeps t fits weave well k w here shards weave.chains v (Fin c turn.core turn.count) adds refl (λ core is. sym is ∙ of_turn)
            (λ d is other. absurd (other (sym (ap (λ (e : Colour). e.0) (same_Some c d (sym (ap colour_in phase) ∙ is)))) of_turn))
            (λ core no. absurd no)
            tt
            (idle_keeps weave.setup (h weave.shards) (h shards) c turn.core turn.count adds runs.running (marks_in_system held_by weave.chains weave.workers) (marks_in_system held_by weave.chains (slice_set weave.workers k v))
            (subst (λ (l : List Entry). queued_of l c ≡ []) (sym becomes) at.does.2)
            (hand_same held_by weave.chains weave.workers k w v here (sym (ap (held_in w.core) phase))) well.marks);
        never = tt;
      }
