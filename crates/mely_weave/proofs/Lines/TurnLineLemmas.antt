-- What the lines of a turn keep: a registration, and the run of a handler.
use Rattle.std.proofs.Common.{◌≡◌, ℕ, ◌<◌, List, [], ◌∷◌, Option, Some, Result, Ok, Err, length, refl, sym, ◌∙◌, ap, subst, arith}
use Rattle.std.specs.Prelude.{slice_get, slice_set}
use Rattle.mely_event.specs.declared.colour.Colour.{Colour}
use Rattle.mely_event.specs.declared.event.Event.{Event}
use Rattle.mely_event.specs.declared.mark.Mark.{Mark}
use Rattle.mely_event.specs.declared.unregistered.Unregistered.{Unregistered}
use Rattle.mely_event.specs.declared.trail.Trail.{Ghosts as TrailWords}
use Rattle.mely_history.specs.declared.setup.Setup.{Setup}
use Rattle.mely_history.specs.declared.entry.Entry.{Entry}
use Rattle.mely_history.specs.declared.entry.Entry.TheVariants.{Reg}
use Rattle.mely_history.specs.declared.registered.Registered.{Registered}
use Rattle.mely_history.specs.declared.registered.Registered.TheVariants.{Woke, Told, Running}
use Rattle.mely_history.specs.Setup.{shape_of}
use Rattle.mely_history.specs.History.{begun_of, ended_of, queued_of, owner_of, worth_of, IsRunning}
use Rattle.mely_history.specs.Legal.{MayRegister}
use Rattle.mely_queue.specs.Turn.{TurnState}
use Rattle.mely_shard.specs.Shard.{ShardState}
use Rattle.mely_worker.specs.declared.phase.Phase.TheVariants.{Turning}
use Rattle.mely_worker.specs.declared.delivery.Delivery.TheVariants.{Nothing, PushMark, Report}
use Rattle.mely_worker.specs.declared.made.Made.{Made}
use Rattle.mely_worker.specs.Worker.{WorkerState}
use Rattle.mely_worker.specs.Step.{in_phase, after_register, register_name}
use Rattle.mely_weave.specs.Side.{SideState, shard_of, history_for, readiness_for}
use Rattle.mely_weave.specs.Marks.{marks_in_system}
use Rattle.mely_weave.specs.Hands.{held_by, held_in, colour_in}
use Rattle.mely_weave.specs.Calls.{AtShard, RegisterAs}
use Rattle.mely_weave.specs.StandsWell.{side_of, PhaseIsTold, StandsWell, WasntRefused}
use Rattle.mely_weave.specs.Weave.{WeaveState}
use Rattle.mely_weave.proofs.Entries.EntryLemmas.{Adds}
use Rattle.mely_weave.proofs.Entries.EffectLemmas.{woke_keeps, told_keeps, running_keeps}
use Rattle.mely_weave.proofs.Entries.SideLemmas.{history_was, history_becomes, histories_stay}
use Rattle.mely_weave.proofs.Entries.CallLemmas.{register_adds}
use Rattle.mely_weave.proofs.Marks.HandLemmas.{hand_same, hand_gains}
use Rattle.mely_weave.proofs.Lines.StepLemmas.{same_keeps, entry_keeps}
use Rattle.mely_weave.proofs.Lines.LineLemmas.{StepKeeps, stands, told, same_marks}

module _ {S P F : Type 0} (t : TrailWords S F) (fits : F → Colour → Event → Option P → Type 0) (weave : WeaveState S P) (well : StandsWell t fits weave) (k : ℕ) (w : WorkerState S P) (here : slice_get weave.workers k ≡ Some w) (low : k < (shape_of weave.setup).cores) where
  abbrev Keeps : SideState S P → WorkerState S P → Made → Type 0
  Keeps = StepKeeps t fits weave well k w here low

  abbrev from : SideState S P
  from = side_of weave k

  abbrev to : List (ShardState S P) → SideState S P
  to shards = record { setup = weave.setup; core = k; given = weave.given; shards = shards; chains = weave.chains }

  module _ (turn : TurnState S P) (c : Colour) (event : Event) (load : Option P) (rest : List (Colour × Event × Option P)) (phase : w.phase ≡ Turning turn Nothing ((c, event, load) ∷ rest)) (may : MayRegister weave.setup c event) (b : SideState S P) where
    of_turn : turn.core ≡ k
    of_turn = (subst (PhaseIsTold weave.setup (readiness_for weave.setup weave.shards) k) phase (told t fits weave well k w here low)).0

    -- the first of the registrations that are left is made
    pub register_line : (answer : Result Registered (Unregistered P)) → AtShard from b c (RegisterAs c event load k answer) → Keeps b (after_register w turn rest (c, event, load) answer) (register_name c answer)
    register_line (Ok (Woke owner started worth)) at =
        let shards : List (ShardState S P) = slice_set weave.shards (shard_of weave.setup c) at.new in
        let at' : AtShard from (to shards) c (RegisterAs c event load k (Ok (Woke owner started worth))) = record { old = at.old; new = at.new; was = at.was; does = at.does; becomes = refl } in
        let adds : Adds weave.setup (history_for weave.setup weave.shards) (history_for weave.setup shards) (Reg c event k) = register_adds t fits from (to shards) c (stands t fits weave well k w here low) event load k (Woke owner started worth) may at' in
        let was : history_for weave.setup weave.shards c ≡ at.old.history = history_was from b c (RegisterAs c event load k (Ok (Woke owner started worth))) at in
        let becomes : history_for weave.setup shards c ≡ at.new.history = history_becomes from (to shards) c (RegisterAs c event load k (Ok (Woke owner started worth))) at' in
        let old_setup = (well.shard (shard_of weave.setup c) at.old at.was).of_setup in
        let mark : Mark = record { colour = c; started = started; worth = worth } in
        let v : WorkerState S P = in_phase w (Turning turn (PushMark owner mark) rest) in
        record {
          shards = shards;
          chains = weave.chains;
          becomes = at.becomes;
          kept = entry_keeps t fits weave well k w here shards weave.chains v (Reg c event k) adds refl (λ core no. absurd no) (λ d is _. sym (ap colour_in phase) ∙ is) (λ core no. absurd no) (of_turn, tt)
              (woke_keeps weave.setup (history_for weave.setup weave.shards) (history_for weave.setup shards) c event k adds (marks_in_system held_by weave.chains weave.workers) (marks_in_system held_by weave.chains (slice_set weave.workers k v)) owner started worth
              (ap (λ (l : List Entry). begun_of l c) was ∙ at.does.1.0 ∙ ap (λ (l : List Entry). ended_of l c) (sym was))
              (ap (λ (l : List Entry). queued_of l c) was ∙ at.does.1.1)
              (at.does.1.2 ∙ ap (λ (s : Setup). owner_of s at.new.history c) old_setup ∙ ap (λ (l : List Entry). owner_of weave.setup l c) (sym becomes))
              (at.does.1.3 ∙ ap (λ (l : List Entry). begun_of l c) (sym becomes))
              (at.does.1.4 ∙ ap (λ (s : Setup). worth_of s at.new.history c) old_setup ∙ ap (λ (l : List Entry). worth_of weave.setup l c) (sym becomes))
              (hand_gains held_by weave.chains weave.workers k w v here (owner, mark) (ap (held_in w.core) phase) refl) well.marks);
          never = tt;
        }
    register_line (Ok (Told owner started worth)) at =
        let shards : List (ShardState S P) = slice_set weave.shards (shard_of weave.setup c) at.new in
        let at' : AtShard from (to shards) c (RegisterAs c event load k (Ok (Told owner started worth))) = record { old = at.old; new = at.new; was = at.was; does = at.does; becomes = refl } in
        let adds : Adds weave.setup (history_for weave.setup weave.shards) (history_for weave.setup shards) (Reg c event k) = register_adds t fits from (to shards) c (stands t fits weave well k w here low) event load k (Told owner started worth) may at' in
        let was : history_for weave.setup weave.shards c ≡ at.old.history = history_was from b c (RegisterAs c event load k (Ok (Told owner started worth))) at in
        let becomes : history_for weave.setup shards c ≡ at.new.history = history_becomes from (to shards) c (RegisterAs c event load k (Ok (Told owner started worth))) at' in
        let old_setup = (well.shard (shard_of weave.setup c) at.old at.was).of_setup in
        let v : WorkerState S P = in_phase w (Turning turn (Report owner c started worth) rest) in
        let begun : started ≡ begun_of (history_for weave.setup shards c) c = at.does.1.3 ∙ ap (λ (l : List Entry). begun_of l c) (sym becomes) in
        let most : worth ≡ worth_of weave.setup (history_for weave.setup shards c) c = at.does.1.4 ∙ ap (λ (s : Setup). worth_of s at.new.history c) old_setup ∙ ap (λ (l : List Entry). worth_of weave.setup l c) (sym becomes) in
        record {
          shards = shards;
          chains = weave.chains;
          becomes = at.becomes;
          kept = entry_keeps t fits weave well k w here shards weave.chains v (Reg c event k) adds refl (λ core no. absurd no) (λ d is _. sym (ap colour_in phase) ∙ is) (λ core no. absurd no) (of_turn, (omega (arith, begun), λ _. omega (arith, most)))
              (told_keeps weave.setup (history_for weave.setup weave.shards) (history_for weave.setup shards) c event k adds (marks_in_system held_by weave.chains weave.workers) (marks_in_system held_by weave.chains (slice_set weave.workers k v))
              (ap (λ (l : List Entry). begun_of l c) was ∙ at.does.1.0 ∙ ap (λ (l : List Entry). ended_of l c) (sym was))
              (subst (λ (l : List Entry). 0 < length (queued_of l c)) (sym was) at.does.1.1)
              (λ p. sym (hand_same held_by weave.chains weave.workers k w v here (sym (ap (held_in w.core) phase)) p)) well.marks);
          never = tt;
        }
    register_line (Ok (Running core)) at =
        let shards : List (ShardState S P) = slice_set weave.shards (shard_of weave.setup c) at.new in
        let at' : AtShard from (to shards) c (RegisterAs c event load k (Ok (Running core))) = record { old = at.old; new = at.new; was = at.was; does = at.does; becomes = refl } in
        let adds : Adds weave.setup (history_for weave.setup weave.shards) (history_for weave.setup shards) (Reg c event k) = register_adds t fits from (to shards) c (stands t fits weave well k w here low) event load k (Running core) may at' in
        let was : history_for weave.setup weave.shards c ≡ at.old.history = history_was from b c (RegisterAs c event load k (Ok (Running core))) at in
        let v : WorkerState S P = in_phase w (Turning turn Nothing rest) in
        record {
          shards = shards;
          chains = weave.chains;
          becomes = at.becomes;
          kept = entry_keeps t fits weave well k w here shards weave.chains v (Reg c event k) adds refl (λ core no. absurd no) (λ d is _. sym (ap colour_in phase) ∙ is) (λ core no. absurd no) (of_turn, tt)
              (running_keeps weave.setup (history_for weave.setup weave.shards) (history_for weave.setup shards) c event k adds (marks_in_system held_by weave.chains weave.workers) (marks_in_system held_by weave.chains (slice_set weave.workers k v))
              (subst (λ (l : List Entry). IsRunning l c) (sym was) at.does.1.0)
              (hand_same held_by weave.chains weave.workers k w v here (sym (ap (held_in w.core) phase))) well.marks);
          never = tt;
        }
    register_line (Err back) at =
        let shards : List (ShardState S P) = slice_set weave.shards (shard_of weave.setup c) at.new in
        let at' : AtShard from (to shards) c (RegisterAs c event load k (Err back)) = record { old = at.old; new = at.new; was = at.was; does = at.does; becomes = refl } in
        let v : WorkerState S P = after_register w turn rest (c, event, load) (Err back) in
        record {
          shards = shards;
          chains = weave.chains;
          becomes = at.becomes;
          kept = same_keeps t fits weave well k w here shards weave.chains v (histories_stay from (to shards) c (RegisterAs c event load k (Err back)) at' at.does.history) refl (sym (ap colour_in phase)) (of_turn, tt)
              (same_marks t fits weave well k w here low shards v (sym (ap (held_in w.core) phase)));
          never = tt;
        }

  -- a handler runs: the worker turns on, and nothing else changes
  pub run_line : (turn : TurnState S P) (state : S) (left : List (Event × Option P)) (puts : List (Colour × Event × Option P)) (made : Made) → w.phase ≡ Turning turn Nothing [] → (b : SideState S P) → b ≡ from → WasntRefused made → Keeps b (in_phase w (Turning (record turn { state = state; events = left }) Nothing puts)) made
  run_line turn state left puts made phase b same never =
      let v : WorkerState S P = in_phase w (Turning (record turn { state = state; events = left }) Nothing puts) in
      record {
        shards = weave.shards;
        chains = weave.chains;
        becomes = same;
        kept = same_keeps t fits weave well k w here weave.shards weave.chains v (λ d. refl) refl (sym (ap colour_in phase))
            ((subst (PhaseIsTold weave.setup (readiness_for weave.setup weave.shards) k) phase (told t fits weave well k w here low)).0, tt)
            (same_marks t fits weave well k w here low weave.shards v (sym (ap (held_in w.core) phase)));
        never = never;
      }

  -- a halted worker does nothing
  pub halted_line : (b : SideState S P) (made : Made) → b ≡ from → WasntRefused made → Keeps b w made
  halted_line b made same never = record {
    shards = weave.shards;
    chains = weave.chains;
    becomes = same;
    kept = same_keeps t fits weave well k w here weave.shards weave.chains w (λ d. refl) refl refl (told t fits weave well k w here low) (same_marks t fits weave well k w here low weave.shards w refl);
    never = never;
  }
