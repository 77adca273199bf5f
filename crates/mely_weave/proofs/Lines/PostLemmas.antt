-- A post keeps all standing well.
use Rattle.std.proofs.Common.{◌≡◌, ℕ, zero, suc, ◌<◌, Bool, true, List, [], ◌∷◌, Option, Some, Result, Ok, Err, length, refl, sym, ◌∙◌, ap, subst, arith}
use Rattle.std.proofs.lemmas.Option.{same_Some}
use Rattle.std.specs.Prelude.{slice_get, slice_set}
use Rattle.mely_event.specs.declared.colour.Colour.{Colour}
use Rattle.mely_event.specs.declared.event.Event.{Event}
use Rattle.mely_event.specs.declared.mark.Mark.{Mark}
use Rattle.mely_event.specs.declared.there.There.{There}
use Rattle.mely_event.specs.declared.unregistered.Unregistered.{Unregistered}
use Rattle.mely_event.specs.declared.trail.Trail.{Ghosts as TrailWords}
use Rattle.mely_history.specs.declared.setup.Setup.{Setup}
use Rattle.mely_history.specs.declared.entry.Entry.{Entry}
use Rattle.mely_history.specs.declared.entry.Entry.TheVariants.{Reg}
use Rattle.mely_history.specs.declared.registered.Registered.{Registered}
use Rattle.mely_history.specs.declared.registered.Registered.TheVariants.{Woke, Told, Running}
use Rattle.mely_history.specs.Setup.{shape_of}
use Rattle.mely_history.specs.History.{begun_of, ended_of, queued_of, owner_of, worth_of, IsRunning}
use Rattle.mely_history.specs.Legal.{MayRegister}
use Rattle.mely_shard.specs.Shard.{ShardState}
use Rattle.mely_core.specs.CoreQueue.{CoreQueueState}
use Rattle.mely_worker.specs.Worker.{WorkerState}
use Rattle.mely_worker.specs.Conditions.{MayStep}
use Rattle.mely_weave.specs.Side.{SideState, Readiness, shard_of, history_for, readiness_for}
use Rattle.mely_weave.specs.Marks.{Placed, MarksStand, marks_in_system}
use Rattle.mely_weave.specs.Hands.{held_by}
use Rattle.mely_weave.specs.Calls.{AtShard, AtChain, RegisterAs, PushAs, RetellAs, IsOut, side_words, weave_words}
use Rattle.mely_weave.specs.Posting.{PostAs}
use Rattle.mely_weave.specs.SideStands.{SideStands, PartsOf}
use Rattle.mely_weave.specs.StandsWell.{side_of, PhaseIsTold, WorkerStands, StandsWell}
use Rattle.mely_weave.specs.Weave.{WeaveState}
use Rattle.mely_weave.specs.Steps.{with_workers}
use Rattle.mely_weave.proofs.Marks.CountsLemmas.{Alike}
use Rattle.mely_history.specs.ColourAccount.{account_of}
use Rattle.mely_weave.proofs.Entries.EntryLemmas.{Adds, none_unready, none_waits}
use Rattle.mely_weave.proofs.Entries.EffectLemmas.{woke_keeps, told_keeps, running_keeps, onward}
use Rattle.mely_weave.proofs.Entries.SideLemmas.{history_was, history_becomes, histories_stay}
use Rattle.mely_weave.proofs.Entries.CallLemmas.{register_adds, register_owes}
use Rattle.mely_weave.proofs.Marks.HandLemmas.{chain_gains, none_in_chain}
use Rattle.mely_weave.proofs.Lines.StepLemmas.{KeptBy, same_keeps, entry_keeps, phase_onward, phase_may, well_after}
use Rattle.mely_weave.proofs.Lines.ChainLineLemmas.{marks_retold}

set_itself : {A : Type 0} (xs : List A) (i : ℕ) (x : A) → slice_get xs i ≡ Some x → slice_set xs i x ≡ xs
set_itself [] i x h = cc
set_itself (y ∷ ys) zero x h = ap (λ z. z ∷ ys) (sym (same_Some y x h))
set_itself (y ∷ ys) (suc i) x h = ap (λ zs. y ∷ zs) (set_itself ys i x h)

-- nothing is in hand that was not, where a worker is as it was
same_list : {W : Type 0} (in_hand : W → List Placed) (chains : List CoreQueueState) (ws : List W) (k : ℕ) (w : W) (of : Colour → Readiness) → slice_get ws k ≡ Some w → MarksStand of (marks_in_system in_hand chains ws) → MarksStand of (marks_in_system in_hand chains (slice_set ws k w))
same_list in_hand chains ws k w of here stands = subst (λ l. MarksStand of (marks_in_system in_hand chains l)) (sym (set_itself ws k w here)) stands

module _ {S P F : Type 0} (t : TrailWords S F) (fits : F → Colour → Event → Option P → Type 0) (weave : WeaveState S P) (well : StandsWell t fits weave) (w : WorkerState S P) (here : slice_get weave.workers 0 ≡ Some w) (low : 0 < (shape_of weave.setup).cores)
    (c : Colour) (event : Event) (load : Option P) (may : MayRegister weave.setup c event) where
  abbrev from : SideState S P
  from = side_of weave 0

  abbrev to : List (ShardState S P) → List CoreQueueState → SideState S P
  to shards chains = record { setup = weave.setup; core = 0; given = weave.given; shards = shards; chains = chains }

  abbrev by : ℕ
  by = (shape_of weave.setup).cores

  stands : PartsOf t fits from
  stands = record { shards = well.shards; shard = well.shard; chains = well.chains; chain = well.chain }

  abbrev ready : List (ShardState S P) → Colour → Readiness
  ready shards = readiness_for weave.setup shards

  -- a post leaves this side, and keeps what stands; what it tried to push it pushed
  pub record PostKeeps (answer : Result Registered (Unregistered P)) (b : SideState S P) : Type 0 where
    pub shards : List (ShardState S P)
    pub chains : List CoreQueueState
    pub becomes : b ≡ to shards chains
    pub kept : KeptBy t fits weave well 0 w here shards chains w
    pub owes : (d : Colour) (core count : ℕ) (trail : List Event) → IsOut from d core count trail → IsOut (to shards chains) d core count trail
    pub posts : PostAs (weave_words t) c event load answer from b

  told : PhaseIsTold weave.setup (ready weave.shards) 0 w.phase
  told = (well.worker 0 w here).told

  module _ (reply : Registered) (between : SideState S P) (at : AtShard from between c (RegisterAs c event load by (Ok reply))) where
    abbrev shards' : List (ShardState S P)
    shards' = slice_set weave.shards (shard_of weave.setup c) at.new

    abbrev at_to : AtShard from (to shards' weave.chains) c (RegisterAs c event load by (Ok reply))
    at_to = record { old = at.old; new = at.new; was = at.was; does = at.does; becomes = refl }

    adds : Adds weave.setup (history_for weave.setup weave.shards) (history_for weave.setup shards') (Reg c event by)
    adds = register_adds t fits from (to shards' weave.chains) c stands event load by reply may at_to

    was : history_for weave.setup weave.shards c ≡ at.old.history
    was = history_was from between c (RegisterAs c event load by (Ok reply)) at

    becomes : history_for weave.setup shards' c ≡ at.new.history
    becomes = history_becomes from (to shards' weave.chains) c (RegisterAs c event load by (Ok reply)) at_to

    old_setup : at.old.setup ≡ weave.setup
    old_setup = (well.shard (shard_of weave.setup c) at.old at.was).of_setup

    chains_were : between.chains ≡ weave.chains
    chains_were = ap (λ (s : SideState S P). s.chains) at.becomes

    -- the owner's chain becomes another
    leads_to : (core : ℕ) (Does : CoreQueueState → CoreQueueState → Type 0) (b : SideState S P) (to_chain : AtChain between b core Does) → b ≡ to shards' (slice_set weave.chains core to_chain.new)
    leads_to core Does b to_chain = to_chain.becomes ∙ ap (λ (s : SideState S P). record s { chains = slice_set s.chains core to_chain.new }) at.becomes

    -- whatever the chains are then, if the marks stand the post keeps what stands
    registered_keeps : (chains : List CoreQueueState) → MarksStand (ready shards') (marks_in_system held_by chains weave.workers) → KeptBy t fits weave well 0 w here shards' chains w
    registered_keeps chains marks =
        entry_keeps t fits weave well 0 w here shards' chains w (Reg c event by) adds refl (λ core no. absurd no) (λ d is _. is) (λ core no. absurd no)
        (phase_onward weave.setup (ready weave.shards) (ready shards') 0 (onward weave.setup (history_for weave.setup weave.shards) (history_for weave.setup shards') (Reg c event by) adds) w.phase told)
        (same_list held_by chains weave.workers 0 w (ready shards') here marks)

    registered_owes : (chains : List CoreQueueState) (d : Colour) (core count : ℕ) (trail : List Event) → IsOut from d core count trail → IsOut (to shards' chains) d core count trail
    registered_owes chains d core count trail out =
        let still : IsOut (to shards' weave.chains) d core count trail = register_owes t fits from (to shards' weave.chains) c stands event load by (Ok reply) may at_to d core count trail out in
        record { colour = still.colour; runs = still.runs; trailed = still.trailed }

  pushed_post : (owner started worth : ℕ) (b between : SideState S P) (at : AtShard from between c (RegisterAs c event load by (Ok (Woke owner started worth)))) (answer : Result (Unit {0}) There)
      (pushed : AtChain between b owner (PushAs (record { colour = c; started = started; worth = worth }) answer)) → begun_of (history_for weave.setup weave.shards c) c ≡ ended_of (history_for weave.setup weave.shards c) c → queued_of (history_for weave.setup weave.shards c) c ≡ []
      → slice_get weave.chains owner ≡ Some pushed.old
      → (Alike (marks_in_system held_by (slice_set weave.chains owner pushed.new) weave.workers) ((owner, record { colour = c; started = started; worth = worth }) ∷ marks_in_system held_by weave.chains weave.workers) → MarksStand (ready (slice_set weave.shards (shard_of weave.setup c) at.new)) (marks_in_system held_by (slice_set weave.chains owner pushed.new) weave.workers))
      → PostKeeps (Ok (Woke owner started worth)) b
  pushed_post owner started worth b between at (Ok done) pushed at_rest none there marks =
      let reply : Registered = Woke owner started worth in
      let mark : Mark = record { colour = c; started = started; worth = worth } in
      let chains : List CoreQueueState = slice_set weave.chains owner pushed.new in
      record {
        shards = slice_set weave.shards (shard_of weave.setup c) at.new;
        chains = chains;
        becomes = leads_to reply between at owner (PushAs mark (Ok done)) b pushed;
        kept = registered_keeps reply between at chains (marks (chain_gains held_by weave.chains weave.workers owner pushed.old pushed.new there mark (ap (λ (q : CoreQueueState). q.chain) pushed.does.1)));
        owes = registered_owes reply between at chains;
        posts = (between, at, (true, (Ok tt, (refl, pushed), refl)));
      }
  pushed_post owner started worth b between at (Err back) pushed at_rest none there marks =
      absurd (none_in_chain held_by weave.chains weave.workers owner pushed.old pushed.new there (ready weave.shards) c
      (none_unready weave.setup (account_of weave.setup (history_for weave.setup weave.shards c) c) (none_waits (account_of weave.setup (history_for weave.setup weave.shards c) c) none)) well.marks pushed.does.0)

  woke_keeps_post : (owner started worth : ℕ) (b between : SideState S P) (at : AtShard from between c (RegisterAs c event load by (Ok (Woke owner started worth)))) (answer : Result (Unit {0}) There)
      → AtChain between b owner (PushAs (record { colour = c; started = started; worth = worth }) answer) → PostKeeps (Ok (Woke owner started worth)) b
  woke_keeps_post owner started worth b between at answer pushed =
      let reply : Registered = Woke owner started worth in
      let mark : Mark = record { colour = c; started = started; worth = worth } in
      let h = was reply between at in
      let h' = becomes reply between at in
      let at_rest : begun_of (history_for weave.setup weave.shards c) c ≡ ended_of (history_for weave.setup weave.shards c) c = ap (λ (l : List Entry). begun_of l c) h ∙ at.does.1.0 ∙ ap (λ (l : List Entry). ended_of l c) (sym h) in
      let none : queued_of (history_for weave.setup weave.shards c) c ≡ [] = ap (λ (l : List Entry). queued_of l c) h ∙ at.does.1.1 in
      let there : slice_get weave.chains owner ≡ Some pushed.old = subst (λ (l : List CoreQueueState). slice_get l owner ≡ Some pushed.old) (chains_were reply between at) pushed.was in
      let shards : List (ShardState S P) = slice_set weave.shards (shard_of weave.setup c) at.new in
      let chains : List CoreQueueState = slice_set weave.chains owner pushed.new in
      pushed_post owner started worth b between at answer pushed at_rest none there
      (λ alike. woke_keeps weave.setup (history_for weave.setup weave.shards) (history_for weave.setup shards) c event by (adds reply between at) (marks_in_system held_by weave.chains weave.workers) (marks_in_system held_by chains weave.workers) owner started worth at_rest none
      (at.does.1.2 ∙ ap (λ (s : Setup). owner_of s at.new.history c) (old_setup reply between at) ∙ ap (λ (l : List Entry). owner_of weave.setup l c) (sym h'))
      (at.does.1.3 ∙ ap (λ (l : List Entry). begun_of l c) (sym h'))
      (at.does.1.4 ∙ ap (λ (s : Setup). worth_of s at.new.history c) (old_setup reply between at) ∙ ap (λ (l : List Entry). worth_of weave.setup l c) (sym h'))
      alike well.marks)

  told_keeps_post : (owner started worth : ℕ) (b between : SideState S P) (at : AtShard from between c (RegisterAs c event load by (Ok (Told owner started worth)))) (found : Bool) → AtChain between b owner (RetellAs c started worth found) → PostKeeps (Ok (Told owner started worth)) b
  told_keeps_post owner started worth b between at found retold =
      let reply : Registered = Told owner started worth in
      let h = was reply between at in
      let h' = becomes reply between at in
      let shards : List (ShardState S P) = slice_set weave.shards (shard_of weave.setup c) at.new in
      let chains : List CoreQueueState = slice_set weave.chains owner retold.new in
      let begun : started ≡ begun_of (history_for weave.setup shards c) c = at.does.1.3 ∙ ap (λ (l : List Entry). begun_of l c) (sym h') in
      let most : worth ≡ worth_of weave.setup (history_for weave.setup shards c) c = at.does.1.4 ∙ ap (λ (s : Setup). worth_of s at.new.history c) (old_setup reply between at) ∙ ap (λ (l : List Entry). worth_of weave.setup l c) (sym h') in
      let first : MarksStand (ready shards) (marks_in_system held_by weave.chains weave.workers) =
      told_keeps weave.setup (history_for weave.setup weave.shards) (history_for weave.setup shards) c event by (adds reply between at) (marks_in_system held_by weave.chains weave.workers) (marks_in_system held_by weave.chains weave.workers)
      (ap (λ (l : List Entry). begun_of l c) h ∙ at.does.1.0 ∙ ap (λ (l : List Entry). ended_of l c) (sym h)) (subst (λ (l : List Entry). 0 < length (queued_of l c)) (sym h) at.does.1.1) (λ p. refl) well.marks in
      let then : MarksStand (ready shards) (marks_in_system held_by chains (slice_set weave.workers 0 w)) =
      marks_retold t fits weave well 0 w here low (ready shards) first between b (chains_were reply between at) owner c started worth found retold w refl (omega (arith, begun), λ _. omega (arith, most)) in
      record {
        shards = shards;
        chains = chains;
        becomes = leads_to reply between at owner (RetellAs c started worth found) b retold;
        kept = registered_keeps reply between at chains (subst (λ (l : List (WorkerState S P)). MarksStand (ready shards) (marks_in_system held_by chains l)) (set_itself weave.workers 0 w here) then);
        owes = registered_owes reply between at chains;
        posts = (between, at, (found, retold));
      }

  running_keeps_post : (core : ℕ) (b between : SideState S P) (at : AtShard from between c (RegisterAs c event load by (Ok (Running core)))) → b ≡ between → PostKeeps (Ok (Running core)) b
  running_keeps_post core b between at same =
      let reply : Registered = Running core in
      let h = was reply between at in
      let shards : List (ShardState S P) = slice_set weave.shards (shard_of weave.setup c) at.new in
      record {
        shards = shards;
        chains = weave.chains;
        becomes = same ∙ at.becomes;
        kept = registered_keeps reply between at weave.chains
            (running_keeps weave.setup (history_for weave.setup weave.shards) (history_for weave.setup shards) c event by (adds reply between at) (marks_in_system held_by weave.chains weave.workers) (marks_in_system held_by weave.chains weave.workers)
            (subst (λ (l : List Entry). IsRunning l c) (sym h) at.does.1.0) (λ p. refl) well.marks);
        owes = registered_owes reply between at weave.chains;
        posts = (between, at, (true, (same, refl)));
      }

  pub post_keeps : (Keep : SideState S P → Type 0) (answer : Result Registered (Unregistered P)) (b : SideState S P) → PostAs (side_words t Keep) c event load answer from b → PostKeeps answer b
  post_keeps Keep (Err back) b at =
      let shards : List (ShardState S P) = slice_set weave.shards (shard_of weave.setup c) at.new in
      let at' : AtShard from (to shards weave.chains) c (RegisterAs c event load by (Err back)) = record { old = at.old; new = at.new; was = at.was; does = at.does; becomes = refl } in
      record {
        shards = shards;
        chains = weave.chains;
        becomes = at.becomes;
        kept = same_keeps t fits weave well 0 w here shards weave.chains w (histories_stay from (to shards weave.chains) c (RegisterAs c event load by (Err back)) at' at.does.history) refl refl told
            (same_list held_by weave.chains weave.workers 0 w (ready weave.shards) here well.marks);
        owes = register_owes t fits from (to shards weave.chains) c stands event load by (Err back) may at';
        posts = at;
      }
  post_keeps Keep (Ok (Woke owner started worth)) b posted = woke_keeps_post owner started worth b posted.0 posted.1 posted.2.1.0 posted.2.1.1
  post_keeps Keep (Ok (Told owner started worth)) b posted = told_keeps_post owner started worth b posted.0 posted.1 posted.2.0 posted.2.1
  post_keeps Keep (Ok (Running core)) b posted = running_keeps_post core b posted.0 posted.1 posted.2.1.0

  -- and so all stands well after it
  pub post_stands : (Keep : SideState S P → Type 0) (answer : Result Registered (Unregistered P)) (b : SideState S P) → PostAs (side_words t Keep) c event load answer from b → SideStands t fits b → StandsWell t fits (with_workers b weave.workers)
  post_stands Keep answer b tries side =
      let keeps = post_keeps Keep answer b tries in
      let is : WorkerStands t fits weave 0 w = well.worker 0 w here in
      let may_step : MayStep t fits weave.setup 0 (t.frame_of weave.given) (IsOut (to keeps.shards keeps.chains)) w = record {
        own_core = is.may.own_core;
        core = is.may.core;
        batch = is.may.batch;
        victims = is.may.victims;
        phase = phase_may t fits weave.setup (ready weave.shards) 0 (t.frame_of weave.given) (IsOut from) (IsOut (to keeps.shards keeps.chains)) (λ d core count trail _ out. keeps.owes d core count trail out) w.phase is.told is.may.phase;
        lost = is.may.lost;
      } in
      subst (λ (s : SideState S P). StandsWell t fits (with_workers s weave.workers)) (sym keeps.becomes)
      (subst (λ (l : List (WorkerState S P)). StandsWell t fits (with_workers (to keeps.shards keeps.chains) l)) (set_itself weave.workers 0 w here)
      (well_after t fits weave well 0 w here keeps.shards keeps.chains w keeps.kept (subst (SideStands t fits) keeps.becomes side) may_step))

-- a list that isn't empty has a first
pub some_first : {A : Type 0} (xs : List A) (n : ℕ) → length xs ≡ n → 0 < n → (x : A) × (slice_get xs 0 ≡ Some x)
some_first [] n e h = absurd (omega (arith, e, h))
some_first (x ∷ xs) n e h = (x, refl)
