-- Each line of the worker's rule is what the machine does.
use Rattle.std.proofs.Common.{◌≡◌, ◌<◌, ◌+◌, ℕ, Bool, false, cond, ltb, List, [], ◌∷◌, ◌++◌, Option, None, Some, Ok, length, map, take, min, arith, refl, sym, ap, subst, ◌∙◌}
use Rattle.std.specs.Prelude.{slice_get, slice_set}
use Rattle.mely_event.specs.declared.colour.Colour.{Colour}
use Rattle.mely_event.specs.declared.event.Event.{Event}
use Rattle.mely_event.specs.declared.mark.Mark.{Mark}
use Rattle.mely_event.specs.declared.trail.Trail.{Ghosts as TrailWords}
use Rattle.mely_history.specs.declared.setup.Setup.{Setup}
use Rattle.mely_history.specs.declared.entry.Entry.{Entry}
use Rattle.mely_history.specs.declared.entry.Entry.TheVariants.{Reg, Take, Fin, Steal}
use Rattle.mely_history.specs.declared.registered.Registered.{Registered}
use Rattle.mely_history.specs.declared.stolen.Stolen.{Stolen}
use Rattle.mely_history.specs.declared.after.After.{After}
use Rattle.mely_history.specs.declared.after.After.TheVariants.{More, Idle}
use Rattle.mely_history.specs.Setup.{shape_of}
use Rattle.mely_history.specs.History.{queued_of, owner_of, worth_of}
use Rattle.mely_queue.specs.Turn.{TurnState}
use Rattle.mely_shard.specs.Shard.{ShardState, RegisteredAs, AfterAs}
use Rattle.mely_core.specs.CoreQueue.{CoreQueueState}
use Rattle.mely_worker.specs.declared.delivery.Delivery.{Delivery}
use Rattle.mely_worker.specs.declared.delivery.Delivery.TheVariants.{Nothing}
use Rattle.mely_worker.specs.Access.{IsColour, events_of}
use Rattle.mely_worker.specs.Delivery.{delivery_after}
use Rattle.mely_worker.specs.Worker.{WorkerState}
use Rattle.mely_worker.specs.Step.{after_register, after_finish, after_take, after_steal, next_place, after_pop, after_pick}
use Rattle.mely_weave.specs.Side.{SideState, shard_of}
use Rattle.mely_weave.specs.Calls.{AtShard, AtChain, RegisterAs, TakeAs, FinishAs, StealAs, PushAs, PopAs, RetellAs, PickAs}
use Rattle.mely_weave.specs.StandsWell.{side_of, StandsWell}
use Rattle.mely_weave.specs.Weave.{WeaveState}
use Rattle.mely_weave.proofs.Entries.SideLemmas.{get_set_same, shard_owns}
use Rattle.mely_weave.proofs.Lines.LineLemmas.{own, stands}
use Rattle.mely_machine.specs.Rules.{Rules, rules_of, owner_by, mark_by}
use Rattle.mely_machine.specs.Listing.{Listed, hears, first_to_steal, without_colour}
use Rattle.mely_machine.specs.Machine.{Doing, Free, Popped, Picked, Landing, Pushing, Turning, Machine, list_at, enters, lists_at, turns_to, pushes}
use Rattle.mely_machine.specs.MachineStep.{history_for, reports, doing_after, delivery_by, place_after, step_finish, step_register, step_pop, step_pick, step_hunt, step_take, step_steal}
use Rattle.mely_run.specs.Corresponds.{listed_mark, worker_doing, without_load, without_loads, IsListed, IsShown, Corresponds}
use Rattle.mely_run.proofs.Lists.ElementsLemmas.{got, set_there, map_take}
use Rattle.mely_run.proofs.Lists.PushesLemmas.{after_pop as popped_list}
use Rattle.mely_run.proofs.Lists.PicksLemmas.{no_pick, picked_first, after_pick as picked_list}
use Rattle.mely_run.proofs.Lines.ShownLemmas.{history_shown, list_is, shown_later, shown_entry, shown_list}
use Rattle.mely_run.proofs.Lines.DeliveriesLemmas.{delivery_is, push_listed, report_listed}

module _ {S P F X : Type 0} (t : TrailWords S F) (fits : F → Colour → Event → Option P → Type 0) (weave : WeaveState S P) (well : StandsWell t fits weave) (k : ℕ) (w : WorkerState S P) (here : slice_get weave.workers k ≡ Some w) (low : k < (shape_of weave.setup).cores)
    (m : Machine X) (is : Corresponds weave m) where
  abbrev rules : Rules
  rules = rules_of weave.setup

  abbrev a : SideState S P
  a = side_of weave k

  -- the machine goes on as the weave does
  pub record Follows (b : SideState S P) (v : WorkerState S P) (n : Machine X) : Type 0 where
    pub setup : b.setup ≡ weave.setup
    pub shown : IsShown b.shards b.chains (m.made + 1) n.histories n.lists
    pub workers : n.workers ≡ slice_set m.workers k (worker_doing v)
    pub made : n.made ≡ m.made
    pub going : v.halted ≡ false

  -- w isn't halted, and so isn't a worker in another phase
  pub going : w.halted ≡ false
  going = is.going k w here

  -- ---- one chain changes

  chain_line : (b : SideState S P) (to : ℕ) (Does : CoreQueueState → CoreQueueState → Type 0) (called : AtChain a b to Does) (list : List Listed) → IsListed (m.made + 1) called.new list → (v : WorkerState S P) (d : Doing) → d ≡ worker_doing v → v.halted ≡ false
      → Follows b v (turns_to k d (lists_at to list m))
  chain_line b to Does called list listed_mark v d e not_halted = record {
    setup = ap (λ (s : SideState S P). s.setup) called.becomes;
    shown = subst (λ (s : SideState S P). IsShown s.shards s.chains (m.made + 1) m.histories (slice_set m.lists to list)) (sym called.becomes)
        (shown_list weave.shards weave.chains m.made m.histories m.lists is.shown to called.old called.new list called.was listed_mark);
    workers = ap (slice_set m.workers k) e;
    made = refl;
    going = not_halted;
  }

  -- nothing changes
  pub same_line : (b : SideState S P) → b ≡ a → (v : WorkerState S P) (d : Doing) (app : X) → d ≡ worker_doing v → v.halted ≡ false → Follows b v (turns_to k d (record m { app = app }))
  same_line b same v d app e not_halted = record {
    setup = ap (λ (s : SideState S P). s.setup) same;
    shown = subst (λ (s : SideState S P). IsShown s.shards s.chains (m.made + 1) m.histories m.lists) (sym same) (shown_later weave.shards weave.chains m.made m.histories m.lists is.shown);
    workers = ap (slice_set m.workers k) e;
    made = refl;
    going = not_halted;
  }

  unchanged : (b : SideState S P) (core : ℕ) (Does : CoreQueueState → CoreQueueState → Type 0) (called : AtChain a b core Does) → called.new ≡ called.old → b ≡ a
  unchanged b core Does called same =
      called.becomes
      ∙ ap (λ (q : CoreQueueState). record a { chains = slice_set a.chains core q }) same
      ∙ ap (λ (qs : List CoreQueueState). record a { chains = qs }) (set_there a.chains core called.old called.was)

  its_list : (core : ℕ) (queue : CoreQueueState) → slice_get weave.chains core ≡ Some queue → IsListed m.made queue (list_at m core)
  its_list core queue there = list_is weave.shards weave.chains m.made m.histories m.lists is.shown core queue there

  cost_is : (core : ℕ) (queue : CoreQueueState) → slice_get weave.chains core ≡ Some queue → queue.cost ≡ (shape_of weave.setup).steal_cost
  cost_is core queue there = (well.chain core queue there).cost

  -- whom a thief takes, by the numbers of the chain and by the rules
  first_is : (core : ℕ) (queue : CoreQueueState) → slice_get weave.chains core ≡ Some queue → first_to_steal rules.shape.steal_cost rules.pinned (list_at m core) ≡ first_to_steal queue.cost queue.pinned (list_at m core)
  first_is core queue there = λ i. first_to_steal (sym (cost_is core queue there) i) (sym (well.chain core queue there).pinned i) (list_at m core)

  -- a mark is pushed
  pub push_line : (b : SideState S P) (to : ℕ) (mark : Mark) → AtChain a b to (PushAs mark (Ok tt)) → (v : WorkerState S P) (d : Doing) → d ≡ worker_doing v → v.halted ≡ false → Follows b v (turns_to k d (pushes to mark m))
  push_line b to mark called v d e not_halted =
      chain_line b to (PushAs mark (Ok tt)) called (list_at m to ++ record { mark = mark; since = m.made } ∷ [])
      (push_listed m.made called.old called.new (well.chain to called.old called.was).together (list_at m to) (its_list to called.old called.was) mark called.does) v d e not_halted

  -- a report is heard
  pub report_line : (b : SideState S P) (to : ℕ) (c : Colour) (started worth : ℕ) (found : Bool) → AtChain a b to (RetellAs c started worth found) → (v : WorkerState S P) (d : Doing) → d ≡ worker_doing v → v.halted ≡ false
      → Follows b v (turns_to k d (reports rules to c started worth m))
  report_line b to c started worth found called v d e not_halted =
      chain_line b to (RetellAs c started worth found) called (map (hears rules.shape.steal_cost m.made c started worth) (list_at m to))
      (subst (λ (cost : ℕ). IsListed (m.made + 1) called.new (map (hears cost m.made c started worth) (list_at m to))) (cost_is to called.old called.was)
      (report_listed m.made called.old called.new (well.chain to called.old called.was).together (list_at m to) (its_list to called.old called.was) c started worth found called.does)) v d e not_halted

  -- the next place of the hunt
  place_is : (place : ℕ) → place_after rules k place ≡ next_place w place
  place_is place = ap (λ (victims : List ℕ). cond (ltb place (length victims)) (place + 1) 0) (sym (well.worker k w here).victims)

  -- the own list is popped
  pub pop_line : (b : SideState S P) (answer : Option Mark) → AtChain a b k (PopAs answer) → Follows b (after_pop w answer) (step_pop rules k m (list_at m k))
  pop_line b None called =
      let no_list : list_at m k ≡ [] = (its_list k called.old called.was).marks ∙ ap (map (listed_mark (its_list k called.old called.was).since)) called.does.0 in
      subst (λ (l : List Listed). Follows b (after_pop w None) (step_pop rules k m l)) (sym no_list)
      (same_line b (unchanged b k (PopAs None) called called.does.1) (after_pop w None) (Free (place_after rules k 0)) m.app (ap Free (place_is 0)) going)
  pop_line b (Some mark) called =
      let both = popped_list m.made called.old (list_at m k) (its_list k called.old called.was) mark called.new.chain called.does.0 in
      let since = (its_list k called.old called.was).since in
      subst (λ (l : List Listed). Follows b (after_pop w (Some mark)) (step_pop rules k m l)) (sym both.0)
      (chain_line b k (PopAs (Some mark)) called (map (listed_mark since) called.new.chain)
      (subst (λ (q : CoreQueueState). IsListed (m.made + 1) q (map (listed_mark since) called.new.chain)) (sym called.does.1) both.1)
      (after_pop w (Some mark)) (Popped mark) refl going)

  -- a mark is picked
  pub pick_line : (b : SideState S P) (place victim : ℕ) (answer : Option Mark) → AtChain a b victim (PickAs answer) → Follows b (after_pick w place victim answer) (step_hunt rules k m place (Some victim))
  pick_line b place victim None called =
      let none : first_to_steal rules.shape.steal_cost rules.pinned (list_at m victim) ≡ None =
      first_is victim called.old called.was
      ∙ no_pick m.made called.old (well.chain victim called.old called.was).together (list_at m victim) (its_list victim called.old called.was) called.does.0 in
      subst (λ (l : Option Listed). Follows b (after_pick w place victim None) (step_pick rules k m place victim l)) (sym none)
      (same_line b (unchanged b victim (PickAs None) called called.does.1) (after_pick w place victim None) (Free (place_after rules k place)) m.app (ap Free (place_is place)) going)
  pick_line b place victim (Some mark) called =
      let its = its_list victim called.old called.was in
      let some : first_to_steal rules.shape.steal_cost rules.pinned (list_at m victim) ≡ Some (listed_mark its.since mark) =
      first_is victim called.old called.was
      ∙ picked_first m.made called.old (well.chain victim called.old called.was).together (list_at m victim) its mark called.does.0 in
      subst (λ (l : Option Listed). Follows b (after_pick w place victim (Some mark)) (step_pick rules k m place victim l)) (sym some)
      (chain_line b victim (PickAs (Some mark)) called (without_colour mark.colour (list_at m victim))
      (subst (λ (q : CoreQueueState). IsListed (m.made + 1) q (without_colour mark.colour (list_at m victim))) (sym called.does.4)
      (picked_list m.made called.old (well.chain victim called.old called.was).together (list_at m victim) its mark.colour))
      (after_pick w place victim (Some mark)) (Picked mark) refl going)

  -- ---- one history grows

  abbrev shard : Colour → ℕ
  shard c = shard_of weave.setup c

  was_history : (c : Colour) (old : ShardState S P) → slice_get weave.shards (shard c) ≡ Some old → history_for rules m c ≡ old.history
  was_history c old there = got m.histories (shard c) old.history [] (history_shown weave.shards weave.chains m.made m.histories m.lists is.shown (shard c) old there)

  now_history : (c : Colour) (old new : ShardState S P) (entry : Entry) → slice_get weave.shards (shard c) ≡ Some old → new.history ≡ old.history ++ entry ∷ [] → history_for rules (enters (shard c) entry m) c ≡ new.history
  now_history c old new entry there more =
      let shown = history_shown weave.shards weave.chains m.made m.histories m.lists is.shown (shard c) old there in
      got (slice_set m.histories (shard c) (history_for rules m c ++ entry ∷ [])) (shard c) (history_for rules m c ++ entry ∷ []) []
      (get_set_same m.histories (shard c) old.history (history_for rules m c ++ entry ∷ []) shown)
      ∙ ap (λ (h : List Entry). h ++ entry ∷ []) (was_history c old there)
      ∙ sym more

  of_setup : (c : Colour) (old : ShardState S P) → slice_get weave.shards (shard c) ≡ Some old → old.setup ≡ weave.setup
  of_setup c old there = (well.shard (shard c) old there).of_setup

  shard_line : (b : SideState S P) (c : Colour) (Does : ShardState S P → ShardState S P → Type 0) (called : AtShard a b c Does) (entry : Entry) → called.new.history ≡ called.old.history ++ entry ∷ []
      → (v : WorkerState S P) (d : Doing) → d ≡ worker_doing v → v.halted ≡ false → Follows b v (turns_to k d (enters (shard c) entry m))
  shard_line b c Does called entry more v d e not_halted = record {
    setup = ap (λ (s : SideState S P). s.setup) called.becomes;
    shown = subst (λ (s : SideState S P). IsShown s.shards s.chains (m.made + 1) (slice_set m.histories (shard c) (history_for rules m c ++ entry ∷ [])) m.lists) (sym called.becomes)
        (shown_entry weave.shards weave.chains m.made m.histories m.lists is.shown (shard c) called.old called.new entry called.was more);
    workers = ap (slice_set m.workers k) e;
    made = refl;
    going = not_halted;
  }

  -- an event is registered
  pub register_line : (b : SideState S P) (turn : TurnState S P) (rest : List (Colour × Event × Option P)) (put : Colour × Event × Option P) (reply : Registered) → AtShard a b put.0 (RegisterAs put.0 put.1 put.2 k (Ok reply))
      → Follows b (after_register w turn rest put (Ok reply)) (step_register rules k m turn.colour turn.count (events_of turn.events) (without_load put) (without_loads rest))
  register_line b turn rest put reply called =
      let c : Colour = put.0 in
      let entry : Entry = Reg c put.1 k in
      let more = called.does.0.after.history in
      let setup_is = of_setup c called.old called.was in
      let hand : delivery_by rules (history_for rules m c) (history_for rules (enters (shard c) entry m) c) c ≡ delivery_after c reply =
      (λ i. delivery_by rules (was_history c called.old called.was i) (now_history c called.old called.new entry called.was more i) c)
      ∙ delivery_is weave.setup called.old.history called.new.history c reply (subst (λ (s : Setup). RegisteredAs s called.old.history called.new.history c reply) setup_is called.does.1) in
      shard_line b c (RegisterAs c put.1 put.2 k (Ok reply)) called entry more (after_register w turn rest put (Ok reply))
      (Turning turn.colour turn.count (events_of turn.events) (delivery_by rules (history_for rules m c) (history_for rules (enters (shard c) entry m) c) c) (without_loads rest))
      (ap (λ (h : Delivery). Turning turn.colour turn.count (events_of turn.events) h (without_loads rest)) hand) going

  -- the turn ends
  rest_is : (history : List Entry) (c : Colour) (answer : After) → AfterAs weave.setup history c answer → (queued : List Event) → queued_of history c ≡ queued → doing_after rules k history c queued ≡ worker_doing (after_finish w c answer)
  rest_is history c (More started worth) said [] none = absurd (let some = said.0 in omega (arith, some, ap length none))
  rest_is history c (More started worth) said (event ∷ queued) some = λ i. Pushing (sym (own t fits weave well k w here low) i) (record { colour = c; started = sym said.1 i; worth = sym said.2 i })
  rest_is history c Idle said [] none = refl
  rest_is history c Idle said (event ∷ queued) some = let e : event ∷ queued ≡ [] = sym some ∙ said in cc

  pub finish_line : (b : SideState S P) (turn : TurnState S P) (answer : After) → turn.core ≡ k → AtShard a b turn.colour (FinishAs turn answer) → Follows b (after_finish w turn.colour answer) (step_finish rules k m turn.colour turn.count)
  finish_line b turn answer on_own called =
      let c : Colour = turn.colour in
      let entry : Entry = Fin c k turn.count in
      let more : called.new.history ≡ called.old.history ++ entry ∷ [] = called.does.0.after.history ∙ ap (λ (core : ℕ). called.old.history ++ Fin c core turn.count ∷ []) on_own in
      let now = now_history c called.old called.new entry called.was more in
      let d : Doing = doing_after rules k (history_for rules (enters (shard c) entry m) c) c (queued_of (history_for rules (enters (shard c) entry m) c) c) in
      let d_is : d ≡ worker_doing (after_finish w c answer) =
      ap (λ (h : List Entry). doing_after rules k h c (queued_of h c)) now
      ∙ rest_is called.new.history c answer (subst (λ (s : Setup). AfterAs s called.new.history c answer) (of_setup c called.old called.was) called.does.2) (queued_of called.new.history c) refl in
      by_answer answer d d_is (shard_line b c (FinishAs turn answer) called entry more)
    where
      by_answer : (is_answer : After) (d : Doing) → d ≡ worker_doing (after_finish w turn.colour is_answer)
          → ((v : WorkerState S P) (e : Doing) → e ≡ worker_doing v → v.halted ≡ false → Follows b v (turns_to k e (enters (shard turn.colour) (Fin turn.colour k turn.count) m)))
          → Follows b (after_finish w turn.colour is_answer) (turns_to k d (enters (shard turn.colour) (Fin turn.colour k turn.count) m))
      by_answer (More started worth) d e line = line (after_finish w turn.colour (More started worth)) d e going
      by_answer Idle d e line = line (after_finish w turn.colour Idle) d e going

  -- a popped mark's colour is taken
  pub take_line : (b : SideState S P) (mark : Mark) (turn : TurnState S P) → IsColour weave.setup mark.colour → AtShard a b mark.colour (TakeAs mark.colour k (Ok turn))
      → Follows b (after_take w mark (Ok turn)) (step_take rules k m mark.colour (queued_of (history_for rules m mark.colour) mark.colour))
  take_line b mark turn in_setup called =
      let c : Colour = mark.colour in
      let takes = called.does in
      let lane_is = (well.shard (shard c) called.old called.was).kept.each c takes.before (shard_owns t fits a (stands t fits weave well k w here low) c called.old in_setup called.was) takes.was in
      let count : min rules.shape.batch (length (queued_of called.old.history c)) ≡ turn.count = sym (takes.allowed.whole_batch ∙ ap (λ (s : Setup). min (shape_of s).batch (length (queued_of called.old.history c))) (of_setup c called.old called.was)) in
      let events : events_of turn.events ≡ take turn.count (queued_of called.old.history c) =
      ap (λ (u : TurnState S P). events_of u.events) takes.made ∙ map_take (λ (e : Event × Option P). e.0) turn.count takes.before.events ∙ ap (take turn.count) lane_is.events in
      let colour : turn.colour ≡ c = ap (λ (u : TurnState S P). u.colour) takes.made in
      subst (λ (queued : List Event). Follows b (after_take w mark (Ok turn)) (step_take rules k m c queued)) (ap (λ (h : List Entry). queued_of h c) (sym (was_history c called.old called.was)))
      (subst (λ (n : ℕ). Follows b (after_take w mark (Ok turn)) (turns_to k (Turning c n (take n (queued_of called.old.history c)) Nothing []) (enters (shard c) (Take c k n) m))) (sym count)
      (shard_line b c (TakeAs c k (Ok turn)) called (Take c k turn.count) takes.after.history (after_take w mark (Ok turn))
      (Turning c turn.count (take turn.count (queued_of called.old.history c)) Nothing [])
      (λ i. Turning (sym colour i) turn.count (sym events i) Nothing []) going))

  -- a picked mark's colour is stolen
  pub steal_line : (b : SideState S P) (mark : Mark) (victim : ℕ) (stolen : Stolen) → AtShard a b mark.colour (StealAs mark.colour k (Ok stolen)) → Follows b (after_steal w mark victim (Ok stolen)) (step_steal rules k m mark.colour)
  steal_line b mark victim stolen called =
      let c : Colour = mark.colour in
      let from : owner_by rules (history_for rules m c) c ≡ stolen.from =
      ap (λ (h : List Entry). owner_by rules h c) (was_history c called.old called.was)
      ∙ ap (λ (s : Setup). owner_of s called.old.history c) (sym (of_setup c called.old called.was))
      ∙ sym called.does.allowed.from_owner in
      let entry : Entry = Steal c (owner_by rules (history_for rules m c) c) k in
      let more : called.new.history ≡ called.old.history ++ entry ∷ [] = called.does.history ∙ ap (λ (core : ℕ). called.old.history ++ Steal c core k ∷ []) (sym from) in
      let now = now_history c called.old called.new entry called.was more in
      let new_setup : called.new.setup ≡ weave.setup = called.does.same_setup ∙ of_setup c called.old called.was in
      shard_line b c (StealAs c k (Ok stolen)) called entry more (after_steal w mark victim (Ok stolen))
      (Landing (mark_by rules (history_for rules (enters (shard c) entry m) c) c))
      (ap (λ (h : List Entry). Landing (mark_by rules h c)) now
      ∙ (λ i. Landing (record { colour = c; started = sym called.does.started i; worth = (ap (λ (s : Setup). worth_of s called.new.history c) (sym new_setup) ∙ sym called.does.worth) i }))) going
