-- A weave at first, and after a post, is the machine.
use Rattle.std.proofs.Common.{◌≡◌, ◌+◌, ℕ, Bool, List, [], ◌∷◌, ◌++◌, Option, Some, Ok, map, replicate, refl, sym, ap, subst, ◌∙◌}
use Rattle.std.specs.Prelude.{slice_get, slice_set}
use Rattle.std.proofs.lemmas.List.{length-replicate}
use Rattle.mely_event.specs.declared.colour.Colour.{Colour}
use Rattle.mely_event.specs.declared.event.Event.{Event}
use Rattle.mely_event.specs.declared.trail.Trail.{Ghosts as TrailWords}
use Rattle.mely_history.specs.declared.setup.Setup.{Setup}
use Rattle.mely_history.specs.declared.entry.Entry.{Entry}
use Rattle.mely_history.specs.declared.entry.Entry.TheVariants.{Reg}
use Rattle.mely_history.specs.declared.registered.Registered.{Registered}
use Rattle.mely_history.specs.Setup.{shape_of}
use Rattle.mely_shard.specs.Shard.{ShardState, RegisteredAs}
use Rattle.mely_core.specs.CoreQueue.{CoreQueueState}
use Rattle.mely_worker.specs.declared.delivery.Delivery.{Delivery}
use Rattle.mely_worker.specs.declared.delivery.Delivery.TheVariants.{Nothing, PushMark, Report}
use Rattle.mely_worker.specs.Delivery.{delivery_after, Delivers}
use Rattle.mely_worker.specs.Worker.{WorkerState}
use Rattle.mely_weave.specs.Side.{SideState, shard_of}
use Rattle.mely_weave.specs.Calls.{AtShard, AtChain, RegisterAs, PushAs, RetellAs, weave_words}
use Rattle.mely_weave.specs.StandsWell.{side_of, StandsWell}
use Rattle.mely_weave.specs.Weave.{WeaveState}
use Rattle.mely_weave.specs.Steps.{PostsAt, with_workers}
use Rattle.mely_weave.specs.Making.{IsInitialWeave}
use Rattle.mely_weave.proofs.Entries.SideLemmas.{get_set_same}
use Rattle.mely_machine.specs.Rules.{Rules, rules_of}
use Rattle.mely_machine.specs.Listing.{Listed, hears}
use Rattle.mely_machine.specs.Machine.{Free, Machine, list_at, enters}
use Rattle.mely_machine.specs.MachineStep.{history_for, delivery_by}
use Rattle.mely_machine.specs.MachineRun.{initial_machine, delivers, post}
use Rattle.mely_run.specs.Corresponds.{worker_doing, IsListed, IsShown, Corresponds}
use Rattle.mely_run.proofs.Lists.ElementsLemmas.{got, all_one, of_one}
use Rattle.mely_run.proofs.Lines.ShownLemmas.{history_shown, list_is, shown_later, shown_entry, shown_list}
use Rattle.mely_run.proofs.Lines.DeliveriesLemmas.{delivery_is, push_listed, report_listed}

-- a weave at first
pub first_corresponds : {S P F X : Type 0} (t : TrailWords S F) (fits : F → Colour → Event → Option P → Type 0) (setup : Setup) (states : List S) (weave : WeaveState S P) (app : X) → IsInitialWeave setup states weave → StandsWell t fits weave
    → Corresponds weave (initial_machine (rules_of weave.setup) app)
first_corresponds {S = S} {P = P} t fits setup states weave app first well = record {
  shown = record {
    entered = sym (all_one (λ (h : ShardState S P). h.history) [] weave.shards first.no_entry ∙ ap (λ (n : ℕ). replicate n []) well.shards);
    many = length-replicate (shape_of weave.setup).cores [] ∙ sym well.chains;
    each = λ core queue list at in_lists. subst (λ (l : List Listed). IsListed 0 queue l) (sym (of_one (shape_of weave.setup).cores [] core list in_lists))
        (subst (λ (q : CoreQueueState). IsListed 0 q []) (sym (first.chain core queue at)) (record { since = λ n. 0; marks = refl; increases = tt; past = tt }));
  };
  workers = sym (all_one worker_doing (Free 0) weave.workers (λ core w there. ap worker_doing (first.worker core w there)) ∙ ap (λ (n : ℕ). replicate n (Free 0)) well.workers);
  going = λ core w there. ap (λ (v : WorkerState S P). v.halted) (first.worker core w there);
}

module _ {S P F X : Type 0} (t : TrailWords S F) (fits : F → Colour → Event → Option P → Type 0) (weave : WeaveState S P) (well : StandsWell t fits weave) (m : Machine X) (is : Corresponds weave m) (c : Colour) (event : Event) (load : Option P) where
  abbrev rules : Rules
  rules = rules_of weave.setup

  abbrev entry : Entry
  entry = Reg c event (shape_of weave.setup).cores

  abbrev shard : ℕ
  shard = shard_of weave.setup c

  abbrev registered : Machine X
  registered = enters shard entry m

  -- after the post
  pub post_corresponds : (after : WeaveState S P) (reply : Registered) → PostsAt t weave c event load (Ok reply) after → Corresponds after (post rules c event m)
  unfolding post
  post_corresponds after reply posts =
      subst (λ (d : Delivery). Corresponds after (let next = delivers rules d registered in record next { made = next.made + 1 })) (sym hand)
      (subst (λ (l : WeaveState S P). Corresponds l (let next = delivers rules (delivery_after c reply) registered in record next { made = next.made + 1 })) (sym posts.leaves) (by_delivery (delivery_after c reply) posts.posts.2.0 posts.side posts.posts.2.1))
    where
      between : SideState S P
      between = posts.posts.0

      called : AtShard (side_of weave 0) between c (RegisterAs c event load (shape_of weave.setup).cores (Ok reply))
      called = posts.posts.1

      of_setup : called.old.setup ≡ weave.setup
      of_setup = (well.shard shard called.old called.was).of_setup

      more : called.new.history ≡ called.old.history ++ entry ∷ []
      more = called.does.0.after.history

      was : history_for rules m c ≡ called.old.history
      was = got m.histories shard called.old.history [] (history_shown weave.shards weave.chains m.made m.histories m.lists is.shown shard called.old called.was)

      now : history_for rules registered c ≡ called.new.history
      now =
          got (slice_set m.histories shard (history_for rules m c ++ entry ∷ [])) shard (history_for rules m c ++ entry ∷ []) []
          (get_set_same m.histories shard called.old.history (history_for rules m c ++ entry ∷ []) (history_shown weave.shards weave.chains m.made m.histories m.lists is.shown shard called.old called.was))
          ∙ ap (λ (h : List Entry). h ++ entry ∷ []) was ∙ sym more

      hand : delivery_by rules (history_for rules m c) (history_for rules registered c) c ≡ delivery_after c reply
      hand = (λ i. delivery_by rules (was i) (now i) c) ∙ delivery_is weave.setup called.old.history called.new.history c reply (subst (λ (s : Setup). RegisteredAs s called.old.history called.new.history c reply) of_setup called.does.1)

      shown : IsShown between.shards weave.chains m.made registered.histories m.lists
      shown = record {
        entered = (shown_entry weave.shards weave.chains m.made m.histories m.lists is.shown shard called.old called.new entry called.was more).entered
            ∙ ap (λ (s : SideState S P). map (λ (h : ShardState S P). h.history) s.shards) (sym called.becomes);
        many = is.shown.many;
        each = is.shown.each;
      }

      chains_stay : between.chains ≡ weave.chains
      chains_stay = ap (λ (s : SideState S P). s.chains) called.becomes

      by_chain : (side : SideState S P) (to : ℕ) (Does : CoreQueueState → CoreQueueState → Type 0) (at : AtChain between side to Does) (list : List Listed) → IsListed (m.made + 1) at.new list
          → Corresponds (with_workers side weave.workers) (record registered { lists = slice_set m.lists to list; made = m.made + 1 })
      by_chain side to Does at list is_new = record {
        shown = subst (λ (s : SideState S P). IsShown s.shards s.chains (m.made + 1) registered.histories (slice_set m.lists to list)) (sym at.becomes)
            (subst (λ (cs : List CoreQueueState). IsShown between.shards (slice_set cs to at.new) (m.made + 1) registered.histories (slice_set m.lists to list)) (sym chains_stay)
            (shown_list between.shards weave.chains m.made registered.histories m.lists shown to at.old at.new list (ap (λ (cs : List CoreQueueState). slice_get cs to) (sym chains_stay) ∙ at.was) is_new));
        workers = is.workers;
        going = is.going;
      }

      by_delivery : (d : Delivery) (arrived : Bool) (side : SideState S P) → Delivers (weave_words t) between d arrived side → Corresponds (with_workers side weave.workers) (let next = delivers rules d registered in record next { made = next.made + 1 })
      by_delivery (PushMark owner mark) arrived side pushed =
          let at = pushed.1.1 in
          let there : slice_get weave.chains owner ≡ Some at.old = ap (λ (cs : List CoreQueueState). slice_get cs owner) (sym chains_stay) ∙ at.was in
          by_chain side owner (PushAs mark (Ok tt)) at (list_at m owner ++ record { mark = mark; since = m.made } ∷ [])
          (push_listed m.made at.old at.new (well.chain owner at.old there).together (list_at m owner) (list_is weave.shards weave.chains m.made m.histories m.lists is.shown owner at.old there) mark at.does)
      by_delivery (Report owner colour started worth) arrived side at =
          let there : slice_get weave.chains owner ≡ Some at.old = ap (λ (cs : List CoreQueueState). slice_get cs owner) (sym chains_stay) ∙ at.was in
          by_chain side owner (RetellAs colour started worth arrived) at (map (hears rules.shape.steal_cost m.made colour started worth) (list_at m owner))
          (subst (λ (cost : ℕ). IsListed (m.made + 1) at.new (map (hears cost m.made colour started worth) (list_at m owner))) (well.chain owner at.old there).cost
          (report_listed m.made at.old at.new (well.chain owner at.old there).together (list_at m owner) (list_is weave.shards weave.chains m.made m.histories m.lists is.shown owner at.old there) colour started worth arrived at.does))
      by_delivery Nothing arrived side same = record {
        shown = subst (λ (s : SideState S P). IsShown s.shards s.chains (m.made + 1) registered.histories m.lists) (sym same.0)
            (subst (λ (cs : List CoreQueueState). IsShown between.shards cs (m.made + 1) registered.histories m.lists) (sym chains_stay)
            (shown_later between.shards weave.chains m.made registered.histories m.lists shown));
        workers = is.workers;
        going = is.going;
      }
