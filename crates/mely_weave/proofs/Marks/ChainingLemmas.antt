-- One colour more is chained.
use Rattle.std.proofs.Common.{◌≡◌, ℕ, ◌+◌, ◌≤◌, ◌<◌, ◌%◌, true, false, List, [], ◌∷◌, ◌++◌, Option, Some, None, length, take, get_or, ap, sym, ◌∙◌, subst, arith, inl, inr, eq-eqb, length-drop}
use Rattle.std.proofs.lemmas.Bool.{cases_Bool, ne_eqb}
use Rattle.std.proofs.lemmas.List.{length-set}
use Rattle.std.proofs.lemmas.Option.{slice_get-get_or}
use Rattle.std.proofs.Math.Seq.{take-append_seam}
use Rattle.std.specs.Prelude.{◌==◌, ◌&&◌, slice_get, slice_set, IsSome}
use Rattle.mely_event.specs.declared.colour.Colour.{Colour}
use Rattle.mely_event.specs.declared.mark.Mark.{Mark}
use Rattle.mely_history.specs.declared.setup.Setup.{Setup}
use Rattle.mely_history.specs.declared.entry.Entry.{Entry}
use Rattle.mely_history.specs.Setup.{shape_of, colours_of}
use Rattle.mely_history.specs.ColourAccount.{account_of}
use Rattle.mely_history.proofs.LegalAccountLemmas.{owner_within}
use Rattle.mely_shard.specs.Shard.{ShardState, IsOwn, ReadyAs}
use Rattle.mely_steal.specs.Marks.{mark_of}
use Rattle.mely_steal.specs.StealQueue.{after_entry}
use Rattle.mely_core.specs.CoreQueue.{CoreQueueState}
use Rattle.mely_weave.specs.Side.{Readiness, shard_of, history_in, readiness_of, readiness_for}
use Rattle.mely_weave.specs.Gathering.{AreChained, IsOwnShard, is_ready_on, mark_for, marks_below, chain_of}
use Rattle.mely_weave.proofs.Entries.EntryLemmas.{is_ready, ready_rests, some_waits}
use Rattle.mely_weave.proofs.Marks.ReadyMarksLemmas.{numbered, marks_unready, chain_ready, none_below, never}
use Rattle.mely_weave.proofs.Lines.StepLemmas.{others_set}

module _ {S P : Type 0} (setup : Setup) (shards : List (ShardState S P)) (many : length shards ≡ (shape_of setup).shards) (own : (number : ℕ) (has : ShardState S P) → slice_get shards number ≡ Some has → IsOwnShard setup number has)
    (n place : ℕ) (has : ShardState S P) (placed : place ≡ shard_of setup (numbered n)) (is : has ≡ get_or shards place has) where
  -- the shard that was read is the colour's
  pub there : slice_get shards (shard_of setup (numbered n)) ≡ Some has
  there =
      let some : 1 ≤ (shape_of setup).shards = setup.shards_in.0 in
      let low : shard_of setup (numbered n) < length shards = omega (arith, some, many) in
      slice_get-get_or shards (shard_of setup (numbered n)) has low ∙ ap (λ v. Some v) (sym (is ∙ ap (λ k. get_or shards k has) placed))

  pub owns : n < colours_of setup → IsOwn has (numbered n)
  owns low =
      let mine = own (shard_of setup (numbered n)) has there in
      record {
        there = subst (λ (s : Setup). n < colours_of s) (sym mine.of_setup) low;
        here = ap (λ (s : Setup). n % (shape_of s).shards) mine.of_setup ∙ sym mine.numbered;
      }

  reads : readiness_for setup shards (numbered n) ≡ readiness_of setup (account_of setup has.history (numbered n))
  reads = ap (λ (h : List Entry). readiness_of setup (account_of setup h (numbered n))) (ap history_in there)

  -- what is told of a ready colour is what its mark goes by
  pub record IsTold (owner started worth : ℕ) : Type 0 where
    pub ready : (readiness_for setup shards (numbered n)).ready ≡ true
    pub owner_is : owner ≡ (readiness_for setup shards (numbered n)).owner
    pub mark_is : record { colour = numbered n; started = started; worth = worth } ≡ mark_for (readiness_for setup shards) (numbered n)
    pub core : owner < (shape_of setup).cores

  pub told : (owner started worth : ℕ) → ReadyAs has.setup has.history (numbered n) (Some (owner, started, worth)) → IsTold owner started worth
  told owner started worth says =
      let mine = own (shard_of setup (numbered n)) has there in
      let here : ReadyAs setup has.history (numbered n) (Some (owner, started, worth)) = subst (λ (s : Setup). ReadyAs s has.history (numbered n) (Some (owner, started, worth))) mine.of_setup says in
      record {
        ready = ap (λ (r : Readiness). r.ready) reads ∙ is_ready setup (account_of setup has.history (numbered n)) here.0.at_rest (some_waits (account_of setup has.history (numbered n)) here.0.waiting);
        owner_is = here.1 ∙ sym (ap (λ (r : Readiness). r.owner) reads);
        mark_is = λ i. record {
          colour = numbered n;
          started = (here.2 ∙ sym (ap (λ (r : Readiness). r.begun) reads)) i;
          worth = (here.3 ∙ sym (ap (λ (r : Readiness). r.worth) reads)) i;
        };
        core = subst (λ (k : ℕ). k < (shape_of setup).cores) (sym here.1) (owner_within setup has.history (numbered n) mine.legal);
      }

  pub none_told : ReadyAs has.setup has.history (numbered n) None → (readiness_for setup shards (numbered n)).ready ≡ false
  none_told says = elim (cases_Bool (readiness_of setup (account_of setup has.history (numbered n))).ready) [
    | inl ready ↦
        let rests = ready_rests setup (account_of setup has.history (numbered n)) ready in
        let waits = rests.1 in
        absurd (says (record { at_rest = rests.0; waiting = omega (arith, waits, length-drop (account_of setup has.history (numbered n)).begun (account_of setup has.history (numbered n)).registered) }))
    | inr unready ↦ ap (λ (r : Readiness). r.ready) reads ∙ unready
  ]

module _ (setup : Setup) (of : Colour → Readiness) (n : ℕ) (chains : List CoreQueueState) (chained : AreChained setup of n chains) where
  -- a colour that isn't ready changes nothing
  pub chained_unready : (of (numbered n)).ready ≡ false → AreChained setup of (n + 1) chains
  chained_unready unready = record {
    many = chained.many;
    each = λ core queue there. chained.each core queue there ∙ ap (chain_of setup) (sym (marks_unready of core n (ap (λ b. b && ((of (numbered n)).owner == core)) unready)));
  }

  -- the mark of a ready colour is pushed on the chain of its owner
  pub chained_ready : (owner : ℕ) (mark : Mark) (old new : CoreQueueState) → (of (numbered n)).ready ≡ true → owner ≡ (of (numbered n)).owner → mark ≡ mark_for of (numbered n) → slice_get chains owner ≡ Some old
      → new ≡ record old { chain = old.chain ++ mark ∷ []; worthy = after_entry old.cost old.pinned mark old.worthy } → AreChained setup of (n + 1) (slice_set chains owner new)
  chained_ready owner mark old new ready owner_is mark_is there becomes =
      let pushes : CoreQueueState → Mark → CoreQueueState = λ q m. record q { chain = q.chain ++ m ∷ []; worthy = after_entry q.cost q.pinned m q.worthy } in
      let mine : is_ready_on of owner (numbered n) ≡ true = ap (λ b. b && ((of (numbered n)).owner == owner)) ready ∙ eq-eqb (of (numbered n)).owner owner (sym owner_is) in
      record {
        many = length-set chains owner new ∙ chained.many;
        each = others_set (λ core queue. queue ≡ chain_of setup (marks_below of core (n + 1))) chains owner old new there
            (λ core queue apart at. chained.each core queue at ∙ ap (chain_of setup) (sym (marks_unready of core n (ap (λ b. (of (numbered n)).ready && b) (ne_eqb (of (numbered n)).owner core (λ e. apart (sym e ∙ sym owner_is))) ∙ never (of (numbered n)).ready))))
            (becomes ∙ ap (λ q. pushes q mark) (chained.each owner old there) ∙ ap (pushes (chain_of setup (marks_below of owner n))) mark_is ∙ chain_ready of owner n setup mine);
      }

  -- no mark of it was there
  pub none_there : (core : ℕ) (queue : CoreQueueState) → slice_get chains core ≡ Some queue → IsSome (mark_of (numbered n) queue.chain) → ⊥
  none_there core queue at some =
      let none : mark_of (numbered n) queue.chain ≡ None = ap (λ (q : CoreQueueState). mark_of (numbered n) q.chain) (chained.each core queue at) ∙ none_below of core n n (omega arith) in
      let nothing : IsSome {T = Mark} None = subst (λ (o : Option Mark). IsSome o) none some in
      cc

-- what is written over a whole list is all of it
pub whole : {A : Type 0} (n : ℕ) (new rest : List A) → length new ≡ n → take n (new ++ rest) ≡ new
whole n new rest many = ap (λ k. take k (new ++ rest)) (sym many) ∙ take-append_seam new rest
