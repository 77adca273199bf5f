-- What the histories and the lists show, after each call.
use Rattle.std.proofs.Common.{◌≡◌, ◌+◌, ℕ, List, [], ◌∷◌, ◌++◌, Some, map, get_or, arith, sym, ap, subst, ◌∙◌, ⊎_elim}
use Rattle.std.specs.Prelude.{slice_get, slice_set, unwrap_or, option_map}
use Rattle.std.proofs.lemmas.Bool.{cases_eq}
use Rattle.std.proofs.lemmas.Option.{same_Some, slice_get-map, slice_get_within, slice_get-get_or}
use Rattle.std.proofs.lemmas.List.{length-set, map-set}
use Rattle.mely_history.specs.declared.entry.Entry.{Entry}
use Rattle.mely_shard.specs.Shard.{ShardState}
use Rattle.mely_core.specs.CoreQueue.{CoreQueueState}
use Rattle.mely_weave.proofs.Entries.SideLemmas.{get_set_same, get_set_other}
use Rattle.mely_machine.specs.Listing.{Listed}
use Rattle.mely_run.specs.Corresponds.{IsListed, IsShown}
use Rattle.mely_run.proofs.Lists.ElementsLemmas.{got}
use Rattle.mely_run.proofs.Lists.PushesLemmas.{later}

module _ {S P : Type 0} (shards : List (ShardState S P)) (chains : List CoreQueueState) (now : ℕ) (histories : List (List Entry)) (lists : List (List Listed)) (is : IsShown shards chains now histories lists) where
  -- the history of a shard
  pub history_shown : (g : ℕ) (has : ShardState S P) → slice_get shards g ≡ Some has → slice_get histories g ≡ Some has.history
  history_shown g has there = ap (λ (hs : List (List Entry)). slice_get hs g) is.entered ∙ slice_get-map (λ (h : ShardState S P). h.history) shards g ∙ ap (option_map (λ (h : ShardState S P). h.history)) there

  -- the list of a chain
  list_shown : (core : ℕ) (queue : CoreQueueState) → slice_get chains core ≡ Some queue → slice_get lists core ≡ Some (unwrap_or (slice_get lists core) [])
  list_shown core queue there =
      let low = slice_get_within chains core queue there in
      let many = is.many in
      let at : slice_get lists core ≡ Some (get_or lists core []) = slice_get-get_or lists core [] (omega (arith, low, many)) in
      at ∙ ap (λ (l : List Listed). Some l) (sym (got lists core (get_or lists core []) [] at))

  pub list_is : (core : ℕ) (queue : CoreQueueState) → slice_get chains core ≡ Some queue → IsListed now queue (unwrap_or (slice_get lists core) [])
  list_is core queue there = is.each core queue (unwrap_or (slice_get lists core) []) there (list_shown core queue there)

  pub shown_later : IsShown shards chains (now + 1) histories lists
  shown_later = record { entered = is.entered; many = is.many; each = λ core queue list at there. later now queue list (is.each core queue list at there) }

  -- an entry more
  pub shown_entry : (g : ℕ) (old new : ShardState S P) (entry : Entry) → slice_get shards g ≡ Some old → new.history ≡ old.history ++ entry ∷ []
      → IsShown (slice_set shards g new) chains (now + 1) (slice_set histories g (unwrap_or (slice_get histories g) [] ++ entry ∷ [])) lists
  shown_entry g old new entry there more = record {
    entered =
        (λ i. slice_set (is.entered i) g (got histories g old.history [] (history_shown g old there) i ++ entry ∷ []))
        ∙ ap (slice_set (map (λ (h : ShardState S P). h.history) shards) g) (sym more)
        ∙ sym (map-set (λ (h : ShardState S P). h.history) shards g new);
    many = is.many;
    each = λ core queue list at in_lists. later now queue list (is.each core queue list at in_lists);
  }

  -- a chain changes, and its list with it
  pub shown_list : (core : ℕ) (old new : CoreQueueState) (list : List Listed) → slice_get chains core ≡ Some old → IsListed (now + 1) new list → IsShown shards (slice_set chains core new) (now + 1) histories (slice_set lists core list)
  shown_list core old new list there is_new = record {
    entered = is.entered;
    many = length-set lists core list ∙ is.many ∙ sym (length-set chains core new);
    each = λ k queue l at in_lists. ⊎_elim
        (λ (same : k ≡ core).
        let queue_is : Some new ≡ Some queue = sym (get_set_same chains core old new there) ∙ ap (slice_get (slice_set chains core new)) (sym same) ∙ at in
        let list_now : Some list ≡ Some l = sym (get_set_same lists core (unwrap_or (slice_get lists core) []) list (list_shown core old there)) ∙ ap (slice_get (slice_set lists core list)) (sym same) ∙ in_lists in
        subst (λ (q : CoreQueueState). IsListed (now + 1) q l) (same_Some new queue queue_is) (subst (IsListed (now + 1) new) (same_Some list l list_now) is_new))
        (λ (apart : k ≡ core → ⊥).
        later now queue l (is.each k queue l (sym (get_set_other chains core k new apart) ∙ at) (sym (get_set_other lists core k list apart) ∙ in_lists)))
        (cases_eq k core);
  }
