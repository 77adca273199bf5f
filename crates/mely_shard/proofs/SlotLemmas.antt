-- What the slots of a shard keep when one of them changes.
use Rattle.std.proofs.Common.{◌≡◌, ℕ, ◌+◌, ◌*◌, ◌/◌, ◌%◌, ◌<◌, ◌≤◌, List, [], ◌∷◌, ◌++◌, Option, Some, None, length, map, drop, get_or, sym, ◌∙◌, ap, subst, arith, ⊎_elim, get_or-set_same, get_or-set_other, ◌⊎◌, inl, inr}
use Rattle.std.proofs.Math.ListN.{set, length-set}
use Rattle.std.specs.List.{AllByRecursion, count_by}
use Rattle.std.proofs.lemmas.Bool.{cases_lt}
use Rattle.std.proofs.lemmas.List.{map-append, length-append, drop-append-le, take-append-le, get_or_default}
use Rattle.std.proofs.Math.Nat.{mul-div_cancel, mul-add-mod_self_right, mod-eq_of_lt}
use Rattle.mely_event.specs.declared.colour.Colour.{Colour}
use Rattle.mely_event.specs.declared.event.Event.{Event}
use Rattle.mely_event.specs.declared.trail.Trail.{Ghosts as TrailWords}
use Rattle.mely_history.specs.Setup.{shape_of, is_listed}
use Rattle.mely_history.specs.declared.setup.Setup.{Setup}
use Rattle.mely_history.specs.declared.entry.Entry.{Entry}
use Rattle.mely_history.specs.declared.entry.Entry.TheVariants.{Reg}
use Rattle.mely_history.specs.History.{weight}
use Rattle.mely_history.specs.Legal.{IsAllowed}
use Rattle.mely_history.proofs.LegalLemmas.{legal-append}
use Rattle.mely_queue.specs.ColourQueue.{after_push}
use Rattle.mely_shard.specs.declared.colour_slot.ColourSlot.{ColourSlot}
use Rattle.mely_history.specs.ColourAccount.{ColourAccount, account_of, next_account}
use Rattle.mely_history.specs.Entries.{colour_of}
use Rattle.mely_shard.specs.Invariant.{HasRoom, IsConsistentShard, SlotStands, StateStands, is_away}
use Rattle.mely_shard.specs.Shard.{colour_at}
use Rattle.mely_history.specs.Kept.{limit_of}
use Rattle.mely_history.proofs.ColourAccountLemmas.{account-own, account-other}

-- a place is the other, or not
pub same_or_not : (i j : ℕ) → (i ≡ j) ⊎ (i ≡ j → ⊥)
same_or_not i j = ⊎_elim (λ (less : i < j). inr (λ e. omega arith)) (λ (more : j ≤ i). ⊎_elim (λ (less : j < i). inr (λ e. omega arith)) (λ (le : i ≤ j). inl (omega arith)) (cases_lt j i)) (cases_lt i j)

-- the colours of two places differ
colours_differ : (setup : Setup) (shard i j : ℕ) → (i ≡ j → ⊥) → (colour_at setup shard i).0 ≡ (colour_at setup shard j).0 → ⊥
colours_differ setup shard i j ne e =
    let g = (shape_of setup).shards in
    let positive : 0 < g = omega (arith, setup.shards_in.0) in
    let products : i * g ≡ j * g = omega arith in
    ne (sym (mul-div_cancel i positive) ∙ ap (λ n. n / g) products ∙ mul-div_cancel j positive)

-- the number of the shard, from the colour of a place
pub shard_of_colour_at : (setup : Setup) (shard i : ℕ) → shard < (shape_of setup).shards → (colour_at setup shard i).0 % (shape_of setup).shards ≡ shard
shard_of_colour_at setup shard i lt = mul-add-mod_self_right i (shape_of setup).shards shard ∙ mod-eq_of_lt lt

-- the room serves as many slots where one of them changes
pub has_room_set : {S P : Type 0} (states states_room queues queues_room : ℕ) (slots : List (ColourSlot S P)) (i : ℕ) (slot : ColourSlot S P) → HasRoom states states_room queues queues_room (length slots) → HasRoom states states_room queues queues_room (length (set slots i slot))
has_room_set states states_room queues queues_room slots i slot room = subst (HasRoom states states_room queues queues_room) (sym (length-set slots i slot)) room

all_by_recursion-append : {X : Type 0} (P : X → Type 0) (xs : List X) (x : X) → AllByRecursion P xs → P x → AllByRecursion P (xs ++ x ∷ [])
all_by_recursion-append P [] x all p = (p, tt)
all_by_recursion-append P (y ∷ ys) x all p = (all.0, all_by_recursion-append P ys x all.1 p)

-- the frame at each place stays
pub same_frame_at : {S P F : Type 0} (frame_of : S → F) (slots : List (ColourSlot S P)) (i : ℕ) (slot : ColourSlot S P) → i < length slots → frame_of slot.given.value ≡ frame_of (get_or slots i slot).given.value → (j : ℕ) (d : ColourSlot S P) → frame_of (get_or (set slots i slot) j d).given.value ≡ frame_of (get_or slots j d).given.value
same_frame_at frame_of slots i slot there same j d = ⊎_elim
    (λ (e : j ≡ i). subst (λ k. frame_of (get_or (set slots i slot) k d).given.value ≡ frame_of (get_or slots k d).given.value) (sym e)
    (ap (λ b. frame_of b.given.value) (get_or-set_same slots i slot d there) ∙ same ∙ ap (λ b. frame_of b.given.value) (get_or_default slots i slot d there)))
    (λ (ne : j ≡ i → ⊥). ap (λ b. frame_of b.given.value) (get_or-set_other slots i j slot d ne))
    (same_or_not j i)

-- where a state stands after a registration
state_registered : {S F : Type 0} (t : TrailWords S F) (c : Colour) (given : S) (s : ColourAccount) (event : Event) (by core count : ℕ) → s.begun ≤ length s.registered → (home : Option S)
    → StateStands t c given s core count home → StateStands t c given (next_account s (Reg c event by)) core count home
state_registered t c given s event by core count le None stands = stands
state_registered t c given s event by core count le (Some state) stands = (stands.0, stands.1 ∙ sym (take-append-le s.ended s.registered (event ∷ []) (omega arith)), stands.2, stands.3)

module _ {S P F : Type 0} {t : TrailWords S F} {fits : F → Colour → Event → Option P → Type 0} {setup : Setup} where
  -- one entry more, and the slot of its colour changed to one that has what the history then says
  pub kept_after : {shard : ℕ} {history : List Entry} {slots : List (ColourSlot S P)} {running capacity : ℕ} (entry : Entry) (i : ℕ) (slot : ColourSlot S P) (running' capacity' : ℕ)
      → IsConsistentShard t fits setup shard history slots running capacity
      → i < length slots → (colour_of entry).0 ≡ (colour_at setup shard i).0 → IsAllowed setup history entry
      → SlotStands t fits setup (colour_at setup shard i) (next_account (account_of setup history (colour_at setup shard i)) entry) slot
      → t.frame_of slot.given.value ≡ t.frame_of (get_or slots i slot).given.value
      → running' ≡ count_by is_away (set slots i slot)
      → length history + 1 + running' ≤ capacity' → capacity' ≤ limit_of (is_listed setup)
      → IsConsistentShard t fits setup shard (history ++ entry ∷ []) (set slots i slot) running' capacity'
  kept_after {shard} {history} {slots} entry i slot running' capacity' kept there is may stands same_frame counted room limited = record {
    legal = legal-append setup history entry kept.legal may;
    numbered = kept.numbered;
    whole = λ c lt of. rw length-set (kept.whole c lt of);
    only = λ j lt. kept.only j (subst (λ n. j < n) (length-set slots i slot) lt);
    each = λ j d lt. ⊎_elim
        (λ (e : j ≡ i).
        subst (λ k. SlotStands t fits setup (colour_at setup shard k) (account_of setup (history ++ entry ∷ []) (colour_at setup shard k)) (get_or (set slots i slot) k d)) (sym e)
        (rw (account-own setup history entry (colour_at setup shard i) is, get_or-set_same slots i slot d there) stands))
        (λ (ne : j ≡ i → ⊥).
        rw (account-other setup history entry (colour_at setup shard j) (λ e. colours_differ setup shard i j (λ ij. ne (sym ij)) (sym is ∙ e)), get_or-set_other slots i j slot d ne)
        (kept.each j d (subst (λ n. j < n) (length-set slots i slot) lt)))
        (same_or_not j i);
    own = all_by_recursion-append _ history entry kept.own (ap (λ n. n % (shape_of setup).shards) is ∙ shard_of_colour_at setup shard i kept.numbered);
    frames = λ j k d lj lk.
        let lj' : j < length slots = subst (λ n. j < n) (length-set slots i slot) lj in
        let lk' : k < length slots = subst (λ n. k < n) (length-set slots i slot) lk in
        same_frame_at t.frame_of slots i slot there same_frame j d ∙ kept.frames j k d lj' lk' ∙ sym (same_frame_at t.frame_of slots i slot there same_frame k d);
    counted = counted;
    room = simp length-append (omega arith);
    limited = limited;
  }

  -- a slot after a registration
  pub stands_registered : (c : Colour) (s : ColourAccount) (slot : ColourSlot S P) (event : Event) (load : Option P) (by : ℕ)
      → SlotStands t fits setup c s slot → fits (t.frame_of slot.given.value) c event load
      → SlotStands t fits setup c (next_account s (Reg c event by)) (record slot { queue = after_push slot.queue event load (weight setup event) })
  stands_registered c s slot event load by stands fit = record {
    events = map-append (λ e. e.0) slot.queue.events ((event, load) ∷ []) ∙ ap (λ es. es ++ event ∷ []) stands.events ∙ sym (drop-append-le s.begun s.registered (event ∷ []) stands.begun);
    weights = ap (λ ws. ws ++ weight setup event ∷ []) stands.weights ∙ sym (map-append (weight setup) (drop s.begun s.registered) (event ∷ [])) ∙ ap (map (weight setup)) (sym (drop-append-le s.begun s.registered (event ∷ []) stands.begun));
    started = stands.started;
    finished = stands.finished;
    begun = simp length-append (omega (arith, stands.begun));
    owner = stands.owner;
    fit = all_by_recursion-append _ slot.queue.events (event, load) stands.fit fit;
    state = state_registered t c slot.given.value s event by slot.core slot.count stands.begun slot.home stands.state;
  }
