-- What a steal keeps, and why it is refused.
use Rattle.std.proofs.Common.{◌≡◌, ℕ, ◌+◌, ◌/◌, ◌%◌, ◌<◌, ◌≤◌, List, [], ◌∷◌, ◌++◌, Option, Some, None, Bool, true, false, length, sum, get_or, refl, sym, ◌∙◌, ap, subst, arith, nat_lt}
use Rattle.std.proofs.lemmas.Bool.{eqb-true, eqb-false}
use Rattle.std.proofs.lemmas.Bool.Decides.{nat_tests}
use Rattle.std.proofs.lemmas.List.Sums.{sum-map}
use Rattle.std.proofs.Math.ListN.{set}
use Rattle.std.proofs.lemmas.List.{length-map, length-drop, get_or_default}
use Rattle.mely_event.specs.declared.colour.Colour.{Colour}
use Rattle.mely_event.specs.declared.event.Event.{Event}
use Rattle.mely_event.specs.declared.trail.Trail.{Ghosts as TrailWords}
use Rattle.mely_history.specs.Setup.{shape_of, colours_of, pinned_of, is_listed}
use Rattle.mely_history.specs.declared.setup.Setup.{Setup}
use Rattle.mely_history.specs.declared.entry.Entry.{Entry}
use Rattle.mely_history.specs.declared.entry.Entry.TheVariants.{Steal}
use Rattle.mely_history.specs.History.{registered_of, queued_of, begun_of, owner_of, worth_of, weight}
use Rattle.mely_history.specs.Legal.{MaySteal, IsReady}
use Rattle.mely_history.specs.declared.no_steal.NoSteal.{NoSteal}
use Rattle.mely_history.specs.declared.no_steal.NoSteal.TheVariants as steals
use Rattle.mely_history.specs.declared.no_steal.NoSteal.TheVariants.{Own, Cheap}
use Rattle.std.proofs.Common.{◌==◌}
use Rattle.std.specs.Prelude.{is_none, if◌then◌else◌}
use Rattle.std.proofs.lemmas.List.{nil_from_length}
use Rattle.mely_queue.specs.ColourQueue.{registered_in}
use Rattle.mely_shard.specs.declared.colour_slot.ColourSlot.{ColourSlot}
use Rattle.mely_shard.specs.Shard.{NoStealAs}
use Rattle.mely_history.specs.ColourAccount.{account_of, next_account}
use Rattle.mely_shard.specs.Invariant.{IsConsistentShard, SlotStands, StateStands}
use Rattle.mely_shard.specs.Shard.{colour_at}
use Rattle.mely_history.specs.Kept.{limit_of}
use Rattle.mely_shard.specs.Replies.{no_steal_of}
use Rattle.mely_shard.proofs.SlotLemmas.{kept_after}
use Rattle.mely_shard.proofs.RegisterLemmas.{colour_at-place, slot_there, same_count}

module _ {S P F : Type 0} {t : TrailWords S F} {fits : F → Colour → Event → Option P → Type 0} {setup : Setup} {shard : ℕ} {history : List Entry} {slots : List (ColourSlot S P)} {running capacity : ℕ} (kept : IsConsistentShard t fits setup shard history slots running capacity) where
  -- what a refusal says, and what is known where there is none
  abbrev pub Refuses : Colour → ℕ → Option NoSteal → Type 0
  Refuses c to (Some refusal) = NoStealAs setup history c to refusal
  Refuses c to None = (to ≡ owner_of setup history c → ⊥) × IsReady history c × ((shape_of setup).steal_cost < worth_of setup history c)

  refuse : (c : Colour) → pinned_of setup ≤ c.0 → (to : ℕ) (given : S) (own k n many worth : ℕ) → own ≡ owner_of setup history c → many ≡ length (queued_of history c) → (m : ℕ) → m ≡ length (registered_of history c) → worth ≡ worth_of setup history c
      → (b : Bool) → (to == own) ≡ b → (home : Option S) → StateStands t c given (account_of setup history c) k n home → (t : Bool) → nat_lt 0 many ≡ t → (w : Bool) → nat_lt (shape_of setup).steal_cost worth ≡ w
      → Refuses c to (if b then Some Own else if is_none home then Some (steals.Busy k) else if t then if w then None else Some (Cheap worth) else Some (steals.Empty m))
  refuse c free to given own k n many worth own_is many_is m m_is worth_is true b_is home stands t t_is w w_is = (free, eqb-true to own b_is ∙ own_is)
  refuse c free to given own k n many worth own_is many_is m m_is worth_is false b_is None stands t t_is w w_is = (free, (λ e. eqb-false to own b_is (e ∙ sym own_is)), omega (arith, stands.1, stands.2), (n, stands.0))
  refuse c free to given own k n many worth own_is many_is m m_is worth_is false b_is (Some state) stands false t_is w w_is = (free, (λ e. eqb-false to own b_is (e ∙ sym own_is)), stands.0, nil_from_length (queued_of history c) (grind (arith, nat_tests)), m_is)
  refuse c free to given own k n many worth own_is many_is m m_is worth_is false b_is (Some state) stands true t_is true w_is = ((λ e. eqb-false to own b_is (e ∙ sym own_is)), record { at_rest = stands.0; waiting = grind (arith, nat_tests) }, subst (λ x. (shape_of setup).steal_cost < x) worth_is (grind (arith, nat_tests)))
  refuse c free to given own k n many worth own_is many_is m m_is worth_is false b_is (Some state) stands true t_is false w_is = (free, (λ e. eqb-false to own b_is (e ∙ sym own_is)), record { at_rest = stands.0; waiting = grind (arith, nat_tests) }, worth_is, grind (arith, nat_tests))

  pub slot_refuses : (c : Colour) → pinned_of setup ≤ c.0 → (to cost : ℕ) (slot : ColourSlot S P) → SlotStands t fits setup c (account_of setup history c) slot → cost ≡ (shape_of setup).steal_cost → Refuses c to (no_steal_of slot to cost)
  slot_refuses c free to cost slot old cost_is =
      let many : length slot.queue.events ≡ length (queued_of history c) = sym (length-map slot.queue.events (λ e. e.0)) ∙ ap length old.events in
      let all : registered_in slot.queue ≡ length (registered_of history c) = omega (arith, many, old.started, old.begun, length-drop (begun_of history c) (registered_of history c)) in
      let worth : sum slot.queue.weights ≡ worth_of setup history c = ap sum old.weights ∙ sum-map (weight setup) (queued_of history c) in
      subst (λ k. Refuses c to (no_steal_of slot to k)) (sym cost_is) (refuse c free to slot.given.value slot.owner slot.core slot.count (length slot.queue.events) (sum slot.queue.weights) old.owner many (registered_in slot.queue) all worth (to == slot.owner) refl slot.home old.state (nat_lt 0 (length slot.queue.events)) refl (nat_lt (shape_of setup).steal_cost (sum slot.queue.weights)) refl)

  -- a steal keeps what the fields keep
  pub kept_stolen : (c : Colour) → pinned_of setup ≤ c.0 → (to capacity' : ℕ) (slot : ColourSlot S P) → c.0 < colours_of setup → c.0 % (shape_of setup).shards ≡ shard → slot ≡ get_or slots (c.0 / (shape_of setup).shards) slot
      → to < (shape_of setup).cores → Refuses c to None → length history + 1 + running ≤ capacity' → capacity' ≤ limit_of (is_listed setup)
      → MaySteal setup history c slot.owner to × IsConsistentShard t fits setup shard (history ++ Steal c slot.owner to ∷ []) (set slots (c.0 / (shape_of setup).shards) (record slot { owner = to })) running capacity'
  kept_stolen c free to capacity' slot there here is core ready room limited =
      let i = c.0 / (shape_of setup).shards in
      let place : i < length slots = kept.whole c.0 there here in
      let after : ColourSlot S P = record slot { owner = to } in
      let at : colour_at setup shard i ≡ c = colour_at-place setup shard c here in
      let old = slot_there kept c slot there here is in
      let may : MaySteal setup history c slot.owner to = record { not_pinned = free; from_owner = old.owner; other = λ e. ready.0 (e ∙ old.owner); core = core; ready = ready.1; worthy = ready.2 } in
      let stands : SlotStands t fits setup c (next_account (account_of setup history c) (Steal c slot.owner to)) after = record {
        events = old.events;
        weights = old.weights;
        started = old.started;
        finished = old.finished;
        begun = old.begun;
        owner = refl;
        fit = old.fit;
        state = state_stolen c slot.given.value slot.owner to slot.core slot.count slot.home old.state;
      } in (
        may,
        kept_after (Steal c slot.owner to) i after running capacity' kept place (sym (ap (λ k. k.0) at)) may
            (subst (λ k. SlotStands t fits setup k (next_account (account_of setup history k) (Steal c slot.owner to)) after) (sym at) stands)
            (ap (λ b. t.frame_of b.given.value) is ∙ ap (λ b. t.frame_of b.given.value) (get_or_default slots i slot after place))
            (kept.counted ∙ sym (same_count kept slots i slot after place is refl))
            room limited,
      )
    where
      state_stolen : (c : Colour) (given : S) (from to core count : ℕ) (home : Option S) → StateStands t c given (account_of setup history c) core count home → StateStands t c given (next_account (account_of setup history c) (Steal c from to)) core count home
      state_stolen c given from to core count None stands = stands
      state_stolen c given from to core count (Some state) stands = stands
