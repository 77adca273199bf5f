-- What a take keeps, and why it is refused.
use Rattle.std.proofs.Common.{◌≡◌, ℕ, ◌+◌, ◌-◌, ◌/◌, ◌%◌, ◌<◌, ◌≤◌, List, [], ◌∷◌, ◌++◌, Option, Some, None, Bool, true, false, cond, suc, zero, length, map, take, drop, get_or, refl, sym, ◌∙◌, ap, subst, arith, nat_lt, eq-eqb}
use Rattle.std.proofs.lemmas.Bool.{eqb-true}
use Rattle.std.proofs.lemmas.List.{drop-map, drop-drop}
use Rattle.std.proofs.Math.Seq.{take-add}
use Rattle.std.proofs.lemmas.List.{take-map}
use Rattle.std.specs.List.{AllByRecursion}
use Rattle.std.proofs.lemmas.Bool.Decides.{nat_tests}
use Rattle.std.proofs.lemmas.List.Sums.{sum_by-set}
use Rattle.std.proofs.Math.ListN.{set}
use Rattle.std.specs.List.{count_by}
use Rattle.std.proofs.lemmas.List.{length-map, length-drop, get_or_default}
use Rattle.mely_event.specs.declared.colour.Colour.{Colour}
use Rattle.mely_event.specs.declared.event.Event.{Event}
use Rattle.mely_event.specs.declared.trail.Trail.{Ghosts as TrailWords}
use Rattle.mely_history.specs.Setup.{shape_of, colours_of, is_listed}
use Rattle.mely_history.specs.declared.setup.Setup.{Setup}
use Rattle.mely_history.specs.declared.entry.Entry.{Entry}
use Rattle.mely_history.specs.declared.entry.Entry.TheVariants.{Take}
use Rattle.mely_history.specs.History.{registered_of, queued_of, begun_of, ended_of, owner_of, weight}
use Rattle.mely_history.specs.Legal.{IsRunningOn, MayTake, IsReady}
use Rattle.mely_history.specs.declared.no_take.NoTake.{NoTake}
use Rattle.mely_history.specs.declared.no_take.NoTake.TheVariants.{Elsewhere, Busy, Empty}
use Rattle.std.specs.Prelude.{IsSomeAnd, min}
use Rattle.std.proofs.Common.{◌==◌}
use Rattle.std.specs.Prelude.{is_none, if◌then◌else◌}
use Rattle.std.proofs.lemmas.List.{nil_from_length}
use Rattle.mely_queue.specs.ColourQueue.{after_take, registered_in}
use Rattle.mely_shard.specs.declared.colour_slot.ColourSlot.{ColourSlot}
use Rattle.mely_shard.specs.Shard.{NoTakeAs}
use Rattle.mely_history.specs.ColourAccount.{ColourAccount, account_of, next_account}
use Rattle.mely_shard.specs.Invariant.{IsConsistentShard, SlotStands, StateStands, is_away}
use Rattle.mely_shard.specs.Shard.{colour_at}
use Rattle.mely_history.specs.Kept.{limit_of}
use Rattle.mely_shard.specs.Replies.{no_take_of}
use Rattle.mely_history.proofs.ColourAccountLemmas.{account-own}
use Rattle.mely_shard.proofs.SlotLemmas.{kept_after}
use Rattle.mely_shard.proofs.RegisterLemmas.{colour_at-place, slot_there}

all_by_recursion-drop : {X : Type 0} (P : X → Type 0) (n : ℕ) (xs : List X) → AllByRecursion P xs → AllByRecursion P (drop n xs)
all_by_recursion-drop P zero xs all = all
all_by_recursion-drop P (suc n) [] all = all
all_by_recursion-drop P (suc n) (x ∷ xs) all = all_by_recursion-drop P n xs all.1

pub all_by_recursion-take : {X : Type 0} (P : X → Type 0) (n : ℕ) (xs : List X) → AllByRecursion P xs → AllByRecursion P (take n xs)
all_by_recursion-take P zero xs all = tt
all_by_recursion-take P (suc n) [] all = all
all_by_recursion-take P (suc n) (x ∷ xs) all = (all.0, all_by_recursion-take P n xs all.1)

module _ {S P F : Type 0} {t : TrailWords S F} {fits : F → Colour → Event → Option P → Type 0} {setup : Setup} {shard : ℕ} {history : List Entry} {slots : List (ColourSlot S P)} {running capacity : ℕ} (kept : IsConsistentShard t fits setup shard history slots running capacity) where
  -- a state at home, as the history has it
  pub record IsHome (c : Colour) (given state : S) : Type 0 where
    pub trailed : t.trail_of state ≡ take (ended_of history c) (registered_of history c)
    pub coloured : t.colour_of state ≡ c
    pub framed : t.frame_of state ≡ t.frame_of given

  -- what a refusal says, and what is known where there is none
  abbrev pub Refuses : Colour → ℕ → S → Option S → Option NoTake → Type 0
  Refuses c core given home (Some refusal) = NoTakeAs setup history c core refusal
  Refuses c core given home None = (core ≡ owner_of setup history c) × IsReady history c × IsSomeAnd home (IsHome c given)

  refuse : (c : Colour) (core : ℕ) (given : S) (own k n many : ℕ) → own ≡ owner_of setup history c → many ≡ length (queued_of history c) → (m : ℕ) → m ≡ length (registered_of history c)
      → (b : Bool) → (core == own) ≡ b → (home : Option S) → StateStands t c given (account_of setup history c) k n home → (t : Bool) → nat_lt 0 many ≡ t
      → Refuses c core given home (if b then if is_none home then Some (Busy k) else if t then None else Some (Empty m) else Some (Elsewhere own))
  refuse c core given own k n many own_is many_is m m_is false b_is home stands t t_is = ((λ e. let no : (core == own) ≡ true = eq-eqb core own (e ∙ sym own_is) in cc), own_is)
  refuse c core given own k n many own_is many_is m m_is true b_is None stands t t_is = (eqb-true core own b_is ∙ own_is, omega (arith, stands.1, stands.2), (n, stands.0))
  refuse c core given own k n many own_is many_is m m_is true b_is (Some state) stands true t_is = (eqb-true core own b_is ∙ own_is, record { at_rest = stands.0; waiting = grind (arith, nat_tests) }, record { trailed = stands.1; coloured = stands.2; framed = stands.3 })
  refuse c core given own k n many own_is many_is m m_is true b_is (Some state) stands false t_is = (eqb-true core own b_is ∙ own_is, stands.0, nil_from_length (queued_of history c) (grind (arith, nat_tests)), m_is)

  -- what a slot refuses
  pub slot_refuses : (c : Colour) (core : ℕ) (slot : ColourSlot S P) → SlotStands t fits setup c (account_of setup history c) slot → Refuses c core slot.given.value slot.home (no_take_of slot core)
  slot_refuses c core slot old =
      let many : length slot.queue.events ≡ length (queued_of history c) = sym (length-map slot.queue.events (λ e. e.0)) ∙ ap length old.events in
      let all : registered_in slot.queue ≡ length (registered_of history c) = omega (arith, many, old.started, old.begun, length-drop (begun_of history c) (registered_of history c)) in
      refuse c core slot.given.value slot.owner slot.core slot.count (length slot.queue.events) old.owner many (registered_in slot.queue) all (core == slot.owner) refl slot.home old.state (nat_lt 0 (length slot.queue.events)) refl

  -- the state of a ready colour
  pub ready_home : (c : Colour) (given : S) (home : Option S) → IsSomeAnd home (IsHome c given) → IsSomeAnd home (λ state. (t.colour_of state ≡ c) × (t.frame_of state ≡ t.frame_of given))
  ready_home c given None h = h
  ready_home c given (Some state) h = (h.coloured, h.framed)

  -- one state more is away
  pub one_more : (i : ℕ) (slot after : ColourSlot S P) → i < length slots → slot ≡ get_or slots i slot → is_away slot ≡ false → is_away after ≡ true → count_by is_away (set slots i after) ≡ count_by is_away slots + 1
  one_more i slot after lt is here away =
      let one : Bool → ℕ = λ t. cond t 1 0 in
      let old : one (is_away (get_or slots i slot)) ≡ 0 = ap (λ b. one (is_away b)) (sym is) ∙ ap one here in
      let new : one (is_away after) ≡ 1 = ap one away in
      omega (arith, sum_by-set (λ b. one (is_away b)) slots i after slot lt, old, new)

  at_home : (given : S) (c : Colour) (home : Option S) → IsSomeAnd home (IsHome c given) → is_none home ≡ false
  at_home given c None h = absurd h
  at_home given c (Some state) h = refl

  -- a take keeps what the fields keep
  pub kept_taken : (c : Colour) (core capacity' : ℕ) (slot after : ColourSlot S P) → c.0 < colours_of setup → c.0 % (shape_of setup).shards ≡ shard → slot ≡ get_or slots (c.0 / (shape_of setup).shards) slot
      → Refuses c core slot.given.value slot.home None → (n : ℕ) → n ≡ min (shape_of setup).batch (length slot.queue.events) → 1 ≤ (shape_of setup).batch
      → after ≡ record slot { queue = after_take slot.queue n; home = None; core = core; count = n } → length history + 2 + running ≤ capacity' → capacity' ≤ limit_of (is_listed setup)
      → MayTake setup history c core n × IsConsistentShard t fits setup shard (history ++ Take c core n ∷ []) (set slots (c.0 / (shape_of setup).shards) after) (running + 1) capacity'
  kept_taken c core capacity' slot after there here is ready n n_is batch after_is room limited =
      let i = c.0 / (shape_of setup).shards in
      let place : i < length slots = kept.whole c.0 there here in
      let at : colour_at setup shard i ≡ c = colour_at-place setup shard c here in
      let old = slot_there kept c slot there here is in
      let many : length slot.queue.events ≡ length (queued_of history c) = sym (length-map slot.queue.events (λ e. e.0)) ∙ ap length old.events in
      let behind : length (queued_of history c) ≡ length (registered_of history c) - begun_of history c = length-drop (begun_of history c) (registered_of history c) in
      let some : 1 ≤ n = omega (arith, n_is, many, ready.1.waiting, batch) in
      let few : n ≤ length slot.queue.events = omega (arith, n_is) in
      let may : MayTake setup history c core n = record { by_owner = ready.0; ready = ready.1; whole_batch = n_is ∙ ap (min (shape_of setup).batch) many } in
      let next : ColourSlot S P = record slot { queue = after_take slot.queue n; home = None; core = core; count = n } in
      let stands : SlotStands t fits setup c (next_account (account_of setup history c) (Take c core n)) next = record {
        events = sym (drop-map (λ (e : Event × Option P). e.0) n slot.queue.events) ∙ ap (drop n) old.events ∙ drop-drop n (begun_of history c) (registered_of history c);
        weights = ap (drop n) old.weights ∙ drop-map (weight setup) n (queued_of history c) ∙ ap (map (weight setup)) (drop-drop n (begun_of history c) (registered_of history c));
        started = ap (λ k. k + n) old.started;
        finished = old.finished;
        begun = omega (arith, few, many, behind, old.begun);
        owner = old.owner;
        fit = all_by_recursion-drop _ n slot.queue.events old.fit;
        state = (refl, ap (λ k. k + n) ready.1.at_rest, omega (arith, some));
      } in
      let stood = subst (λ b. SlotStands t fits setup c (next_account (account_of setup history c) (Take c core n)) b) (sym after_is) stands in
      let home : is_away slot ≡ false = at_home slot.given.value c slot.home ready.2 in
      let more = one_more i slot after place is home (ap is_away after_is) in (
        may,
        kept_after (Take c core n) i after (running + 1) capacity' kept place (sym (ap (λ k. k.0) at)) may
            (subst (λ k. SlotStands t fits setup k (next_account (account_of setup history k) (Take c core n)) after) (sym at) stood)
            (ap (λ b. t.frame_of b.given.value) after_is ∙ ap (λ b. t.frame_of b.given.value) is ∙ ap (λ b. t.frame_of b.given.value) (get_or_default slots i slot after place))
            (omega (arith, more, kept.counted))
            (omega (arith, room))
            limited,
      )

  -- the turn of a take
  pub taken_turn : (c : Colour) (core n : ℕ) (slot : ColourSlot S P) → SlotStands t fits setup c (account_of setup history c) slot → Refuses c core slot.given.value slot.home None → 1 ≤ n
      → (home : S) → slot.home ≡ Some home
      → IsRunningOn (history ++ Take c core n ∷ []) c core n × (t.trail_of home ++ map (λ e. e.0) (take n slot.queue.events) ≡ take (begun_of (history ++ Take c core n ∷ []) c) (registered_of (history ++ Take c core n ∷ []) c)) × (t.colour_of home ≡ c) × (t.frame_of home ≡ t.frame_of slot.given.value)
  taken_turn c core n slot old ready some home was =
      let next = account-own setup history (Take c core n) c refl in
      let h : IsHome c slot.given.value home = subst (λ o. IsSomeAnd o (IsHome c slot.given.value)) was ready.2 in
      let begun_is : begun_of (history ++ Take c core n ∷ []) c ≡ begun_of history c + n = ap (λ (s : ColourAccount). s.begun) next in
      let ended_is : ended_of (history ++ Take c core n ∷ []) c ≡ ended_of history c = ap (λ (s : ColourAccount). s.ended) next in
      let registered_is : registered_of (history ++ Take c core n ∷ []) c ≡ registered_of history c = ap (λ (s : ColourAccount). s.registered) next in (
        record { running = omega (arith, begun_is, ended_is, ready.1.at_rest, some); last = ap (λ (s : ColourAccount). s.last) next },
        rw (begun_is, registered_is)
            (ap (λ es. es ++ map (λ e. e.0) (take n slot.queue.events)) (h.trailed ∙ ap (λ k. take k (registered_of history c)) (sym ready.1.at_rest))
            ∙ ap (λ es. take (begun_of history c) (registered_of history c) ++ es) (sym (take-map (λ (e : Event × Option P). e.0) n slot.queue.events) ∙ ap (take n) old.events)
            ∙ sym (take-add (begun_of history c) n (registered_of history c))),
        h.coloured,
        h.framed,
      )
