-- What a registration keeps, and what it tells.
use Rattle.std.proofs.Common.{◌≡◌, ℕ, ◌+◌, ◌-◌, ◌*◌, ◌/◌, ◌%◌, ◌<◌, ◌≤◌, List, [], ◌∷◌, ◌++◌, Option, Some, None, Bool, true, false, cond, suc, length, map, drop, sum, get_or, refl, sym, ◌∙◌, ap, subst, arith, nat_lt, div-add-mod'}
use Rattle.std.proofs.lemmas.Bool.Decides.{nat_tests}
use Rattle.std.specs.List.{cons_option}
use Rattle.std.proofs.lemmas.List.Sums.{sum_by-set, sum-map}
use Rattle.std.proofs.Math.ListN.{set}
use Rattle.std.specs.List.{slice_get, filter_map, count_by, sum_by}
use Rattle.std.proofs.lemmas.Option.{slice_get-get_or, slice_get-map}
use Rattle.std.proofs.lemmas.List.{length-map, length-drop, get_or_default}
use Rattle.std.specs.Option.{option_map}
use Rattle.mely_event.specs.declared.colour.Colour.{Colour}
use Rattle.mely_event.specs.declared.event.Event.{Event}
use Rattle.mely_event.specs.declared.trail.Trail.{Ghosts as TrailWords}
use Rattle.mely_history.specs.Setup.{shape_of, colours_of, is_listed}
use Rattle.mely_history.specs.declared.setup.Setup.{Setup}
use Rattle.mely_history.specs.declared.entry.Entry.{Entry}
use Rattle.mely_history.specs.declared.entry.Entry.TheVariants.{Reg}
use Rattle.mely_history.specs.History.{registered_of, queued_of, begun_of, owner_of, worth_of, weight}
use Rattle.mely_history.specs.Legal.{MayRegister}
use Rattle.mely_history.specs.declared.registered.Registered.TheVariants.{Woke, Told, Running}
use Rattle.std.specs.Prelude.{is_none, if◌then◌else◌}
use Rattle.std.proofs.lemmas.List.{nil_from_length}
use Rattle.mely_queue.specs.ColourQueue.{after_push, registered_in}
use Rattle.mely_shard.specs.declared.colour_slot.ColourSlot.{ColourSlot}
use Rattle.mely_shard.specs.Shard.{RegisteredAs}
use Rattle.mely_history.specs.ColourAccount.{ColourAccount, account_of, next_account}
use Rattle.mely_shard.specs.Invariant.{IsConsistentShard, SlotStands, StateStands, is_away, lane_of}
use Rattle.mely_shard.specs.Shard.{colour_at}
use Rattle.mely_history.specs.Kept.{HistoryState, limit_of}
use Rattle.mely_shard.specs.Replies.{reply_of}
use Rattle.mely_history.proofs.ColourAccountLemmas.{account-own}
use Rattle.mely_shard.proofs.SlotLemmas.{kept_after, stands_registered}

-- the colour of the place of a colour
pub colour_at-place : (setup : Setup) (shard : ℕ) (c : Colour) → c.0 % (shape_of setup).shards ≡ shard → colour_at setup shard (c.0 / (shape_of setup).shards) ≡ c
colour_at-place setup shard c is = let same : (c.0 / (shape_of setup).shards) * (shape_of setup).shards + shard ≡ c.0 = sym (ap (λ n. (c.0 / (shape_of setup).shards) * (shape_of setup).shards + n) is) ∙ div-add-mod' c.0 (shape_of setup).shards in ap (λ n. record { 0 = n }) same

-- the limit of a history, listed or not, fits in 64 bits
limit_fits : (listed : Bool) → limit_of listed ≤ 9223372036854775808
limit_fits true = omega arith
limit_fits false = omega arith

-- the room of a history that was grown is within the limit of its setup
pub grown_within : (setup : Setup) (old new : HistoryState) → old.listed ≡ is_listed setup → new ≡ record old { most = new.most } → new.most ≤ limit_of new.listed → new.most ≤ limit_of (is_listed setup)
grown_within setup old new listed same within = subst (λ b. new.most ≤ limit_of b) (ap (λ h. h.listed) same ∙ listed) within

length-filter_map-le : {X Y : Type 0} (f : X → Option Y) (xs : List X) → length (filter_map f xs) ≤ length xs
length-filter_map-le f [] = omega arith
length-filter_map-le f (x ∷ xs) = let h = length-filter_map-le f xs in longest (f x) (filter_map f xs) (length xs) h
  where
    longest : {Y : Type 0} (o : Option Y) (ys : List Y) (n : ℕ) → length ys ≤ n → length (cons_option o ys) ≤ suc n
    longest None ys n h = omega arith
    longest (Some y) ys n h = omega arith

module _ {S P F : Type 0} {t : TrailWords S F} {fits : F → Colour → Event → Option P → Type 0} {setup : Setup} {shard : ℕ} {history : List Entry} {slots : List (ColourSlot S P)} {running capacity : ℕ} (kept : IsConsistentShard t fits setup shard history slots running capacity) where
  -- more room
  pub kept_with_room : (capacity' : ℕ) → capacity ≤ capacity' → capacity' ≤ limit_of (is_listed setup) → IsConsistentShard t fits setup shard history slots running capacity'
  kept_with_room capacity' le limited = record { legal = kept.legal; numbered = kept.numbered; whole = kept.whole; only = kept.only; each = kept.each; own = kept.own; frames = kept.frames; counted = kept.counted; room = omega (arith, kept.room); limited = limited }

  -- the entries and the finishes to come are few
  pub entries_fit : length history + running ≤ 9223372036854775808
  entries_fit = omega (arith, kept.room, kept.limited, limit_fits (is_listed setup))

  -- the slot of a colour
  slot_stands : (c : Colour) (d : ColourSlot S P) → c.0 < colours_of setup → c.0 % (shape_of setup).shards ≡ shard → SlotStands t fits setup c (account_of setup history c) (get_or slots (c.0 / (shape_of setup).shards) d)
  slot_stands c d there here = subst (λ k. SlotStands t fits setup k (account_of setup history k) (get_or slots (c.0 / (shape_of setup).shards) d)) (colour_at-place setup shard c here) (kept.each (c.0 / (shape_of setup).shards) d (kept.whole c.0 there here))

  -- fewer than 2 ^ 64 were registered
  pub registered_few : (c : Colour) (slot : ColourSlot S P) → SlotStands t fits setup c (account_of setup history c) slot → registered_in slot.queue ≤ length history
  registered_few c slot stands =
      let few : length (registered_of history c) ≤ length history = length-filter_map-le _ history in
      let waiting : length slot.queue.events ≡ length (registered_of history c) - (account_of setup history c).begun =
      sym (length-map slot.queue.events (λ e. e.0)) ∙ ap length stands.events ∙ length-drop (account_of setup history c).begun (registered_of history c) in
      omega (arith, stands.started, stands.begun)

  -- as many are away where the home stays
  pub same_count : (all : List (ColourSlot S P)) (i : ℕ) (slot after : ColourSlot S P) → i < length all → slot ≡ get_or all i slot → is_away after ≡ is_away slot → count_by is_away (set all i after) ≡ count_by is_away all
  same_count all i slot after lt is same =
      let sums = sum_by-set (λ b. cond (is_away b) 1 0) all i after slot lt in
      let one : Bool → ℕ = λ t. cond t 1 0 in
      let at : one (is_away (get_or all i slot)) ≡ one (is_away after) = ap (λ b. one (is_away b)) (sym is) ∙ ap one (sym same) in
      omega (arith, sums, at)

  -- a registration keeps what the fields keep
  pub kept_registered : (c : Colour) (event : Event) (load : Option P) (by capacity' : ℕ) (slot : ColourSlot S P) → c.0 < colours_of setup → c.0 % (shape_of setup).shards ≡ shard
      → slot ≡ get_or slots (c.0 / (shape_of setup).shards) slot → MayRegister setup c event → fits (t.frame_of slot.given.value) c event load → length history + 1 + running ≤ capacity' → capacity' ≤ limit_of (is_listed setup)
      → IsConsistentShard t fits setup shard (history ++ Reg c event by ∷ []) (set slots (c.0 / (shape_of setup).shards) (record slot { queue = after_push slot.queue event load (weight setup event) })) running capacity'
  kept_registered c event load by capacity' slot there here is may fit room limited =
      let i = c.0 / (shape_of setup).shards in
      let place : i < length slots = kept.whole c.0 there here in
      let after = record slot { queue = after_push slot.queue event load (weight setup event) } in
      let at : colour_at setup shard i ≡ c = colour_at-place setup shard c here in
      let old : SlotStands t fits setup c (account_of setup history c) slot = subst (λ b. SlotStands t fits setup c (account_of setup history c) b) (sym is) (slot_stands c slot there here) in
      kept_after (Reg c event by) i after running capacity' kept place (sym (ap (λ k. k.0) at)) may
      (subst (λ k. SlotStands t fits setup k (next_account (account_of setup history k) (Reg c event by)) after) (sym at) (stands_registered c (account_of setup history c) slot event load by old fit))
      (ap (λ b. t.frame_of b.given.value) is ∙ ap (λ b. t.frame_of b.given.value) (get_or_default slots i slot after place))
      (kept.counted ∙ sym (same_count slots i slot after place is refl))
      room limited

  -- the slot of a colour, as it was read
  pub slot_there : (c : Colour) (slot : ColourSlot S P) → c.0 < colours_of setup → c.0 % (shape_of setup).shards ≡ shard → slot ≡ get_or slots (c.0 / (shape_of setup).shards) slot → SlotStands t fits setup c (account_of setup history c) slot
  slot_there c slot there here is = subst (λ b. SlotStands t fits setup c (account_of setup history c) b) (sym is) (slot_stands c slot there here)

  -- the lane of a colour
  pub lane_there : (c : Colour) (slot : ColourSlot S P) → c.0 < colours_of setup → c.0 % (shape_of setup).shards ≡ shard → slot ≡ get_or slots (c.0 / (shape_of setup).shards) slot → slice_get (map lane_of slots) (c.0 / (shape_of setup).shards) ≡ Some (lane_of slot)
  lane_there c slot there here is =
      let i = c.0 / (shape_of setup).shards in
      slice_get-map lane_of slots i ∙ ap (option_map lane_of) (slice_get-get_or slots i slot (kept.whole c.0 there here) ∙ ap (λ b. Some b) (sym is))

  -- what a registration is told, where the state is at home or away
  told : (after : List Entry) (c : Colour) (given : S) (core count own started worth : ℕ) (waiting : ℕ) → waiting ≡ length (queued_of history c) → own ≡ owner_of setup after c → started ≡ begun_of after c → worth ≡ worth_of setup after c
      → (home : Option S) → StateStands t c given (account_of setup history c) core count home → (waited : Bool) → nat_lt 0 waiting ≡ waited
      → RegisteredAs setup history after c (if is_none home then Running core else if waited then Told own started worth else Woke own started worth)
  told after c given core count own started worth waiting many own_is started_is worth_is None stands waited is = (omega (arith, stands.1, stands.2), (count, stands.0))
  told after c given core count own started worth waiting many own_is started_is worth_is (Some state) stands true is = (stands.0, grind (arith, nat_tests), own_is, started_is, worth_is)
  told after c given core count own started worth waiting many own_is started_is worth_is (Some state) stands false is = (stands.0, nil_from_length (queued_of history c) (grind (arith, nat_tests)), own_is, started_is, worth_is)

  -- what a registration is told
  pub told_registered : (c : Colour) (event : Event) (load : Option P) (by : ℕ) (slot : ColourSlot S P) → SlotStands t fits setup c (account_of setup history c) slot → fits (t.frame_of slot.given.value) c event load
      → RegisteredAs setup history (history ++ Reg c event by ∷ []) c (reply_of (record slot { queue = after_push slot.queue event load (weight setup event) }) (nat_lt 0 (length slot.queue.events)))
  told_registered c event load by slot old fit =
      let after = history ++ Reg c event by ∷ [] in
      let next = account-own setup history (Reg c event by) c refl in
      let new = stands_registered c (account_of setup history c) slot event load by old fit in
      let many : length slot.queue.events ≡ length (queued_of history c) = sym (length-map slot.queue.events (λ e. e.0)) ∙ ap length old.events in
      let worth : sum (slot.queue.weights ++ weight setup event ∷ []) ≡ worth_of setup after c =
      ap sum new.weights ∙ sum-map (weight setup) (drop (account_of setup history c).begun ((account_of setup history c).registered ++ event ∷ [])) ∙ ap (λ (s : ColourAccount). sum_by (weight setup) (drop s.begun s.registered)) (sym next) in
      told after c slot.given.value slot.core slot.count slot.owner slot.queue.started (sum (slot.queue.weights ++ weight setup event ∷ [])) (length slot.queue.events) many
      (new.owner ∙ ap (λ (s : ColourAccount). s.owner) (sym next)) (new.started ∙ ap (λ (s : ColourAccount). s.begun) (sym next)) worth slot.home old.state (nat_lt 0 (length slot.queue.events)) refl
