-- What callers see of what a shard keeps.
use Rattle.std.proofs.Common.{◌≡◌, ℕ, ◌+◌, ◌-◌, ◌/◌, ◌<◌, List, [], ◌∷◌, cond, Option, Some, None, Bool, true, false, length, map, sum, get_or, refl, sym, ◌∙◌, ap, subst, arith, ⊎_elim, nat_lt}
use Rattle.std.proofs.lemmas.Bool.Decides.{nat_tests}
use Rattle.std.proofs.lemmas.List.Sums.{sum-map, sum_by-cons}
use Rattle.std.proofs.Math.ListN.{set}
use Rattle.std.specs.List.{slice_get, count_by}
use Rattle.std.proofs.lemmas.Option.{slice_get-get_or, slice_get-map, slice_get_cases, slice_get_within}
use Rattle.std.proofs.lemmas.List.{length-map, get_or_default}
use Rattle.std.specs.Option.{option_map}
use Rattle.mely_event.specs.declared.colour.Colour.{Colour}
use Rattle.mely_event.specs.declared.event.Event.{Event}
use Rattle.mely_event.specs.declared.trail.Trail.{Ghosts as TrailWords}
use Rattle.mely_history.specs.Setup.{shape_of}
use Rattle.mely_history.specs.declared.setup.Setup.{Setup}
use Rattle.mely_history.specs.declared.entry.Entry.{Entry}
use Rattle.mely_history.specs.History.{queued_of, begun_of, owner_of, worth_of, weight}
use Rattle.std.specs.Prelude.{if◌then◌else◌, is_none}
use Rattle.mely_shard.specs.declared.colour_slot.ColourSlot.{ColourSlot}
use Rattle.mely_shard.specs.Shard.{ColourState, IsConsistent, LaneStands, HomeStands, ReadyAs}
use Rattle.mely_history.specs.ColourAccount.{account_of}
use Rattle.mely_shard.specs.Invariant.{IsConsistentShard, SlotStands, StateStands, lane_of}
use Rattle.mely_shard.specs.Replies.{ready_of}
use Rattle.std.specs.Prelude.{is_some, ◌&&◌}
use Rattle.std.proofs.Math.Seq.{map-set_same}
use Rattle.mely_shard.proofs.EndLemmas.{map_twice}
use Rattle.mely_shard.proofs.RegisterLemmas.{slot_there}

-- the given state of a lane
pub given_there : {S P : Type 0} (lanes : List (ColourState S P)) (i : ℕ) (lane : ColourState S P) → slice_get lanes i ≡ Some lane → slice_get (map (λ (l : ColourState S P). l.given) lanes) i ≡ Some lane.given
given_there lanes i lane is = slice_get-map (λ l. l.given) lanes i ∙ ap (option_map (λ l. l.given)) is

-- the given states stay where one slot changes and keeps its own
pub givens_set : {S P : Type 0} (slots : List (ColourSlot S P)) (i : ℕ) (after d : ColourSlot S P) → after.given.value ≡ (get_or slots i d).given.value → map (λ (lane : ColourState S P). lane.given) (map lane_of (set slots i after)) ≡ map (λ (lane : ColourState S P). lane.given) (map lane_of slots)
givens_set slots i after d same =
    map_twice (λ lane. lane.given) lane_of (set slots i after) ∙ map-set_same (λ slot. slot.given.value) slots i after d same ∙ sym (map_twice (λ lane. lane.given) lane_of slots)

-- as many of the images pass as of the items whose images pass
count_by-map : {X Y : Type 0} (p : Y → Bool) (f : X → Y) (xs : List X) → count_by p (map f xs) ≡ count_by (λ x. p (f x)) xs
count_by-map p f [] = refl
count_by-map p f (x ∷ xs) =
    sum_by-cons (λ y. cond (p y) 1 0) (f x) (map f xs) ∙ ap (λ n. cond (p (f x)) 1 0 + n) (count_by-map p f xs) ∙ sym (sum_by-cons (λ y. cond (p (f y)) 1 0) x xs)

module _ {S P F : Type 0} {t : TrailWords S F} {fits : F → Colour → Event → Option P → Type 0} {setup : Setup} {shard : ℕ} {history : List Entry} {slots : List (ColourSlot S P)} {running capacity : ℕ} (kept : IsConsistentShard t fits setup shard history slots running capacity) where
  home_stands : (c : Colour) (given : S) (core count : ℕ) (home : Option S) → StateStands t c given (account_of setup history c) core count home → HomeStands t history c given home
  home_stands c given core count None stands = omega (arith, stands.1, stands.2)
  home_stands c given core count (Some state) stands = stands

  lane_stands : (c : Colour) (slot : ColourSlot S P) → SlotStands t fits setup c (account_of setup history c) slot → LaneStands t fits history c (lane_of slot)
  lane_stands c slot old = record { events = old.events; fit = old.fit; state = home_stands c slot.given.value slot.core slot.count slot.home old.state }

  -- the slot of a lane
  slot_of : (i : ℕ) (lane : ColourState S P) → slice_get (map lane_of slots) i ≡ Some lane → (d : ColourSlot S P) × (i < length slots) × (lane_of (get_or slots i d) ≡ lane)
  slot_of i lane is =
      let within : i < length slots = subst (λ n. i < n) (length-map slots lane_of) (slice_get_within (map lane_of slots) i lane is) in
      ⊎_elim
      (λ found.
      let one : Some (lane_of found.0) ≡ Some lane = sym (slice_get-map lane_of slots i ∙ ap (option_map lane_of) found.2) ∙ is in
      let same : lane_of found.0 ≡ lane = cc in
      (found.0, within, ap lane_of found.3 ∙ same))
      (λ past. absurd (omega (arith, past.0, within)))
      (slice_get_cases slots i).1

  -- within the list the default does not matter
  frame_at : (j : ℕ) (d e : ColourSlot S P) → j < length slots → t.frame_of (get_or slots j d).given.value ≡ t.frame_of (get_or slots j e).given.value
  frame_at j d e lt = ap (λ b. t.frame_of b.given.value) (get_or_default slots j d e lt)

  pub kept_contents : IsConsistent t fits (record { setup = setup; shard = shard; history = history; lanes = map lane_of slots; spare = capacity - (length history + running) })
  kept_contents = record {
    within_limit = let counted = kept.counted in let room = kept.room in let limited = kept.limited in let lanes = count_by-map (λ (lane : ColourState S P). is_none lane.state) lane_of slots in omega (arith, counted, room, limited, lanes);
    legal = kept.legal;
    numbered = kept.numbered;
    of_shard = kept.own;
    only = λ i lt. kept.only i (subst (λ n. i < n) (length-map slots lane_of) lt);
    one_frame = λ i j a b a_is b_is.
        let one = slot_of i a a_is in
        let other = slot_of j b b_is in
        ap (λ l. t.frame_of l.given) (sym one.2) ∙ kept.frames i j one.0 one.1 other.1 ∙ frame_at j one.0 other.0 other.1 ∙ ap (λ l. t.frame_of l.given) other.2;
    found = λ c own. rw (length-map slots lane_of) (kept.whole c.0 own.there own.here);
    each = λ c lane own is.
        let i = c.0 / (shape_of setup).shards in
        let there : i < length slots = kept.whole c.0 own.there own.here in
        ⊎_elim
        (λ found.
        let stands = lane_stands c found.0 (slot_there kept c found.0 own.there own.here (sym found.3)) in
        let one : Some (lane_of found.0) ≡ Some lane = sym (slice_get-map lane_of slots i ∙ ap (option_map lane_of) found.2) ∙ is in
        let same : lane_of found.0 ≡ lane = cc in
        subst (λ l. LaneStands t fits history c l) same stands)
        (λ past. absurd (omega (arith, past.0, there)))
        (slice_get_cases slots i).1;
  }

  ready_by : (c : Colour) (given : S) (own k n many started worth : ℕ) → own ≡ owner_of setup history c → many ≡ length (queued_of history c) → started ≡ begun_of history c → worth ≡ worth_of setup history c
      → (home : Option S) → StateStands t c given (account_of setup history c) k n home → (t : Bool) → nat_lt 0 many ≡ t
      → ReadyAs setup history c (if is_some home && t then Some (own, started, worth) else None)
  ready_by c given own k n many started worth own_is many_is started_is worth_is None stands t t_is = λ ready. omega (arith, ready.at_rest, stands.1, stands.2)
  ready_by c given own k n many started worth own_is many_is started_is worth_is (Some state) stands true t_is = (record { at_rest = stands.0; waiting = grind (arith, nat_tests) }, own_is, started_is, worth_is)
  ready_by c given own k n many started worth own_is many_is started_is worth_is (Some state) stands false t_is = λ ready. let some = ready.waiting in grind (arith, nat_tests)

  pub told_ready : (c : Colour) (slot : ColourSlot S P) → SlotStands t fits setup c (account_of setup history c) slot → ReadyAs setup history c (ready_of slot)
  told_ready c slot old =
      ready_by c slot.given.value slot.owner slot.core slot.count (length slot.queue.events) slot.queue.started (sum slot.queue.weights) old.owner (sym (length-map slot.queue.events (λ e. e.0)) ∙ ap length old.events) old.started
      (ap sum old.weights ∙ sum-map (weight setup) (queued_of history c)) slot.home old.state (nat_lt 0 (length slot.queue.events)) refl

  -- each given state has the frame of that of a slot
  pub given_frame : (i : ℕ) (slot : ColourSlot S P) → i < length slots → slot ≡ get_or slots i slot → (j : ℕ) (given : S) → slice_get (map (λ (lane : ColourState S P). lane.given) (map lane_of slots)) j ≡ Some given → t.frame_of slot.given.value ≡ t.frame_of given
  given_frame i slot lt is j given there =
      let those : slice_get (map (λ (k : ColourSlot S P). k.given.value) slots) j ≡ Some given = sym (ap (λ gs. slice_get gs j) (map_twice (λ lane. lane.given) lane_of slots)) ∙ there in
      let within : j < length slots = subst (λ n. j < n) (length-map slots (λ (k : ColourSlot S P). k.given.value)) (slice_get_within (map (λ (k : ColourSlot S P). k.given.value) slots) j given those) in
      let one : Some (get_or slots j slot).given.value ≡ Some given = sym (slice_get-map (λ k. k.given.value) slots j ∙ ap (option_map (λ k. k.given.value)) (slice_get-get_or slots j slot within)) ∙ those in
      let same : (get_or slots j slot).given.value ≡ given = cc in
      ap (λ k. t.frame_of k.given.value) is ∙ kept.frames i j slot lt within ∙ ap t.frame_of same
