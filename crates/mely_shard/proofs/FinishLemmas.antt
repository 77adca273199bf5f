-- What a finish keeps, and what it answers.
use Rattle.std.proofs.Common.{◌≡◌, ℕ, ◌+◌, ◌-◌, ◌/◌, ◌%◌, ◌<◌, ◌≤◌, List, [], ◌∷◌, ◌++◌, Option, Some, None, Bool, true, false, cond, length, take, drop, sum, get_or, refl, sym, ◌∙◌, ap, subst, arith, ⊎_elim, nat_lt}
use Rattle.std.proofs.lemmas.Bool.Decides.{nat_tests}
use Rattle.std.proofs.lemmas.List.Sums.{sum_by-set, sum-map, get_or-le-sum_by}
use Rattle.std.proofs.Math.ListN.{set}
use Rattle.std.specs.List.{count_by, sum_by}
use Rattle.std.proofs.lemmas.Option.{slice_get_cases}
use Rattle.std.proofs.lemmas.List.{length-map, get_or_default}
use Rattle.mely_event.specs.declared.colour.Colour.{Colour}
use Rattle.mely_event.specs.declared.event.Event.{Event}
use Rattle.mely_event.specs.declared.trail.Trail.{Ghosts as TrailWords}
use Rattle.mely_history.specs.Setup.{shape_of, colours_of}
use Rattle.mely_history.specs.declared.setup.Setup.{Setup}
use Rattle.mely_history.specs.declared.entry.Entry.{Entry}
use Rattle.mely_history.specs.declared.entry.Entry.TheVariants.{Fin}
use Rattle.mely_history.specs.History.{registered_of, queued_of, begun_of, ended_of, worth_of, weight, last_take, IsRunning}
use Rattle.mely_history.specs.Legal.{IsRunningOn}
use Rattle.mely_history.specs.declared.after.After.TheVariants.{More, Idle}
use Rattle.std.specs.Prelude.{is_none, if◌then◌else◌}
use Rattle.std.proofs.lemmas.List.{nil_from_length}
use Rattle.mely_queue.specs.ColourQueue.{finished_by}
use Rattle.mely_shard.specs.declared.colour_slot.ColourSlot.{ColourSlot}
use Rattle.mely_shard.specs.Shard.{AfterAs}
use Rattle.mely_history.specs.ColourAccount.{ColourAccount, account_of, next_account}
use Rattle.mely_shard.specs.Invariant.{IsConsistentShard, SlotStands, StateStands, is_away}
use Rattle.mely_shard.specs.Shard.{colour_at}
use Rattle.mely_shard.specs.Replies.{after_of}
use Rattle.mely_history.proofs.ColourAccountLemmas.{account-own}
use Rattle.mely_shard.proofs.SlotLemmas.{kept_after}
use Rattle.mely_shard.proofs.RegisterLemmas.{colour_at-place, slot_there}

module _ {S P F : Type 0} {t : TrailWords S F} {fits : F → Colour → Event → Option P → Type 0} {setup : Setup} {shard : ℕ} {history : List Entry} {slots : List (ColourSlot S P)} {running capacity : ℕ} (kept : IsConsistentShard t fits setup shard history slots running capacity) where
  -- a colour that runs has its state away
  runs_away : (c : Colour) (given : S) (core count : ℕ) (home : Option S) → StateStands t c given (account_of setup history c) core count home → IsRunning history c → (home ≡ None) × (last_take history c ≡ Some (core, count)) × (begun_of history c ≡ ended_of history c + count)
  runs_away c given core count None stands runs = (refl, stands.0, stands.1)
  runs_away c given core count (Some state) stands runs = absurd (omega (arith, stands.0, runs))

  -- how many a finish finishes
  pub finish_whole : (c : Colour) (core count : ℕ) (slot : ColourSlot S P) → SlotStands t fits setup c (account_of setup history c) slot → IsRunningOn history c core count → (slot.home ≡ None) × (begun_of history c ≡ ended_of history c + count)
  finish_whole c core count slot stands away =
      let at = runs_away c slot.given.value slot.core slot.count slot.home stands.state away.running in
      let one : ◌≡◌ {A = Option (ℕ × ℕ)} (Some (slot.core, slot.count)) (Some (core, count)) = sym at.1 ∙ away.last in
      let pair : ◌≡◌ {A = ℕ × ℕ} (slot.core, slot.count) (core, count) = cc in
      let same : slot.count ≡ count = ap (λ (p : ℕ × ℕ). p.1) pair in
      (at.0, at.2 ∙ ap (λ n. ended_of history c + n) same)

  -- one state fewer is away
  one_fewer : (all : List (ColourSlot S P)) (i : ℕ) (slot after : ColourSlot S P) → i < length all → slot ≡ get_or all i slot → slot.home ≡ None → is_away after ≡ false → count_by is_away (set all i after) + 1 ≡ count_by is_away all
  one_fewer all i slot after lt is none home =
      let one : Bool → ℕ = λ t. cond t 1 0 in
      let sums = sum_by-set (λ b. one (is_away b)) all i after slot lt in
      let old : one (is_away (get_or all i slot)) ≡ 1 = ap (λ b. one (is_away b)) (sym is) ∙ ap (λ o. one (is_none o)) none in
      let new : one (is_away after) ≡ 0 = ap one home in
      omega (arith, sums, old, new)

  -- a state that is away counts
  one_away : (i : ℕ) (slot : ColourSlot S P) → i < length slots → slot ≡ get_or slots i slot → slot.home ≡ None → 1 ≤ running
  one_away i slot lt is none =
      let one : Bool → ℕ = λ t. cond t 1 0 in
      let old : one (is_away (get_or slots i slot)) ≡ 1 = ap (λ b. one (is_away b)) (sym is) ∙ ap (λ o. one (is_none o)) none in
      omega (arith, get_or-le-sum_by (λ b. one (is_away b)) slots i slot lt, old, kept.counted)

  -- a state is away where a colour runs
  pub running_positive : (c : Colour) (core count : ℕ) → c.0 < colours_of setup → c.0 % (shape_of setup).shards ≡ shard → IsRunningOn history c core count → 1 ≤ running
  running_positive c core count there here away =
      let i = c.0 / (shape_of setup).shards in
      let place : i < length slots = kept.whole c.0 there here in
      ⊎_elim
      (λ found.
      let is = sym found.3 in
      let whole = finish_whole c core count found.0 (slot_there kept c found.0 there here is) away in
      one_away i found.0 place is whole.0)
      (λ past. absurd (omega (arith, past.0, place)))
      (slice_get_cases slots i).1

  -- a finish keeps what the fields keep
  pub kept_finished : (c : Colour) (core count : ℕ) (state : S) (slot : ColourSlot S P) → c.0 < colours_of setup → c.0 % (shape_of setup).shards ≡ shard
      → slot ≡ get_or slots (c.0 / (shape_of setup).shards) slot → IsRunningOn history c core count → t.colour_of state ≡ c → t.frame_of state ≡ t.frame_of slot.given.value → t.trail_of state ≡ take (begun_of history c) (registered_of history c)
      → (1 ≤ running) × IsConsistentShard t fits setup shard (history ++ Fin c core count ∷ []) (set slots (c.0 / (shape_of setup).shards) (record slot { queue = finished_by slot.queue count; home = Some state })) (running - 1) capacity
  kept_finished c core count state slot there here is away of_colour of_frame of_trail =
      let i = c.0 / (shape_of setup).shards in
      let place : i < length slots = kept.whole c.0 there here in
      let after = record slot { queue = finished_by slot.queue count; home = Some state } in
      let at : colour_at setup shard i ≡ c = colour_at-place setup shard c here in
      let old = slot_there kept c slot there here is in
      let whole = finish_whole c core count slot old away in
      let fewer = one_fewer slots i slot after place is whole.0 refl in
      let stands : SlotStands t fits setup c (next_account (account_of setup history c) (Fin c core count)) after = record {
        events = old.events;
        weights = old.weights;
        started = old.started;
        finished = ap (λ n. n + count) old.finished;
        begun = old.begun;
        owner = old.owner;
        fit = old.fit;
        state = (whole.1, of_trail ∙ ap (λ n. take n (registered_of history c)) whole.1, of_colour, of_frame);
      } in (
        omega (arith, fewer, kept.counted),
        kept_after (Fin c core count) i after (running - 1) capacity kept place (sym (ap (λ k. k.0) at)) (record { last = away.last; whole = whole.1 })
            (subst (λ k. SlotStands t fits setup k (next_account (account_of setup history k) (Fin c core count)) after) (sym at) stands)
            (ap (λ b. t.frame_of b.given.value) is ∙ ap (λ b. t.frame_of b.given.value) (get_or_default slots i slot after place))
            (omega (arith, fewer, kept.counted))
            (omega (arith, fewer, kept.counted, kept.room))
            kept.limited,
      )

  -- what a finish answers
  pub told_finished : (c : Colour) (core count : ℕ) (slot : ColourSlot S P) → SlotStands t fits setup c (account_of setup history c) slot → AfterAs setup (history ++ Fin c core count ∷ []) c (after_of slot)
  told_finished c core count slot old =
      let next = account-own setup history (Fin c core count) c refl in
      let waiting : queued_of (history ++ Fin c core count ∷ []) c ≡ queued_of history c = ap (λ (s : ColourAccount). drop s.begun s.registered) next in
      let many : length slot.queue.events ≡ length (queued_of (history ++ Fin c core count ∷ []) c) = sym (length-map slot.queue.events (λ e. e.0)) ∙ ap length (old.events ∙ sym waiting) in
      let worth : sum slot.queue.weights ≡ worth_of setup (history ++ Fin c core count ∷ []) c = ap sum old.weights ∙ sum-map (weight setup) (queued_of history c) ∙ ap (sum_by (weight setup)) (sym waiting) in
      let started : slot.queue.started ≡ begun_of (history ++ Fin c core count ∷ []) c = old.started ∙ ap (λ (s : ColourAccount). s.begun) (sym next) in
      by_test (length slot.queue.events) slot.queue.started (sum slot.queue.weights) many started worth (nat_lt 0 (length slot.queue.events)) refl
    where
      by_test : (waits started worth : ℕ) → waits ≡ length (queued_of (history ++ Fin c core count ∷ []) c) → started ≡ begun_of (history ++ Fin c core count ∷ []) c → worth ≡ worth_of setup (history ++ Fin c core count ∷ []) c
          → (test : Bool) → nat_lt 0 waits ≡ test → AfterAs setup (history ++ Fin c core count ∷ []) c (if test then More started worth else Idle)
      by_test waits started worth many is_started is_worth true is = (grind (arith, nat_tests), is_started, is_worth)
      by_test waits started worth many is_started is_worth false is = nil_from_length (queued_of (history ++ Fin c core count ∷ []) c) (grind (arith, nat_tests))
