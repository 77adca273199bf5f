-- What is known of a shard that rests.
use Rattle.std.proofs.Common.{◌≡◌, ℕ, zero, suc, ◌/◌, ◌%◌, ◌<◌, List, [], ◌∷◌, Option, Some, None, Bool, true, false, length, map, refl, sym, ◌∙◌, ap, subst, arith, ⊎_elim}
use Rattle.std.specs.Prelude.{IsTrue, IsSome, is_some, ◌&&◌, ◌==◌}
use Rattle.std.specs.List.{slice_get, AllByRecursion, list_all}
use Rattle.std.proofs.lemmas.Bool.{eqb-true, eq-eqb}
use Rattle.std.proofs.lemmas.List.{length-map, nil_from_length}
use Rattle.std.proofs.lemmas.Option.{slice_get_within, slice_get_cases, get_or_from_slice_get}
use Rattle.mely_event.specs.declared.colour.Colour.{Colour}
use Rattle.mely_event.specs.declared.event.Event.{Event}
use Rattle.mely_event.specs.declared.trail.Trail.{Ghosts as TrailWords}
use Rattle.mely_history.specs.Setup.{shape_of, colours_of}
use Rattle.mely_history.specs.declared.setup.Setup.{Setup}
use Rattle.mely_history.specs.declared.entry.Entry.{Entry}
use Rattle.mely_history.specs.ColourAccount.{account_of}
use Rattle.mely_history.specs.History.{queued_of, IsRunning}
use Rattle.mely_history.specs.Legal.{IsDrainedOf}
use Rattle.mely_shard.specs.declared.colour_slot.ColourSlot.{ColourSlot}
use Rattle.mely_shard.specs.Shard.{colour_at}
use Rattle.mely_shard.specs.Invariant.{IsConsistentShard, SlotStands, StateStands, AreAtHome}
use Rattle.mely_shard.specs.Replies.{slot_is_drained}
use Rattle.mely_shard.proofs.SlotLemmas.{shard_of_colour_at}
use Rattle.mely_shard.proofs.RegisterLemmas.{slot_there}

-- what holds at each place holds of each item
pub all_from_places : {X : Type 0} (P : X → Type 0) (xs : List X) → ((i : ℕ) (x : X) → slice_get xs i ≡ Some x → P x) → AllByRecursion P xs
all_from_places P [] each = tt
all_from_places P (x ∷ xs) each = (each 0 x refl, all_from_places P xs (λ i y is. each (suc i) y is))

both_true : (a b : Bool) → (a && b) ≡ true → (a ≡ true) × (b ≡ true)
both_true true true is = (refl, refl)
both_true true false is = cc
both_true false b is = cc

-- a test that each item passes, at each place
passes_at : {X : Type 0} (test : X → Bool) (xs : List X) → list_all test xs ≡ true → (i : ℕ) (x : X) → slice_get xs i ≡ Some x → test x ≡ true
passes_at test [] all i x is = cc
passes_at test (y ∷ xs) all zero x is = let same : y ≡ x = cc in ap test (sym same) ∙ (both_true (test y) (list_all test xs) all).0
passes_at test (y ∷ xs) all (suc i) x is = passes_at test xs (both_true (test y) (list_all test xs) all).1 i x is

all_pass : {X : Type 0} (test : X → Bool) (xs : List X) → ((i : ℕ) (x : X) → slice_get xs i ≡ Some x → test x ≡ true) → list_all test xs ≡ true
all_pass test [] each = refl
all_pass test (x ∷ xs) each = ap (λ b. b && list_all test xs) (each 0 x refl) ∙ all_pass test xs (λ i y is. each (suc i) y is)

-- what is made of what is made of each item
pub map_twice : {X Y Z : Type 0} (f : Y → Z) (h : X → Y) (xs : List X) → map f (map h xs) ≡ map (λ x. f (h x)) xs
map_twice f h [] = refl
map_twice f h (x ∷ xs) = ap (λ zs. f (h x) ∷ zs) (map_twice f h xs)

module _ {S P F : Type 0} {t : TrailWords S F} {fits : F → Colour → Event → Option P → Type 0} {setup : Setup} {shard : ℕ} {history : List Entry} {slots : List (ColourSlot S P)} {running capacity : ℕ} (kept : IsConsistentShard t fits setup shard history slots running capacity) where
  -- the colour of a place is one of the shard, and its slot stands
  stands_at : (i : ℕ) (slot : ColourSlot S P) → slice_get slots i ≡ Some slot → SlotStands t fits setup (colour_at setup shard i) (account_of setup history (colour_at setup shard i)) slot
  stands_at i slot is = subst (λ b. SlotStands t fits setup (colour_at setup shard i) (account_of setup history (colour_at setup shard i)) b) (get_or_from_slice_get slots i slot slot is) (kept.each i slot (slice_get_within slots i slot is))

  home_some : (c : Colour) (given : S) (core count : ℕ) (home : Option S) → StateStands t c given (account_of setup history c) core count home → ¬ IsRunning history c → IsSome home
  home_some c given core count None stands rest =
      let some = stands.2 in
      let away = stands.1 in
      let runs : IsRunning history c = omega (arith, some, away) in
      absurd (rest runs)
  home_some c given core count (Some state) stands rest = refl

  -- where no colour runs, each state is at home
  pub all_at_home : ((c : Colour) → c.0 < colours_of setup → c.0 % (shape_of setup).shards ≡ shard → ¬ IsRunning history c) → AreAtHome slots
  all_at_home rest = all_from_places (λ slot. IsSome slot.home) slots (λ i slot is.
      let stands = stands_at i slot is in
      home_some (colour_at setup shard i) slot.given.value slot.core slot.count slot.home stands.state (rest (colour_at setup shard i) (kept.only i (slice_get_within slots i slot is)) (shard_of_colour_at setup shard i kept.numbered)))

  -- a slot is drained exactly where its colour is
  drained_here : (c : Colour) (given : S) (core count many : ℕ) (home : Option S) → many ≡ length (queued_of history c) → StateStands t c given (account_of setup history c) core count home → (is_some home && (many == 0)) ≡ true → IsDrainedOf history c
  drained_here c given core count many None many_is stands is = cc
  drained_here c given core count many (Some state) many_is stands is = record { at_rest = stands.0; none_queued = nil_from_length (queued_of history c) (sym many_is ∙ eqb-true many 0 is) }

  drained_there : (c : Colour) (given : S) (core count many : ℕ) (home : Option S) → many ≡ length (queued_of history c) → StateStands t c given (account_of setup history c) core count home → IsDrainedOf history c → (is_some home && (many == 0)) ≡ true
  drained_there c given core count many None many_is stands drained = let some = stands.2 in let away = stands.1 in let rest = drained.at_rest in absurd (omega (arith, some, away, rest))
  drained_there c given core count many (Some state) many_is stands drained = eq-eqb many 0 (many_is ∙ ap length drained.none_queued)

  waiting_in : (c : Colour) (slot : ColourSlot S P) → SlotStands t fits setup c (account_of setup history c) slot → length slot.queue.events ≡ length (queued_of history c)
  waiting_in c slot stands = sym (length-map slot.queue.events (λ e. e.0)) ∙ ap length stands.events

  -- all slots are drained exactly where each colour of the shard is
  pub drained_exactly : (IsTrue (list_all slot_is_drained slots) → (c : Colour) → c.0 < colours_of setup → c.0 % (shape_of setup).shards ≡ shard → IsDrainedOf history c) × (((c : Colour) → c.0 < colours_of setup → c.0 % (shape_of setup).shards ≡ shard → IsDrainedOf history c) → IsTrue (list_all slot_is_drained slots))
  drained_exactly = (
    (λ all c there here.
        let place : c.0 / (shape_of setup).shards < length slots = kept.whole c.0 there here in
        ⊎_elim
        (λ found.
        let stands = slot_there kept c found.0 there here (sym found.3) in
        drained_here c found.0.given.value found.0.core found.0.count (length found.0.queue.events) found.0.home (waiting_in c found.0 stands) stands.state (passes_at slot_is_drained slots all (c.0 / (shape_of setup).shards) found.0 found.2))
        (λ past. let beyond = past.0 in absurd (omega (arith, beyond, place)))
        (slice_get_cases slots (c.0 / (shape_of setup).shards)).1),
    (λ drained. (all_pass slot_is_drained slots (λ i slot is.
        let stands = stands_at i slot is in
        drained_there (colour_at setup shard i) slot.given.value slot.core slot.count (length slot.queue.events) slot.home (waiting_in (colour_at setup shard i) slot stands) stands.state
        (drained (colour_at setup shard i) (kept.only i (slice_get_within slots i slot is)) (shard_of_colour_at setup shard i kept.numbered))))),
  )
