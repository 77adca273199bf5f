-- The initial slots of a shard.
use Rattle.std.proofs.Common.{◌≡◌, ℕ, zero, suc, ◌+◌, ◌/◌, ◌<◌, ◌≤◌, ◌⊎◌, List, [], ◌∷◌, ◌++◌, Option, Some, Bool, false, cond, length, map, get_or, refl, sym, ◌∙◌, ap, subst, arith, inl, inr, ⊎_elim}
use Rattle.std.specs.Prelude.{is_none}
use Rattle.std.specs.List.{slice_get, count_by, sum_by}
use Rattle.std.proofs.lemmas.List.Sums.{sum_by-cons}
use Rattle.std.proofs.lemmas.Option.{slice_get_within, slice_get_cases, slice_get-get_or}
use Rattle.mely_event.specs.declared.colour.Colour.{Colour}
use Rattle.mely_event.specs.declared.event.Event.{Event}
use Rattle.mely_event.specs.declared.trail.Trail.{Ghosts as TrailWords}
use Rattle.mely_history.specs.Setup.{shape_of, colours_of, is_listed}
use Rattle.mely_history.specs.declared.setup.Setup.{Setup}
use Rattle.mely_history.specs.ColourAccount.{account_of}
use Rattle.mely_queue.specs.Turn.{EachFits}
use Rattle.mely_shard.specs.declared.colour_slot.ColourSlot.{ColourSlot}
use Rattle.mely_shard.specs.Shard.{ColourState, colour_at, initial_lane, AreInitialStates}
use Rattle.mely_history.specs.Kept.{limit_of}
use Rattle.mely_shard.specs.Invariant.{IsInitialSlot, AreInitialSlots, IsConsistentShard, SlotStands, StateStands, is_away, lane_of}
use Rattle.mely_shard.proofs.RegisterLemmas.{colour_at-place}

-- what stands in a list with one more at its end stood there, or is the last
slice_get-push : {X : Type 0} (xs : List X) (x y : X) (i : ℕ) → slice_get (xs ++ x ∷ []) i ≡ Some y → (slice_get xs i ≡ Some y) ⊎ ((i ≡ length xs) × (x ≡ y))
slice_get-push [] x y zero is = let same : x ≡ y = cc in inr (refl, same)
slice_get-push [] x y (suc i) is = inl is
slice_get-push (z ∷ xs) x y zero is = inl is
slice_get-push (z ∷ xs) x y (suc i) is = ⊎_elim
    (λ (before : slice_get xs i ≡ Some y). inl before)
    (λ (last : (i ≡ length xs) × (x ≡ y)). let at = last.0 in inr (omega (arith, at), last.1))
    (slice_get-push xs x y i is)

-- one more slot of one more state
pub initial_more : {S P : Type 0} (setup : Setup) (shard : ℕ) (states : List S) (slots : List (ColourSlot S P)) (state : S) (slot : ColourSlot S P) → length slots ≡ length states → AreInitialSlots setup shard states slots → IsInitialSlot setup (colour_at setup shard (length states)).0 state slot → AreInitialSlots setup shard (states ++ state ∷ []) (slots ++ slot ∷ [])
initial_more setup shard states slots state slot many old new i s b s_is b_is = ⊎_elim
    (λ (s_old : slice_get states i ≡ Some s). ⊎_elim
    (λ (b_old : slice_get slots i ≡ Some b). old i s b s_old b_old)
    (λ (b_new : (i ≡ length slots) × (slot ≡ b)). let low = slice_get_within states i s s_old in let at = b_new.0 in absurd (omega (arith, low, at, many)))
    (slice_get-push slots slot b i b_is))
    (λ (s_new : (i ≡ length states) × (state ≡ s)). ⊎_elim
    (λ (b_old : slice_get slots i ≡ Some b). let low = slice_get_within slots i b b_old in let at = s_new.0 in absurd (omega (arith, low, at, many)))
    (λ (b_new : (i ≡ length slots) × (slot ≡ b)).
    subst (λ k. IsInitialSlot setup (colour_at setup shard k).0 s b) (sym s_new.0)
    (subst (λ t. IsInitialSlot setup (colour_at setup shard (length states)).0 t b) s_new.1 (subst (λ k. IsInitialSlot setup (colour_at setup shard (length states)).0 state k) b_new.1 new)))
    (slice_get-push slots slot b i b_is))
    (slice_get-push states state s i s_is)

-- lists that agree at each place, by what is made of their items, have the same made of them
maps_alike : {X Y Z : Type 0} (f : X → Z) (h : Y → Z) (xs : List X) (ys : List Y) → length xs ≡ length ys → ((i : ℕ) (x : X) (y : Y) → slice_get xs i ≡ Some x → slice_get ys i ≡ Some y → f x ≡ h y) → map f xs ≡ map h ys
maps_alike f h [] [] many same = refl
maps_alike f h [] (y ∷ ys) many same = absurd (omega (arith, many))
maps_alike f h (x ∷ xs) [] many same = absurd (omega (arith, many))
maps_alike f h (x ∷ xs) (y ∷ ys) many same =
    let rest = maps_alike f h xs ys (omega (arith, many)) (λ i a b a_is b_is. same (suc i) a b a_is b_is) in
    ap (λ z. z ∷ map f xs) (same 0 x y refl refl) ∙ ap (λ zs. h y ∷ zs) rest

-- no state is away
none_away : {S P : Type 0} (slots : List (ColourSlot S P)) → ((i : ℕ) (slot : ColourSlot S P) → slice_get slots i ≡ Some slot → is_away slot ≡ false) → count_by is_away slots ≡ 0
none_away [] home = refl
none_away (slot ∷ slots) home =
    let one : Bool → ℕ = λ t. cond t 1 0 in
    let first : one (is_away slot) ≡ 0 = ap one (home 0 slot refl) in
    let rest = none_away slots (λ i b is. home (suc i) b is) in
    let split : sum_by (λ b. one (is_away b)) (slot ∷ slots) ≡ one (is_away slot) + sum_by (λ b. one (is_away b)) slots = sum_by-cons (λ b. one (is_away b)) slot slots in
    omega (arith, first, rest, split)

module _ {S P F : Type 0} (t : TrailWords S F) (fits : F → Colour → Event → Option P → Type 0) (setup : Setup) (shard : ℕ) (states : List S) (slots : List (ColourSlot S P)) (numbered : shard < (shape_of setup).shards) (given : AreInitialStates t setup shard states) (many : length slots ≡ length states) (first : AreInitialSlots setup shard states slots) where
  -- the first slot of a place
  first_at : (i : ℕ) (slot : ColourSlot S P) → slice_get slots i ≡ Some slot → (state : S) × (slice_get states i ≡ Some state) × IsInitialSlot setup (colour_at setup shard i).0 state slot
  first_at i slot is = ⊎_elim
      (λ there. (there.0, there.2, first i there.0 slot there.2 is))
      (λ past. let low = slice_get_within slots i slot is in let beyond = past.0 in absurd (omega (arith, low, beyond, many)))
      (slice_get_cases states i).1

  -- it has what the empty history says of its colour
  stands_first : (i : ℕ) (slot : ColourSlot S P) → slice_get slots i ≡ Some slot → SlotStands t fits setup (colour_at setup shard i) (account_of setup [] (colour_at setup shard i)) slot
  stands_first i slot is =
      let at = first_at i slot is in
      let slot_is = at.2 in
      let same : t.frame_of at.0 ≡ t.frame_of slot.given.value = ap t.frame_of (sym slot_is.given) in
      record {
        events = ap (λ q. map (λ e. e.0) q.events) slot_is.queue;
        weights = ap (λ q. q.weights) slot_is.queue;
        started = ap (λ q. q.started) slot_is.queue;
        finished = ap (λ q. q.finished) slot_is.queue;
        begun = omega arith;
        owner = slot_is.owner;
        fit = subst (λ q. EachFits (fits (t.frame_of slot.given.value) (colour_at setup shard i)) q.events) (sym slot_is.queue) tt;
        state = subst (λ home. StateStands t (colour_at setup shard i) slot.given.value (account_of setup [] (colour_at setup shard i)) slot.core slot.count home) (sym slot_is.home)
            (refl, given.untouched i at.0 at.1, given.coloured i at.0 at.1, same);
      }

  -- the fields keep what they are to keep
  pub kept_initial : (capacity : ℕ) → capacity ≤ limit_of (is_listed setup) → IsConsistentShard t fits setup shard [] slots 0 capacity
  kept_initial capacity limited = record {
    legal = λ at entry is. cc;
    numbered = numbered;
    whole = λ c lt of. let all = given.all (c / (shape_of setup).shards) (subst (λ k. k < colours_of setup) (sym (ap (λ k. k.0) (colour_at-place setup shard (record { 0 = c }) of))) lt) in omega (arith, all, many);
    only = λ i lt. given.only i (omega (arith, lt, many));
    each = λ i d lt. stands_first i (get_or slots i d) (slice_get-get_or slots i d lt);
    own = tt;
    frames = λ i j d li lj.
        let one = first_at i (get_or slots i d) (slice_get-get_or slots i d li) in
        let other = first_at j (get_or slots j d) (slice_get-get_or slots j d lj) in
        ap t.frame_of one.2.given ∙ given.one_frame i j one.0 other.0 one.1 other.1 ∙ ap t.frame_of (sym other.2.given);
    counted = sym (none_away slots (λ i slot is. ap is_none (first_at i slot is).2.home));
    room = omega arith;
    limited = limited;
  }

  -- the lanes are those of the states
  pub lanes_initial : map lane_of slots ≡ map initial_lane states
  lanes_initial = maps_alike lane_of initial_lane slots states many (λ i slot state slot_at state_at.
      let is = first i state slot state_at slot_at in
      lanes_equal (lane_of slot) (initial_lane state) is.home is.given (ap (λ q. q.events) is.queue)) where
        lanes_equal : (a b : ColourState S P) → a.state ≡ b.state → a.given ≡ b.given → a.events ≡ b.events → a ≡ b
        lanes_equal a b s g e = ap (λ x. record a { state = x }) s ∙ ap (λ x. record { state = b.state; given = x; events = a.events }) g ∙ ap (λ x. record { state = b.state; given = b.given; events = x }) e
