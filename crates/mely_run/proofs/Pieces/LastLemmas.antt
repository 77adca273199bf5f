-- Where nothing is left to do, an app has the states that are left and no event that is to come.
use Rattle.std.proofs.Common.{◌≡◌, ◌<◌, ◌+◌, ◌*◌, ◌/◌, ℕ, suc, Bool, true, false, List, [], ◌∷◌, Option, None, Some, length, map, All, arith, refl, ap, subst, ◌∙◌}
use Rattle.std.specs.Prelude.{slice_get, flat_map, sum_by}
use Rattle.std.proofs.lemmas.Option.{same_Some, slice_get_within, get_or_from_slice_get}
use Rattle.std.proofs.lemmas.Nat.{mod-mul-add, div-mul-add}
use Rattle.std.proofs.lemmas.List.Sums.{sum_by-append, sum_by-cons}
use Rattle.mely_event.specs.declared.colour.Colour.{Colour}
use Rattle.mely_event.specs.declared.event.Event.{Event}
use Rattle.mely_event.specs.declared.trail.Trail.{Ghosts as TrailWords}
use Rattle.mely_history.specs.declared.setup.Setup.{Setup}
use Rattle.mely_history.specs.Setup.{shape_of, colours_of}
use Rattle.mely_shard.specs.Shard.{ShardState, ColourState, colour_at, place}
use Rattle.mely_worker.specs.declared.phase.Phase.{Phase}
use Rattle.mely_worker.specs.declared.phase.Phase.TheVariants as at
use Rattle.mely_worker.specs.Phase.{is_free}
use Rattle.mely_weave.specs.Side.{shard_of}
use Rattle.mely_weave.specs.Lanes.{lane_in, lane_for, AreByColour}
use Rattle.mely_weave.specs.StandsWell.{StandsWell}
use Rattle.mely_weave.specs.Weave.{WeaveState}
use Rattle.mely_weave.specs.Drains.{IsQuiet}
use Rattle.mely_run.specs.Pieces.{state_piece, event_piece, of_state, of_lane, of_lanes, of_shard, of_phase, of_worker, pieces}
use Rattle.mely_run.proofs.Lists.ElementsLemmas.{get_map_back}
use Rattle.mely_run.proofs.Pieces.ChangesLemmas.{one_if, spoilt_in, how_spoilt}

-- what all give is nothing where each gives nothing
none_of_all : {A Y : Type 0} (f : A → List Y) (g : Y → ℕ) (xs : List A) → ((i : ℕ) (x : A) → slice_get xs i ≡ Some x → sum_by g (f x) ≡ 0) → sum_by g (flat_map f xs) ≡ 0
none_of_all f g [] each = refl
none_of_all f g (x ∷ xs) each =
    let both = sum_by-append g (f x) (flat_map f xs) in
    let one = each 0 x refl in
    omega (arith, both, one, none_of_all f g xs (λ i. each (suc i)))

free_has_none : {S P : Type 0} (phase : Phase S P) → is_free phase ≡ true → of_phase phase ≡ []
free_has_none (at.Free place) free = refl
free_has_none (at.Popped mark) free = cc
free_has_none (at.Picked mark victim) free = cc
free_has_none (at.Landing mark) free = cc
free_has_none (at.Pushing to mark) free = cc
free_has_none (at.Turning turn hand puts) free = cc

module _ {S : Type 0} (P : Type 0) (spoilt : S → Bool) where
  -- the state of a lane isn't spoilt, where it is at home
  abbrev IsFine : ColourState S P → Type 0
  IsFine lane = (state : S) → lane.state ≡ Some state → spoilt state ≡ false

  events_fine : (c : Colour) (events : List (Event × Option P)) → how_spoilt {S = S} {P = P} spoilt (map (λ e. event_piece c e.0 e.1) events) ≡ 0
  events_fine c [] = refl
  events_fine c (e ∷ events) = let one = sum_by-cons (spoilt_in spoilt) (event_piece {S = S} c e.0 e.1) (map (λ (e : Event × Option P). event_piece c e.0 e.1) events) in omega (arith, one, events_fine c events)

  state_fine : (c : Colour) (home : Option S) → ((state : S) → home ≡ Some state → spoilt state ≡ false) → how_spoilt {S = S} {P = P} spoilt (of_state c home) ≡ 0
  state_fine c None fine = refl
  state_fine c (Some state) fine =
      let one = sum_by-cons (spoilt_in {S = S} {P = P} spoilt) (state_piece c state) [] in
      let none : one_if (spoilt state) ≡ 0 = ap (λ (b : Bool). one_if b) (fine state refl) in
      omega (arith, one, none)

  lane_fine : (c : Colour) (lane : ColourState S P) → IsFine lane → how_spoilt {S = S} {P = P} spoilt (of_lane c lane) ≡ 0
  lane_fine c lane fine =
      let both = sum_by-append (spoilt_in spoilt) (of_state c lane.state) (map (λ (e : Event × Option P). event_piece c e.0 e.1) lane.events) in
      omega (arith, both, state_fine c lane.state fine, events_fine c lane.events)

  lanes_fine : (setup : Setup) (shard i : ℕ) (lanes : List (ColourState S P)) → ((k : ℕ) (lane : ColourState S P) → slice_get lanes k ≡ Some lane → IsFine lane) → how_spoilt {S = S} {P = P} spoilt (of_lanes setup shard i lanes) ≡ 0
  lanes_fine setup shard i [] each = refl
  lanes_fine setup shard i (lane ∷ lanes) each =
      let both = sum_by-append (spoilt_in spoilt) (of_lane (colour_at setup shard i) lane) (of_lanes setup shard (i + 1) lanes) in
      omega (arith, both, lane_fine (colour_at setup shard i) lane (each 0 lane refl), lanes_fine setup shard (i + 1) lanes (λ k. each (suc k)))

module _ {S P F : Type 0} (t : TrailWords S F) (fits : F → Colour → Event → Option P → Type 0) (weave : WeaveState S P) (well : StandsWell t fits weave) (quiet : IsQuiet weave) (left : List S) (are : AreByColour (λ lane. lane.state) weave.setup weave.shards (map (λ state. Some state) left)) where
  abbrev count : ℕ
  count = (shape_of weave.setup).shards

  -- the lane at a place of a shard is the lane of its colour
  lane_there : (g : ℕ) (has : ShardState S P) → slice_get weave.shards g ≡ Some has → (i : ℕ) (lane : ColourState S P) → slice_get has.lanes i ≡ Some lane → lane_for weave.setup weave.shards (record { 0 = i * count + g }) ≡ Some lane
  lane_there g has there i lane at =
      let is = well.shard g has there in
      let low : g < count = let within = slice_get_within weave.shards g has there in let many = well.shards in omega (arith, within, many) in
      let shard_is : shard_of weave.setup (record { 0 = i * count + g }) ≡ g = mod-mul-add i count g low in
      let place_is : place has.setup (record { 0 = i * count + g }) ≡ i = ap (λ (s : Setup). (i * count + g) / (shape_of s).shards) is.of_setup ∙ div-mul-add i count g low in
      ap (λ (o : Option (ShardState S P)). lane_in o (record { 0 = i * count + g })) (ap (slice_get weave.shards) shard_is ∙ there) ∙ ap (slice_get has.lanes) place_is ∙ at

  low_colour : (g : ℕ) (has : ShardState S P) → slice_get weave.shards g ≡ Some has → (i : ℕ) → i < length has.lanes → i * count + g < colours_of weave.setup
  low_colour g has there i low =
      let is = well.shard g has there in
      let one : (colour_at has.setup has.shard i).0 < colours_of has.setup = is.kept.only i low in
      subst (λ (s : Setup). i * (shape_of s).shards + g < colours_of s) is.of_setup (subst (λ (n : ℕ). i * (shape_of has.setup).shards + n < colours_of has.setup) is.numbered one)

  -- the state of a lane is one of those that are left
  state_left : (g : ℕ) (has : ShardState S P) → slice_get weave.shards g ≡ Some has → (i : ℕ) (lane : ColourState S P) → slice_get has.lanes i ≡ Some lane → (state : S) → lane.state ≡ Some state → slice_get left (i * count + g) ≡ Some state
  state_left g has there i lane at state home =
      let found = get_map_back (λ (s : S). Some s) left (i * count + g) lane.state
      (are.each (record { 0 = i * count + g }) lane (low_colour g has there i (slice_get_within has.lanes i lane at)) (lane_there g has there i lane at)) in
      found.1 ∙ ap (λ (s : S). Some s) (same_Some found.0 state (found.2 ∙ home))

  -- where none of them is spoilt, no piece is
  pub none_spoilt : (spoilt : S → Bool) → All (λ state. spoilt state ≡ false) left → how_spoilt spoilt (pieces weave) ≡ 0
  none_spoilt spoilt fine =
      let both = sum_by-append (spoilt_in spoilt) (flat_map of_shard weave.shards) (flat_map of_worker weave.workers) in
      let shards = none_of_all of_shard (spoilt_in spoilt) weave.shards
      (λ g has there. lanes_fine P spoilt has.setup has.shard 0 has.lanes
      (λ i lane at state home.
      let is_there = state_left g has there i lane at state home in
      subst (λ (s : S). spoilt s ≡ false) (get_or_from_slice_get left (i * count + g) state state is_there)
      (fine (i * count + g) state (slice_get_within left (i * count + g) state is_there)))) in
      let workers = none_of_all of_worker (spoilt_in spoilt) weave.workers
      (λ core w there. ap (sum_by (spoilt_in spoilt)) (free_has_none w.phase (quiet.free core w there))) in
      omega (arith, both, shards, workers)
