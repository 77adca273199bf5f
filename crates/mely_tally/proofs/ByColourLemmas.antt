-- What the shards have, told by colour.
use Rattle.std.proofs.Common.{◌≡◌, ℕ, ◌+◌, ◌*◌, ◌%◌, ◌≤◌, ◌<◌, List, [], ◌∷◌, Option, None, Some, length, map, refl, sym, ◌∙◌, ap, arith, inl, inr}
use Rattle.std.proofs.lemmas.Bool.{cases_lt}
use Rattle.std.proofs.lemmas.List.{length-map}
use Rattle.std.proofs.lemmas.List.Sums.{sum_by-append, sum_by-cons}
use Rattle.std.proofs.lemmas.Nat.{div-mul-add, mod-mul-add}
use Rattle.std.proofs.lemmas.Option.{slice_get-map, slice_get_past, same_Some}
use Rattle.std.specs.Prelude.{slice_get, flat_map, sum_by, option_map}
use Rattle.mely_event.specs.declared.colour.Colour.{Colour}
use Rattle.mely_event.specs.declared.event.Event.{Event}
use Rattle.mely_event.specs.declared.trail.Trail.{Ghosts as TrailWords}
use Rattle.mely_history.specs.declared.setup.Setup.{Setup}
use Rattle.mely_history.specs.Setup.{shape_of, colours_of}
use Rattle.mely_shard.specs.Shard.{ShardState, ColourState, IsOwn, place, colour_at}
use Rattle.mely_weave.specs.Dealing.{AreDealt}
use Rattle.mely_weave.specs.Side.{shard_of}
use Rattle.mely_weave.specs.Lanes.{lane_in, lane_for}
use Rattle.mely_weave.specs.StandsWell.{StandsWell}
use Rattle.mely_weave.specs.Weave.{WeaveState}
use Rattle.mely_weave.proofs.Wholes.GatherLemmas.{get_there}
use Rattle.mely_tally.proofs.DealtLemmas.{dealt_sum}

-- what each lane has of a colour stands in the list at the colour's place
pub record TellsLane {S P X : Type 0} (of : ColourState S P → X) (weave : WeaveState S P) (xs : List X) (c : Colour) : Type 0 where
  pub lane : ColourState S P
  pub lane_is : lane_for weave.setup weave.shards c ≡ Some lane
  pub at : slice_get xs c.0 ≡ Some (of lane)

module _ {S P F : Type 0} (t : TrailWords S F) (fits : F → Colour → Event → Option P → Type 0) (weave : WeaveState S P) (well : StandsWell t fits weave) where
  -- the colour of a place in a shard is at that place
  pub place_is : (number i : ℕ) (has : ShardState S P) → slice_get weave.shards number ≡ Some has → place has.setup (colour_at has.setup has.shard i) ≡ i
  place_is number i has there = div-mul-add i (shape_of has.setup).shards has.shard (well.shard number has there).kept.numbered

  pub own_at : (number i : ℕ) (has : ShardState S P) → slice_get weave.shards number ≡ Some has → (colour_at has.setup has.shard i).0 < colours_of has.setup → IsOwn has (colour_at has.setup has.shard i)
  own_at number i has there low = record { there = low; here = mod-mul-add i (shape_of has.setup).shards has.shard (well.shard number has there).kept.numbered }

  module _ {X : Type 0} (of : ColourState S P → X) (xs : List X) (many : length xs ≡ colours_of weave.setup) (each : (c : Colour) → c.0 < colours_of weave.setup → TellsLane of weave xs c) where
    abbrev shards : ℕ
    shards = (shape_of weave.setup).shards

    module _ (number : ℕ) (has : ShardState S P) (there : slice_get weave.shards number ≡ Some has) (i : ℕ) where
      abbrev c : Colour
      c = colour_at has.setup has.shard i

      number_is : c.0 ≡ i * shards + number
      number_is =
          let stands = well.shard number has there in
          ap (λ (s : Setup). i * (shape_of s).shards + has.shard) stands.of_setup ∙ ap (λ n. i * shards + n) stands.numbered

      colours_are : colours_of has.setup ≡ colours_of weave.setup
      colours_are = ap (λ (s : Setup). colours_of s) (well.shard number has there).of_setup

      at_home : i < length has.lanes → slice_get (map of has.lanes) i ≡ slice_get xs c.0
      at_home under =
          let stands = well.shard number has there in
          let low = stands.kept.only i under in
          let told = each c (omega (arith, low, colours_are)) in
          let mine = get_there has.lanes i under in
          let shard_is : shard_of weave.setup c ≡ number = ap (λ (s : Setup). c.0 % (shape_of s).shards) (sym stands.of_setup) ∙ mod-mul-add i (shape_of has.setup).shards has.shard stands.kept.numbered ∙ stands.numbered in
          let found : lane_for weave.setup weave.shards c ≡ slice_get has.lanes i = ap (λ n. lane_in (slice_get weave.shards n) c) shard_is ∙ ap (λ (o : Option (ShardState S P)). lane_in o c) there ∙ ap (slice_get has.lanes) (place_is number i has there) in
          let same : mine.0 ≡ told.lane = same_Some mine.0 told.lane (sym mine.1 ∙ sym found ∙ told.lane_is) in
          slice_get-map of has.lanes i ∙ ap (option_map of) mine.1 ∙ ap (λ (l : ColourState S P). Some (of l)) same ∙ sym told.at

      past_all : length has.lanes ≤ i → slice_get (map of has.lanes) i ≡ slice_get xs c.0
      past_all over =
          let stands = well.shard number has there in
          let none : slice_get xs c.0 ≡ None = elim (cases_lt c.0 (colours_of has.setup)) [
            | inl low ↦
                let within = stands.kept.found c (own_at number i has there low) in
                let at = place_is number i has there in
                absurd (omega (arith, within, at, over))
            | inr high ↦ slice_get_past xs c.0 (omega (arith, high, many, colours_are))
          ] in
          slice_get_past (map of has.lanes) i (let same = length-map has.lanes of in omega (arith, same, over)) ∙ sym none

      dealt_at : slice_get (map of has.lanes) i ≡ slice_get xs (i * shards + number)
      dealt_at = elim (cases_lt i (length has.lanes)) [ inl under ↦ at_home under | inr over ↦ past_all over ] ∙ ap (slice_get xs) number_is

    dealt : AreDealt (λ (has : ShardState S P). map of has.lanes) shards xs weave.shards
    dealt = record { many = well.shards; each = dealt_at }

    -- where there is no shard, there is nothing of any colour
    none_there : weave.shards ≡ [] → (ys : List X) → xs ≡ ys → (g : X → ℕ) → sum_by g xs ≡ 0
    none_there none [] is g = ap (λ (l : List X). sum_by g l) is
    none_there none (y ∷ ys) is g =
        let some = ap length is in
        let first : Colour = record { 0 = 0 } in
        let told = each first (omega (arith, some, many)) in
        let lost : None ≡ Some told.lane = sym (ap (λ (l : List (ShardState S P)). lane_in (slice_get l (shard_of weave.setup first)) first) none) ∙ told.lane_is in
        cc

    sums_at : (all : List (ShardState S P)) → weave.shards ≡ all → (g : X → ℕ) → sum_by g (flat_map (λ (has : ShardState S P). map of has.lanes) weave.shards) ≡ sum_by g xs
    sums_at [] none g = ap (λ (l : List (ShardState S P)). sum_by g (flat_map (λ (has : ShardState S P). map of has.lanes) l)) none ∙ sym (none_there none xs refl g)
    sums_at (has ∷ more) are g =
        let stands = well.shard 0 has (ap (λ (l : List (ShardState S P)). slice_get l 0) are) in
        let numbered = stands.kept.numbered in
        let same = ap (λ (s : Setup). (shape_of s).shards) stands.of_setup in
        dealt_sum (λ (h : ShardState S P). map of h.lanes) shards (omega (arith, numbered, same)) xs weave.shards dealt g

    -- a sum over all lanes is one over the colours
    pub by_colour : (g : X → ℕ) → sum_by g (flat_map (λ (has : ShardState S P). map of has.lanes) weave.shards) ≡ sum_by g xs
    by_colour g = sums_at weave.shards refl g

-- the same of what each lane gives
of_lanes : {S P X Y : Type 0} (of : ColourState S P → X) (gives : X → List Y) (f : Y → ℕ) (lanes : List (ColourState S P)) → sum_by f (flat_map (λ (lane : ColourState S P). gives (of lane)) lanes) ≡ sum_by (λ (x : X). sum_by f (gives x)) (map of lanes)
of_lanes of gives f [] = refl
of_lanes {S} {P} of gives f (lane ∷ lanes) = sum_by-append f (gives (of lane)) (flat_map (λ (l : ColourState S P). gives (of l)) lanes) ∙ ap (λ n. sum_by f (gives (of lane)) + n) (of_lanes of gives f lanes) ∙ sym (sum_by-cons (λ x. sum_by f (gives x)) (of lane) (map of lanes))

pub of_shards : {S P X Y : Type 0} (of : ColourState S P → X) (gives : X → List Y) (f : Y → ℕ) (shards : List (ShardState S P)) → sum_by f (flat_map (λ (has : ShardState S P). flat_map (λ (lane : ColourState S P). gives (of lane)) has.lanes) shards) ≡ sum_by (λ (x : X). sum_by f (gives x)) (flat_map (λ (has : ShardState S P). map of has.lanes) shards)
of_shards of gives f [] = refl
of_shards {S} {P} {X} of gives f (has ∷ more) =
    let rest = of_shards of gives f more in
    let first = of_lanes of gives f has.lanes in
    omega (arith, rest, first, sum_by-append f (flat_map (λ (lane : ColourState S P). gives (of lane)) has.lanes) (flat_map (λ (h : ShardState S P). flat_map (λ (lane : ColourState S P). gives (of lane)) h.lanes) more), sum_by-append (λ (x : X). sum_by f (gives x)) (map of has.lanes) (flat_map (λ (h : ShardState S P). map of h.lanes) more))
