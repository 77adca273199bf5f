-- The lanes of the colours, where one shard changes.
use Rattle.std.proofs.Common.{◌≡◌, ◌≢◌, ℕ, ◌*◌, ◌/◌, List, [], ◌∷◌, ◌++◌, Option, Some, Result, Ok, Err, refl, sym, ◌∙◌, ap, subst, arith, inl, inr}
use Rattle.std.proofs.lemmas.Bool.{cases_eq}
use Rattle.std.proofs.lemmas.List.{append_assoc}
use Rattle.std.specs.Prelude.{slice_get, slice_set}
use Rattle.mely_event.specs.declared.colour.Colour.{Colour}
use Rattle.mely_event.specs.declared.event.Event.{Event}
use Rattle.mely_event.specs.declared.unregistered.Unregistered.{Unregistered}
use Rattle.mely_history.specs.declared.registered.Registered.{Registered}
use Rattle.mely_history.specs.declared.setup.Setup.{Setup}
use Rattle.mely_history.specs.Setup.{shape_of}
use Rattle.mely_shard.specs.Shard.{ShardState, ColourState, lane_at, place}
use Rattle.mely_weave.specs.Calls.{AtShard, RegisterAs}
use Rattle.mely_weave.specs.Lanes.{lane_in, lane_for}
use Rattle.mely_weave.specs.Side.{SideState, shard_of}
use Rattle.mely_weave.proofs.Entries.SideLemmas.{get_set_same, get_set_other}
use Rattle.mely_tally.specs.Tallies.{Carried}
use Rattle.mely_order.specs.Seen.{Put, lane_state, lane_events}
use Rattle.mely_order.specs.Steps.{Enters}

-- colours of one number are one
pub colour_same : (c d : Colour) → c.0 ≡ d.0 → c ≡ d
colour_same c d same = ap (λ (n : ℕ). let made : Colour = record { 0 = n } in made) same

-- two colours of one shard have two places
places_apart : (setup : Setup) (c d : Colour) → shard_of setup c ≡ shard_of setup d → c.0 ≢ d.0 → place setup c ≢ place setup d
places_apart setup c d one apart same =
    let n = (shape_of setup).shards in
    let some = setup.shards_in.0 in
    let product : n * (c.0 / n) ≡ n * (d.0 / n) = ap (λ (q : ℕ). n * q) same in
    apart (omega (arith, some, product, one))

-- a lane in a shard, which is of the setup
lane_of : {S P : Type 0} (setup : Setup) (has : ShardState S P) (c : Colour) → has.setup ≡ setup → lane_at has c ≡ slice_get has.lanes (place setup c)
lane_of setup has c same = ap (λ (s : Setup). slice_get has.lanes (place s c)) same

module _ {S P : Type 0} (a b : SideState S P) (z : Colour) (Does : ShardState S P → ShardState S P → Type 0) (at : AtShard a b z Does) (old_setup : at.old.setup ≡ a.setup) (new_setup : at.new.setup ≡ at.old.setup) where
  setup_is : at.new.setup ≡ a.setup
  setup_is = new_setup ∙ old_setup

  -- a colour's lane afterwards, by the shard that changed
  lane_there : (c : Colour) → lane_for b.setup b.shards c ≡ lane_in (slice_get (slice_set a.shards (shard_of a.setup z) at.new) (shard_of a.setup c)) c
  lane_there c = ap (λ (s : SideState S P). lane_for s.setup s.shards c) at.becomes

  in_new : (c : Colour) → shard_of a.setup c ≡ shard_of a.setup z → lane_for b.setup b.shards c ≡ slice_get at.new.lanes (place a.setup c)
  in_new c same =
      lane_there c
      ∙ ap (λ (g : ℕ). lane_in (slice_get (slice_set a.shards (shard_of a.setup z) at.new) g) c) same
      ∙ ap (λ (o : Option (ShardState S P)). lane_in o c) (get_set_same a.shards (shard_of a.setup z) at.old at.new at.was)
      ∙ lane_of a.setup at.new c setup_is

  in_old : (c : Colour) → shard_of a.setup c ≡ shard_of a.setup z → lane_for a.setup a.shards c ≡ slice_get at.old.lanes (place a.setup c)
  in_old c same =
      ap (λ (g : ℕ). lane_in (slice_get a.shards g) c) same
      ∙ ap (λ (o : Option (ShardState S P)). lane_in o c) at.was
      ∙ lane_of a.setup at.old c old_setup

  elsewhere : (c : Colour) → (shard_of a.setup c ≡ shard_of a.setup z → ⊥) → lane_for b.setup b.shards c ≡ lane_for a.setup a.shards c
  elsewhere c apart =
      lane_there c ∙ ap (λ (o : Option (ShardState S P)). lane_in o c) (get_set_other a.shards (shard_of a.setup z) (shard_of a.setup c) at.new apart)

  -- no lane changes
  pub lanes_stay : at.new.lanes ≡ at.old.lanes → (c : Colour) → lane_for b.setup b.shards c ≡ lane_for a.setup a.shards c
  lanes_stay stay c = elim (cases_eq (shard_of a.setup c) (shard_of a.setup z)) [
    | inl same ↦ in_new c same ∙ ap (λ (l : List (ColourState S P)). slice_get l (place a.setup c)) stay ∙ sym (in_old c same)
    | inr apart ↦ elsewhere c apart
  ]

  -- that of the colour changes
  module _ (before after : ColourState S P) (was : lane_at at.old z ≡ Some before) (is : at.new.lanes ≡ slice_set at.old.lanes (place at.old.setup z) after) where
    pub lane_before : lane_for a.setup a.shards z ≡ Some before
    lane_before = in_old z refl ∙ sym (lane_of a.setup at.old z old_setup) ∙ was

    pub lane_after : lane_for b.setup b.shards z ≡ Some after
    lane_after =
        in_new z refl
        ∙ ap (λ (l : List (ColourState S P)). slice_get l (place a.setup z)) (is ∙ ap (λ (s : Setup). slice_set at.old.lanes (place s z) after) old_setup)
        ∙ get_set_same at.old.lanes (place a.setup z) before after (sym (lane_of a.setup at.old z old_setup) ∙ was)

    pub lanes_beside : (c : Colour) → c.0 ≢ z.0 → lane_for b.setup b.shards c ≡ lane_for a.setup a.shards c
    lanes_beside c apart = elim (cases_eq (shard_of a.setup c) (shard_of a.setup z)) [
      | inl same ↦
          in_new c same
          ∙ ap (λ (l : List (ColourState S P)). slice_get l (place a.setup c)) (is ∙ ap (λ (s : Setup). slice_set at.old.lanes (place s z) after) old_setup)
          ∙ get_set_other at.old.lanes (place a.setup z) (place a.setup c) after (places_apart a.setup c z same apart)
          ∙ sym (in_old c same)
      | inr other ↦ elsewhere c other
    ]

-- ---- where a registration enters a line

register_setup : {S P : Type 0} (c : Colour) (event : Event) (load : Option P) (by : ℕ) (answer : Result Registered (Unregistered P)) (old new : ShardState S P) → RegisterAs c event load by answer old new → new.setup ≡ old.setup
register_setup c event load by (Ok reply) old new does = does.0.after.same_setup
register_setup c event load by (Err back) old new does = does.same_setup

-- the lanes have the states that they had, and the event waits behind the others of its colour
pub record LanesEntered {S P : Type 0} (a b : SideState S P) (put : Put P) (answer : Result Registered (Unregistered P)) : Type 0 where
  pub home : (c : Colour) → lane_state (lane_for b.setup b.shards c) ≡ lane_state (lane_for a.setup a.shards c)
  pub enters : Enters answer (put.1, put.2) (lane_events (lane_for a.setup a.shards put.0)) (lane_events (lane_for b.setup b.shards put.0))
  pub others : (c : Colour) → c.0 ≢ put.0.0 → lane_for b.setup b.shards c ≡ lane_for a.setup a.shards c

pub lanes_entered : {S P : Type 0} (a b : SideState S P) (put : Put P) (by : ℕ) (answer : Result Registered (Unregistered P)) → (at : AtShard a b put.0 (RegisterAs put.0 put.1 put.2 by answer)) → at.old.setup ≡ a.setup → LanesEntered a b put answer
lanes_entered {S} {P} a b put by (Ok reply) at setup =
    let does = at.does.0 in
    let Does = RegisterAs {S = S} put.0 put.1 put.2 by (Ok reply) in
    let more : ColourState S P = record does.before { events = does.before.events ++ (put.1, put.2) ∷ [] } in
    let was = lane_before a b put.0 Does at setup does.after.same_setup does.before more does.was does.after.lanes in
    let is = lane_after a b put.0 Does at setup does.after.same_setup does.before more does.was does.after.lanes in
    let beside = lanes_beside a b put.0 Does at setup does.after.same_setup does.before more does.was does.after.lanes in
    let own : lane_state (lane_for b.setup b.shards put.0) ≡ lane_state (lane_for a.setup a.shards put.0) = ap (λ (o : Option (ColourState S P)). lane_state o) is ∙ sym (ap (λ (o : Option (ColourState S P)). lane_state o) was) in
    record {
      home = λ c. elim (cases_eq c.0 put.0.0) [
        | inl same ↦ subst (λ (d : Colour). lane_state (lane_for b.setup b.shards d) ≡ lane_state (lane_for a.setup a.shards d)) (sym (colour_same c put.0 same)) own
        | inr apart ↦ ap (λ (o : Option (ColourState S P)). lane_state o) (beside c apart)
      ];
      enters = ap (λ (o : Option (ColourState S P)). lane_events o) is ∙ ap (λ (o : Option (ColourState S P)). lane_events o ++ (put.1, put.2) ∷ []) (sym was);
      others = beside;
    }
lanes_entered {S} {P} a b put by (Err back) at setup =
    let stay = lanes_stay a b put.0 (RegisterAs put.0 put.1 put.2 by (Err back)) at setup at.does.same_setup at.does.lanes in
    record {
      home = λ c. ap (λ (o : Option (ColourState S P)). lane_state o) (stay c);
      enters = ap (λ (o : Option (ColourState S P)). lane_events o) (stay put.0);
      others = λ c apart. stay c;
    }

-- the same behind what is left of a turn
pub enters_behind : {P : Type 0} (left : List (Carried P)) (answer : Result Registered (Unregistered P)) (event : Carried P) (before later : List (Carried P)) → Enters answer event before later → Enters answer event (left ++ before) (left ++ later)
enters_behind left (Ok reply) event before later enters = ap (λ l. left ++ l) enters ∙ sym (append_assoc left before (event ∷ []))
enters_behind left (Err back) event before later enters = ap (λ l. left ++ l) enters

-- the shard in which it was registered is of the setup, where the shard afterwards is
pub registered_setup : {S P : Type 0} (a b : SideState S P) (c : Colour) (event : Event) (load : Option P) (by : ℕ) (answer : Result Registered (Unregistered P)) → (at : AtShard a b c (RegisterAs c event load by answer)) → at.new.setup ≡ a.setup → at.old.setup ≡ a.setup
registered_setup a b c event load by answer at now = sym (register_setup c event load by answer at.old at.new at.does) ∙ now
