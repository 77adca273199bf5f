-- The lane of a colour, and its shard, in a weave that stands well.
use Rattle.std.proofs.Common.{◌≡◌, ◌<◌, ◌≤◌, List, Option, None, Some, refl, sym, ◌∙◌, ap, subst, arith}
use Rattle.std.proofs.lemmas.Option.{same_Some}
use Rattle.std.specs.Prelude.{slice_get, option_map}
use Rattle.mely_event.specs.declared.colour.Colour.{Colour}
use Rattle.mely_event.specs.declared.event.Event.{Event}
use Rattle.mely_event.specs.declared.trail.Trail.{Ghosts as TrailWords}
use Rattle.mely_history.specs.declared.entry.Entry.{Entry}
use Rattle.mely_history.specs.declared.setup.Setup.{Setup}
use Rattle.mely_history.specs.Setup.{shape_of, colours_of}
use Rattle.mely_shard.specs.Shard.{ShardState, ColourState, IsOwn, lane_at}
use Rattle.mely_weave.specs.Lanes.{lane_in, lane_for}
use Rattle.mely_weave.specs.Side.{shard_of}
use Rattle.mely_weave.specs.StandsWell.{StandsWell}
use Rattle.mely_weave.specs.Weave.{WeaveState}
use Rattle.mely_weave.specs.WeaveStands.{WeaveStands}
use Rattle.mely_weave.proofs.Wholes.GatherLemmas.{get_there}

-- the shard of a history that comes out
pub shard_with : {S P : Type 0} (o : Option (ShardState S P)) (history : List Entry) → option_map (λ (has : ShardState S P). has.history) o ≡ Some history → (has : ShardState S P) × (o ≡ Some has) × (has.history ≡ history)
shard_with None history is = cc
shard_with (Some has) history is = (has, refl, same_Some has.history history is)

module _ {S P F : Type 0} (t : TrailWords S F) (fits : F → Colour → Event → Option P → Type 0) (weave : WeaveState S P) (well : StandsWell t fits weave) where
  -- the shard of a colour is there
  pub shard_on : (c : Colour) → (has : ShardState S P) × (slice_get weave.shards (shard_of weave.setup c) ≡ Some has)
  shard_on c =
      let some : 1 ≤ (shape_of weave.setup).shards = weave.setup.shards_in.0 in
      let many = well.shards in
      get_there weave.shards (shard_of weave.setup c) (omega (arith, some, many))

  -- a colour has a lane in its shard
  pub record HasLane (c : Colour) : Type 0 where
    pub has : ShardState S P
    pub there : slice_get weave.shards (shard_of weave.setup c) ≡ Some has
    pub lane : ColourState S P
    pub lane_is : lane_for weave.setup weave.shards c ≡ Some lane
    pub at : lane_at has c ≡ Some lane
    pub own : IsOwn has c

  pub has_lane : WeaveStands t fits weave → (c : Colour) → c.0 < colours_of weave.setup → HasLane c
  has_lane stands c low =
      let shard = shard_on c in
      let here = well.shard (shard_of weave.setup c) shard.0 shard.1 in
      let lane = stands.whole.lanes c low in
      record {
        has = shard.0;
        there = shard.1;
        lane = lane.0;
        lane_is = lane.1;
        at = sym (ap (λ o. lane_in o c) shard.1) ∙ lane.1;
        own = record {
          there = subst (λ (s : Setup). c.0 < colours_of s) (sym here.of_setup) low;
          here = ap (λ (s : Setup). shard_of s c) here.of_setup ∙ sym here.numbered;
        };
      }
