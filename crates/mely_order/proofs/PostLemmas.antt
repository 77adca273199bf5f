-- What a post changes of what is seen of the colours of a weave.
use Rattle.std.proofs.Common.{◌≡◌, Bool, List, ◌++◌, Option, Some, Result, Ok, Err, refl, sym, ◌∙◌, ap, subst}
use Rattle.std.specs.Prelude.{slice_get}
use Rattle.mely_event.specs.declared.colour.Colour.{Colour}
use Rattle.mely_event.specs.declared.event.Event.{Event}
use Rattle.mely_event.specs.declared.trail.Trail.{Ghosts as TrailWords}
use Rattle.mely_event.specs.declared.unregistered.Unregistered.{Unregistered}
use Rattle.mely_history.specs.declared.setup.Setup.{Setup}
use Rattle.mely_history.specs.Setup.{shape_of}
use Rattle.mely_history.specs.declared.registered.Registered.{Registered}
use Rattle.mely_history.specs.declared.registered.Registered.TheVariants.{Woke, Told, Running}
use Rattle.mely_shard.specs.Shard.{ShardState, ColourState}
use Rattle.mely_worker.specs.Delivery.{delivery_after, Delivers}
use Rattle.mely_weave.specs.Calls.{AtShard, RegisterAs, weave_words}
use Rattle.mely_weave.specs.Lanes.{lane_for}
use Rattle.mely_weave.specs.Side.{SideState, shard_of}
use Rattle.mely_weave.specs.SideStands.{SideStands}
use Rattle.mely_weave.specs.StandsWell.{side_of}
use Rattle.mely_weave.specs.Steps.{with_workers}
use Rattle.mely_weave.specs.Weave.{WeaveState}
use Rattle.mely_weave.specs.WeaveRun.{PostCall}
use Rattle.mely_weave.proofs.Entries.SideLemmas.{get_set_same}
use Rattle.mely_order.specs.Seen.{lane_state, lane_events, state_in, left_in, turns_of}
use Rattle.mely_order.specs.Steps.{Enters, PostSeen}
use Rattle.mely_order.proofs.LaneLemmas.{lanes_entered, enters_behind, registered_setup}

-- a delivery at a chain leaves the shards and the setup
record ShardsStay {S P : Type 0} (a b : SideState S P) : Type 0 where
  pub setup : b.setup ≡ a.setup
  pub shards : b.shards ≡ a.shards

shards_stay : {S P : Type 0} (a b : SideState S P) → (chains : List _) → b ≡ record a { chains = chains } → ShardsStay a b
shards_stay {S} {P} a b chains is = record { setup = ap (λ (s : SideState S P). s.setup) is; shards = ap (λ (s : SideState S P). s.shards) is }

delivered : {S P F : Type 0} (t : TrailWords S F) (a b : SideState S P) (c : Colour) (reply : Registered) (arrived : Bool) → Delivers (weave_words t) a (delivery_after c reply) arrived b → ShardsStay a b
delivered {S} {P} t a b c (Woke owner started worth) arrived does = shards_stay a b _ does.1.1.becomes
delivered {S} {P} t a b c (Told owner started worth) arrived does = shards_stay a b _ does.becomes
delivered {S} {P} t a b c (Running core) arrived does = record { setup = ap (λ (s : SideState S P). s.setup) does.0; shards = ap (λ (s : SideState S P). s.shards) does.0 }

module _ {S P F : Type 0} (t : TrailWords S F) (fits : F → Colour → Event → Option P → Type 0) (before : WeaveState S P) (c : Colour) (event : Event) (load : Option P) (answer : Result Registered (Unregistered P)) (side between : SideState S P) (parts : SideStands t fits side) (at : AtShard (side_of before 0) between c (RegisterAs c event load (shape_of before.setup).cores answer)) (stay : ShardsStay between side) where
  setup_is : side.setup ≡ before.setup
  setup_is = stay.setup ∙ ap (λ (s : SideState S P). s.setup) at.becomes

  there : slice_get side.shards (shard_of before.setup c) ≡ Some at.new
  there =
      ap (λ (l : List (ShardState S P)). slice_get l (shard_of before.setup c)) (stay.shards ∙ ap (λ (s : SideState S P). s.shards) at.becomes)
      ∙ get_set_same before.shards (shard_of before.setup c) at.old at.new at.was

  old_setup : at.old.setup ≡ before.setup
  old_setup = registered_setup (side_of before 0) between c event load (shape_of before.setup).cores answer at ((parts.shard (shard_of before.setup c) at.new there).of_setup ∙ setup_is)

  lane_is : (d : Colour) → lane_for side.setup side.shards d ≡ lane_for between.setup between.shards d
  lane_is d = ap (λ (l : List (ShardState S P)). lane_for side.setup l d) stay.shards ∙ ap (λ (s : Setup). lane_for s between.shards d) stay.setup

  entered : PostSeen c event load answer before (with_workers side before.workers)
  entered =
      let lanes = lanes_entered (side_of before 0) between (c, event, load) (shape_of before.setup).cores answer at old_setup in
      record {
        enters = enters_behind (left_in (turns_of c before.workers)) answer (event, load) (lane_events (lane_for before.setup before.shards c)) (lane_events (lane_for side.setup side.shards c))
            (subst (λ (o : Option (ColourState S P)). Enters answer (event, load) (lane_events (lane_for before.setup before.shards c)) (lane_events o)) (sym (lane_is c)) lanes.enters);
        states = λ d. ap (λ (o : Option (ColourState S P)). state_in (turns_of d before.workers) (lane_state o)) (lane_is d) ∙ ap (λ (o : Option S). state_in (turns_of d before.workers) o) (lanes.home d);
        lines = λ d apart. ap (λ (o : Option (ColourState S P)). left_in (turns_of d before.workers) ++ lane_events o) (lane_is d ∙ lanes.others d apart);
        puts = λ d. refl;
        lost = refl;
      }

pub post_seen : {S P F : Type 0} (t : TrailWords S F) (fits : F → Colour → Event → Option P → Type 0) (before after : WeaveState S P) (c : Colour) (event : Event) (load : Option P) (answer : Result Registered (Unregistered P)) → PostCall t fits c event load answer before after → PostSeen c event load answer before after
post_seen {S} {P} t fits before after c event load (Ok reply) call =
    let posts = call.posts.posts in
    subst (λ (l : WeaveState S P). PostSeen c event load (Ok reply) before l) (sym call.posts.leaves)
    (entered t fits before c event load (Ok reply) call.posts.side posts.0 call.parts posts.1 (delivered t posts.0 call.posts.side c reply posts.2.0 posts.2.1))
post_seen {S} {P} t fits before after c event load (Err back) call =
    subst (λ (l : WeaveState S P). PostSeen c event load (Err back) before l) (sym call.posts.leaves)
    (entered t fits before c event load (Err back) call.posts.side call.posts.side call.parts call.posts.posts (record { setup = refl; shards = refl }))
