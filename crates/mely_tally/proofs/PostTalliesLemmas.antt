-- What a post does to all states and all events under way.
use Rattle.std.proofs.Common.{◌≡◌, ℕ, ◌+◌, Bool, List, ◌∷◌, [], Option, Result, Ok, Err, ◌∙◌, ap, arith}
use Rattle.std.proofs.lemmas.List.Sums.{sum_by-append}
use Rattle.std.specs.Prelude.{slice_set, flat_map, sum_by}
use Rattle.mely_event.specs.declared.colour.Colour.{Colour}
use Rattle.mely_event.specs.declared.event.Event.{Event}
use Rattle.mely_event.specs.declared.trail.Trail.{Ghosts as TrailWords}
use Rattle.mely_event.specs.declared.unregistered.Unregistered.{Unregistered}
use Rattle.mely_history.specs.Setup.{shape_of}
use Rattle.mely_history.specs.declared.registered.Registered.{Registered}
use Rattle.mely_history.specs.declared.registered.Registered.TheVariants.{Woke, Told, Running}
use Rattle.mely_shard.specs.Shard.{ShardState}
use Rattle.mely_worker.specs.Delivery.{delivery_after, Delivers}
use Rattle.mely_worker.specs.Worker.{WorkerState}
use Rattle.mely_weave.specs.Calls.{AtShard, RegisterAs, weave_words}
use Rattle.mely_weave.specs.Side.{SideState, shard_of}
use Rattle.mely_weave.specs.StandsWell.{side_of}
use Rattle.mely_weave.specs.Weave.{WeaveState}
use Rattle.mely_weave.specs.Steps.{PostsAt}
use Rattle.mely_tally.specs.Tallies.{Carried, homes_in, waiting_in, turned_by, hold_of}
use Rattle.mely_tally.specs.Tells.{GainsOnly, PostTells}
use Rattle.mely_tally.proofs.SumsLemmas.{sum_set}
use Rattle.mely_tally.proofs.FlowsLemmas.{register_homes, registered_waits, refused_waits}

module _ {S P F : Type 0} (t : TrailWords S F) where
  -- a delivery is made at a chain
  delivered_shards : (a b : SideState S P) (c : Colour) (reply : Registered) (arrived : Bool) → Delivers (weave_words t) a (delivery_after c reply) arrived b → b.shards ≡ a.shards
  delivered_shards a b c (Woke owner started worth) arrived does = ap (λ (s : SideState S P). s.shards) does.1.1.becomes
  delivered_shards a b c (Told owner started worth) arrived does = ap (λ (s : SideState S P). s.shards) does.becomes
  delivered_shards a b c (Running core) arrived does = ap (λ (s : SideState S P). s.shards) does.0

  -- a registration at a shard, after which no shard changes
  module _ (a b : WeaveState S P) (c : Colour) (event : Event) (load : Option P) (answer : Result Registered (Unregistered P)) (between : SideState S P) (at : AtShard (side_of a 0) between c (RegisterAs c event load (shape_of a.setup).cores answer)) (more : List (Carried P))
      (gains : (g : Carried P → ℕ) → sum_by g (waiting_in at.new) ≡ sum_by g (waiting_in at.old) + sum_by g more) (same : b.shards ≡ between.shards) (workers : b.workers ≡ a.workers) where
    shards : b.shards ≡ slice_set a.shards (shard_of a.setup c) at.new
    shards = same ∙ ap (λ (s : SideState S P). s.shards) at.becomes

    gains_only : GainsOnly a b more
    gains_only = record {
      states = λ f.
          let set = sum_set (λ (has : ShardState S P). homes_in has) f a.shards (shard_of a.setup c) at.old at.new at.was in
          let stays = register_homes f c event load (shape_of a.setup).cores answer at.old at.new at.does in
          let h = ap (λ (l : List (ShardState S P)). sum_by f (flat_map homes_in l)) shards in
          let w = ap (λ (l : List (WorkerState S P)). sum_by f (flat_map turned_by l)) workers in
          omega (arith, set, stays, h, w, sum_by-append f (flat_map homes_in b.shards) (flat_map turned_by b.workers), sum_by-append f (flat_map homes_in a.shards) (flat_map turned_by a.workers));
      ways = λ g.
          let set = sum_set (λ (has : ShardState S P). waiting_in has) g a.shards (shard_of a.setup c) at.old at.new at.was in
          let gain = gains g in
          let h = ap (λ (l : List (ShardState S P)). sum_by g (flat_map waiting_in l)) shards in
          let w = ap (λ (l : List (WorkerState S P)). sum_by g (flat_map hold_of l)) workers in
          omega (arith, set, gain, h, w, sum_by-append g (flat_map waiting_in b.shards) (flat_map hold_of b.workers), sum_by-append g (flat_map waiting_in a.shards) (flat_map hold_of a.workers));
    }

  pub post_tells : (a b : WeaveState S P) (c : Colour) (event : Event) (load : Option P) (answer : Result Registered (Unregistered P)) → PostsAt t a c event load answer b → PostTells event load answer a b
  post_tells a b c event load (Ok reply) posts =
      let registers = posts.posts.1 in
      gains_only a b c event load (Ok reply) posts.posts.0 registers ((event, load) ∷ [])
      (λ g. let more = registered_waits g c event load (shape_of a.setup).cores reply registers.old registers.new registers.does in omega (arith, more))
      (ap (λ (l : WeaveState S P). l.shards) posts.leaves ∙ delivered_shards posts.posts.0 posts.side c reply posts.posts.2.0 posts.posts.2.1)
      (ap (λ (l : WeaveState S P). l.workers) posts.leaves)
  post_tells a b c event load (Err back) posts =
      let registers = posts.posts in
      gains_only a b c event load (Err back) posts.side registers []
      (λ g. let same = refused_waits g c event load (shape_of a.setup).cores back registers.old registers.new registers.does in omega (arith, same))
      (ap (λ (l : WeaveState S P). l.shards) posts.leaves)
      (ap (λ (l : WeaveState S P). l.workers) posts.leaves)
