-- Where the pieces of a weave are after each line of the worker's rule.
use Rattle.std.proofs.Common.{◌≡◌, ◌<◌, ◌+◌, ◌*◌, ◌/◌, ℕ, List, ◌++◌, Option, Some, append_assoc, arith, sym, ap, subst, ◌∙◌}
use Rattle.std.specs.Prelude.{slice_get, slice_set, flat_map, IsPermutation}
use Rattle.std.proofs.lemmas.Nat.{div-add-mod'}
use Rattle.std.proofs.lemmas.List.Sorted.{IsPermutation-append_left, IsPermutation-append_right, IsPermutation-append}
use Rattle.mely_event.specs.declared.colour.Colour.{Colour}
use Rattle.mely_event.specs.declared.event.Event.{Event}
use Rattle.mely_event.specs.declared.trail.Trail.{Ghosts as TrailWords}
use Rattle.mely_history.specs.declared.entry.Entry.{Entry}
use Rattle.mely_history.specs.Setup.{shape_of}
use Rattle.mely_shard.specs.Shard.{ShardState, ColourState, IsOwn, Appends, colour_at, place, lane_at}
use Rattle.mely_worker.specs.Access.{IsColour}
use Rattle.mely_worker.specs.Worker.{WorkerState}
use Rattle.mely_weave.specs.Side.{SideState, shard_of}
use Rattle.mely_weave.specs.StandsWell.{side_of, StandsWell}
use Rattle.mely_weave.specs.Weave.{WeaveState}
use Rattle.mely_weave.specs.Steps.{with_workers}
use Rattle.mely_weave.proofs.Entries.SideLemmas.{shard_owns}
use Rattle.mely_weave.proofs.Lines.LineLemmas.{stands}
use Rattle.mely_run.specs.Pieces.{Piece, of_lane, of_lanes, of_shard, of_worker, pieces}
use Rattle.mely_run.proofs.Pieces.PermutingLemmas.{same_order, onward, back, past, Out, out, lane_out}

-- a lane's and a worker's pieces in front of all others
regroup : {A : Type 0} (lane more shards worker workers : List A) → IsPermutation (((lane ++ more) ++ shards) ++ (worker ++ workers)) (lane ++ (worker ++ ((more ++ shards) ++ workers)))
regroup lane more shards worker workers =
    onward (same_order (((lane ++ more) ++ shards) ++ (worker ++ workers)) (lane ++ ((more ++ shards) ++ (worker ++ workers))) (simp append_assoc))
    (IsPermutation-append_right lane ((more ++ shards) ++ (worker ++ workers)) (worker ++ ((more ++ shards) ++ workers)) (past (more ++ shards) worker workers))

-- the place of a colour in its shard is the colour's
own_place : {S P : Type 0} (has : ShardState S P) (c : Colour) → IsOwn has c → colour_at has.setup has.shard (0 + place has.setup c) ≡ c
own_place has c own =
    let at : 0 + place has.setup c ≡ place has.setup c = omega arith in
    ap (λ (n : ℕ). colour_at has.setup has.shard n) at
    ∙ ap (λ (n : ℕ). record { 0 = c.0 / (shape_of has.setup).shards * (shape_of has.setup).shards + n }) (sym own.here)
    ∙ ap (λ (n : ℕ). record { 0 = n }) (div-add-mod' c.0 (shape_of has.setup).shards)

module _ {S P F : Type 0} (t : TrailWords S F) (fits : F → Colour → Event → Option P → Type 0) (weave : WeaveState S P) (well : StandsWell t fits weave) (k : ℕ) (w : WorkerState S P) (here : slice_get weave.workers k ≡ Some w) (low : k < (shape_of weave.setup).cores) where
  abbrev a : SideState S P
  a = side_of weave k

  -- the weave after the step
  abbrev pub next : SideState S P → WorkerState S P → WeaveState S P
  next b v = with_workers b (slice_set weave.workers k v)

  worker_out : Out of_worker weave.workers k w
  worker_out = out of_worker weave.workers k w here

  -- the pieces that neither the worker nor a changed lane has
  shards_pieces : List (Piece S P)
  shards_pieces = flat_map of_shard weave.shards

  -- the worker's pieces in front
  pub record Before : Type 0 where
    pub rest : List (Piece S P)
    pub was : IsPermutation (pieces weave) (of_worker w ++ rest)
    pub becomes : (b : SideState S P) (v : WorkerState S P) → b.shards ≡ weave.shards → IsPermutation (of_worker v ++ rest) (pieces (next b v))

  pub worker_front : Before
  unfolding shards_pieces
  worker_front = record {
    rest = shards_pieces ++ worker_out.rest;
    was = onward (IsPermutation-append_right shards_pieces (flat_map of_worker weave.workers) (of_worker w ++ worker_out.rest) worker_out.was) (past shards_pieces (of_worker w) worker_out.rest);
    becomes = λ b v same.
        subst (λ (shards : List (ShardState S P)). IsPermutation (of_worker v ++ (shards_pieces ++ worker_out.rest)) (flat_map of_shard shards ++ flat_map of_worker (slice_set weave.workers k v))) (sym same)
        (onward (past (of_worker v) shards_pieces worker_out.rest)
        (IsPermutation-append_right shards_pieces (of_worker v ++ worker_out.rest) (flat_map of_worker (slice_set weave.workers k v)) (back (worker_out.becomes v))));
  }

  -- nothing is moved
  pub none_moves : (b : SideState S P) (v : WorkerState S P) → b.shards ≡ weave.shards → of_worker v ≡ of_worker w → IsPermutation (pieces weave) (pieces (next b v))
  none_moves b v shards same = onward worker_front.was (subst (λ (ps : List (Piece S P)). IsPermutation (ps ++ worker_front.rest) (pieces (next b v))) same (worker_front.becomes b v shards))

  -- a shard that has the same pieces
  pub shard_same : (b : SideState S P) (v : WorkerState S P) (g : ℕ) (old new : ShardState S P) → slice_get weave.shards g ≡ Some old → of_shard new ≡ of_shard old → b.shards ≡ slice_set weave.shards g new → of_worker v ≡ of_worker w
      → IsPermutation (pieces weave) (pieces (next b v))
  shard_same b v g old new there same becomes same_worker =
      let o = out of_shard weave.shards g old there in
      let moved : IsPermutation (flat_map of_shard weave.shards) (flat_map of_shard b.shards) =
      subst (λ (shards : List (ShardState S P)). IsPermutation (flat_map of_shard weave.shards) (flat_map of_shard shards)) (sym becomes)
      (onward o.was (subst (λ (ps : List (Piece S P)). IsPermutation (ps ++ o.rest) (flat_map of_shard (slice_set weave.shards g new))) same (back (o.becomes new)))) in
      let workers : IsPermutation (flat_map of_worker weave.workers) (flat_map of_worker (slice_set weave.workers k v)) =
      onward worker_out.was (subst (λ (ps : List (Piece S P)). IsPermutation (ps ++ worker_out.rest) (flat_map of_worker (slice_set weave.workers k v))) same_worker (back (worker_out.becomes v))) in
      IsPermutation-append (flat_map of_shard weave.shards) (flat_map of_shard b.shards) (flat_map of_worker weave.workers) (flat_map of_worker (slice_set weave.workers k v)) moved workers

  -- a lane's pieces and the worker's in front
  module _ (c : Colour) (in_setup : IsColour weave.setup c) (old : ShardState S P) (there : slice_get weave.shards (shard_of weave.setup c) ≡ Some old) (lane : ColourState S P) (lane_there : lane_at old c ≡ Some lane) where
    pub record LaneBefore : Type 0 where
      pub rest : List (Piece S P)
      pub was : IsPermutation (pieces weave) (of_lane c lane ++ (of_worker w ++ rest))
      pub becomes : (b : SideState S P) (v : WorkerState S P) (new : ShardState S P) (entry : Entry) (after : ColourState S P) → Appends old new entry c after → b.shards ≡ slice_set weave.shards (shard_of weave.setup c) new
          → IsPermutation (of_lane c after ++ (of_worker v ++ rest)) (pieces (next b v))

    own : IsOwn old c
    own = shard_owns t fits a (stands t fits weave well k w here low) c old in_setup there

    pub lane_front : LaneBefore
    lane_front =
        let o = out of_shard weave.shards (shard_of weave.setup c) old there in
        let l = lane_out old.setup old.shard 0 old.lanes (place old.setup c) lane lane_there in
        let at = own_place old c own in
        let w_out = worker_out in
        record {
          rest = (l.rest ++ o.rest) ++ w_out.rest;
          was =
              onward (IsPermutation-append (flat_map of_shard weave.shards) ((of_lane c lane ++ l.rest) ++ o.rest) (flat_map of_worker weave.workers) (of_worker w ++ w_out.rest)
              (onward o.was (IsPermutation-append_left o.rest (of_shard old) (of_lane c lane ++ l.rest) (subst (λ (d : Colour). IsPermutation (of_shard old) (of_lane d lane ++ l.rest)) at l.was)))
              w_out.was)
              (regroup (of_lane c lane) l.rest o.rest (of_worker w) w_out.rest);
          becomes = λ b v new entry after appends shards.
              let now : of_shard new ≡ of_lanes old.setup old.shard 0 (slice_set old.lanes (place old.setup c) after) = λ i. of_lanes (appends.same_setup i) (appends.same_shard i) 0 (appends.lanes i) in
              let lane_now : IsPermutation (of_shard new) (of_lane c after ++ l.rest) =
              subst (λ (ps : List (Piece S P)). IsPermutation ps (of_lane c after ++ l.rest)) (sym now)
              (subst (λ (d : Colour). IsPermutation (of_lanes old.setup old.shard 0 (slice_set old.lanes (place old.setup c) after)) (of_lane d after ++ l.rest)) at (l.becomes after)) in
              back (onward (IsPermutation-append (flat_map of_shard b.shards) ((of_lane c after ++ l.rest) ++ o.rest) (flat_map of_worker (slice_set weave.workers k v)) (of_worker v ++ w_out.rest)
              (subst (λ (ss : List (ShardState S P)). IsPermutation (flat_map of_shard ss) ((of_lane c after ++ l.rest) ++ o.rest)) (sym shards)
              (onward (o.becomes new) (IsPermutation-append_left o.rest (of_shard new) (of_lane c after ++ l.rest) lane_now)))
              (w_out.becomes v))
              (regroup (of_lane c after) l.rest o.rest (of_worker v) w_out.rest));
        }
