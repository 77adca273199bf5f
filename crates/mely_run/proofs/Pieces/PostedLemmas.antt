-- A post adds what it registers.
use Rattle.std.proofs.Common.{◌≡◌, ◌+◌, ◌*◌, ◌/◌, ◌%◌, ℕ, Bool, List, [], ◌∷◌, ◌++◌, Option, Ok, map, append_assoc, arith, sym, ap, subst, ◌∙◌}
use Rattle.std.specs.Prelude.{slice_set, flat_map, IsPermutation}
use Rattle.std.proofs.lemmas.Nat.{div-add-mod'}
use Rattle.std.proofs.lemmas.List.{map-append}
use Rattle.std.proofs.lemmas.List.Sorted.{IsPermutation-cons, IsPermutation-append_left, IsPermutation-middle}
use Rattle.mely_event.specs.declared.colour.Colour.{Colour}
use Rattle.mely_event.specs.declared.event.Event.{Event}
use Rattle.mely_event.specs.declared.trail.Trail.{Ghosts as TrailWords}
use Rattle.mely_history.specs.declared.setup.Setup.{Setup}
use Rattle.mely_history.specs.declared.registered.Registered.{Registered}
use Rattle.mely_history.specs.Setup.{shape_of}
use Rattle.mely_shard.specs.Shard.{ShardState, ColourState, colour_at, place}
use Rattle.mely_worker.specs.declared.delivery.Delivery.{Delivery}
use Rattle.mely_worker.specs.declared.delivery.Delivery.TheVariants.{Nothing, PushMark, Report}
use Rattle.mely_worker.specs.Delivery.{delivery_after, Delivers}
use Rattle.mely_worker.specs.Worker.{WorkerState}
use Rattle.mely_weave.specs.Side.{SideState, shard_of}
use Rattle.mely_weave.specs.Calls.{AtShard, RegisterAs, weave_words}
use Rattle.mely_weave.specs.Steps.{PostsAt}
use Rattle.mely_weave.specs.StandsWell.{side_of, StandsWell}
use Rattle.mely_weave.specs.Weave.{WeaveState}
use Rattle.mely_run.specs.Pieces.{Piece, event_piece, of_state, of_lane, of_lanes, of_shard, of_worker, pieces}
use Rattle.mely_run.proofs.Pieces.PermutingLemmas.{same_order, onward, back, out, lane_out}

module _ {S P F : Type 0} (t : TrailWords S F) (fits : F → Colour → Event → Option P → Type 0) (weave posted : WeaveState S P) (well : StandsWell t fits weave) (c : Colour) (event : Event) (load : Option P) (reply : Registered) (posts : PostsAt t weave c event load (Ok reply) posted) where
  abbrev between : SideState S P
  between = posts.posts.0

  abbrev called : AtShard (side_of weave 0) between c (RegisterAs c event load (shape_of weave.setup).cores (Ok reply))
  called = posts.posts.1

  delivered : (d : Delivery) (arrived : Bool) (side : SideState S P) → Delivers (weave_words t) between d arrived side → side.shards ≡ between.shards
  delivered Nothing arrived side same = ap (λ (s : SideState S P). s.shards) same.0
  delivered (PushMark owner mark) arrived side pushed = ap (λ (s : SideState S P). s.shards) pushed.1.1.becomes
  delivered (Report owner colour started worth) arrived side told = ap (λ (s : SideState S P). s.shards) told.becomes

  shards_are : posted.shards ≡ slice_set weave.shards (shard_of weave.setup c) called.new
  shards_are = ap (λ (l : WeaveState S P). l.shards) posts.leaves ∙ delivered (delivery_after c reply) posts.posts.2.0 posts.side posts.posts.2.1 ∙ ap (λ (s : SideState S P). s.shards) called.becomes

  workers_are : posted.workers ≡ weave.workers
  workers_are = ap (λ (l : WeaveState S P). l.workers) posts.leaves

  -- what a post registers comes beside what was there
  pub post_pieces : IsPermutation (event_piece c event load ∷ pieces weave) (pieces posted)
  post_pieces =
      let does = called.does.0 in
      let is = well.shard (shard_of weave.setup c) called.old called.was in
      let here : c.0 % (shape_of called.old.setup).shards ≡ called.old.shard = ap (λ (s : Setup). c.0 % (shape_of s).shards) is.of_setup ∙ sym is.numbered in
      let at : colour_at called.old.setup called.old.shard (0 + place called.old.setup c) ≡ c =
      ap (λ (n : ℕ). colour_at called.old.setup called.old.shard n) (let e : 0 + place called.old.setup c ≡ place called.old.setup c = omega arith in e)
      ∙ ap (λ (n : ℕ). record { 0 = c.0 / (shape_of called.old.setup).shards * (shape_of called.old.setup).shards + n }) (sym here)
      ∙ ap (λ (n : ℕ). record { 0 = n }) (div-add-mod' c.0 (shape_of called.old.setup).shards) in
      let o = out of_shard weave.shards (shard_of weave.setup c) called.old called.was in
      let l = lane_out called.old.setup called.old.shard 0 called.old.lanes (place called.old.setup c) does.before does.was in
      let after : ColourState S P = record does.before { events = does.before.events ++ (event, load) ∷ [] } in
      let lane_now : of_lane c after ≡ of_lane c does.before ++ event_piece c event load ∷ [] =
      ap (λ (ps : List (Piece S P)). of_state c does.before.state ++ ps) (map-append (λ (e : Event × Option P). event_piece c e.0 e.1) does.before.events ((event, load) ∷ []))
      ∙ sym (append_assoc (of_state c does.before.state) (map (λ (e : Event × Option P). event_piece c e.0 e.1) does.before.events) (event_piece c event load ∷ [])) in
      let new_is : of_shard called.new ≡ of_lanes called.old.setup called.old.shard 0 (slice_set called.old.lanes (place called.old.setup c) after) = λ i. of_lanes (does.after.same_setup i) (does.after.same_shard i) 0 (does.after.lanes i) in
      let was_lane : IsPermutation (of_shard called.old) (of_lane c does.before ++ l.rest) = subst (λ (d : Colour). IsPermutation (of_shard called.old) (of_lane d does.before ++ l.rest)) at l.was in
      let now_lane : IsPermutation (of_shard called.new) ((of_lane c does.before ++ event_piece c event load ∷ []) ++ l.rest) =
      subst (λ (ps : List (Piece S P)). IsPermutation (of_shard called.new) (ps ++ l.rest)) lane_now
      (subst (λ (ps : List (Piece S P)). IsPermutation ps (of_lane c after ++ l.rest)) (sym new_is)
      (subst (λ (d : Colour). IsPermutation (of_lanes called.old.setup called.old.shard 0 (slice_set called.old.lanes (place called.old.setup c) after)) (of_lane d after ++ l.rest)) at (l.becomes after))) in
      let one_more : IsPermutation (event_piece c event load ∷ of_shard called.old) (of_shard called.new) =
      onward (IsPermutation-cons (event_piece c event load) (of_shard called.old) (of_lane c does.before ++ l.rest) was_lane)
      (onward (back (IsPermutation-middle (of_lane c does.before) (event_piece c event load) l.rest))
      (onward (same_order (of_lane c does.before ++ event_piece c event load ∷ l.rest) ((of_lane c does.before ++ event_piece c event load ∷ []) ++ l.rest) (sym (append_assoc (of_lane c does.before) (event_piece c event load ∷ []) l.rest)))
      (back now_lane))) in
      let all_shards : IsPermutation (event_piece c event load ∷ flat_map of_shard weave.shards) (flat_map of_shard posted.shards) =
      subst (λ (ss : List (ShardState S P)). IsPermutation (event_piece c event load ∷ flat_map of_shard weave.shards) (flat_map of_shard ss)) (sym shards_are)
      (onward (IsPermutation-cons (event_piece c event load) (flat_map of_shard weave.shards) (of_shard called.old ++ o.rest) o.was)
      (onward (IsPermutation-append_left o.rest (event_piece c event load ∷ of_shard called.old) (of_shard called.new) one_more)
      (back (o.becomes called.new)))) in
      subst (λ (ws : List (WorkerState S P)). IsPermutation (event_piece c event load ∷ pieces weave) (flat_map of_shard posted.shards ++ flat_map of_worker ws)) (sym workers_are)
      (IsPermutation-append_left (flat_map of_worker weave.workers) (event_piece c event load ∷ flat_map of_shard weave.shards) (flat_map of_shard posted.shards) all_shards)
