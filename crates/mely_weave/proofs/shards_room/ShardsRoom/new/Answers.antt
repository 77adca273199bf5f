use Rattle.std.proofs.Common.{◌≤◌, ◌+◌, ◌*◌, ◌/◌, ℕ, ◌∙◌, sym, subst, arith}
use Rattle.mely_history.specs.Setup.{shape_of, colours_of}
use Rattle.mely_weave.proofs.Wholes.DealLemmas.{most_enough, have_room}
use Rattle.mely_weave.proofs.shards_room.ShardsRoom.new.Goals as goal
use Rattle.mely_weave.proofs.shards_room.ShardsRoom.new.Goals.{After-colours}

-- so many for each shard are enough for all
enough : (g : _) (c : After-colours g) → colours_of c.args.setup.now ≤ (c.colours.result / c.shards-shards.result + 1) * (shape_of c.args.setup.now).shards
enough g c =
    let s = c.args.setup.now in
    let colours = c.colours.ensures.value in
    let shards = c.shards-shards.ensures.value in
    subst (λ (q : ℕ). colours_of s ≤ (q + 1) * (shape_of s).shards) (sym (λ i. colours i / shards i)) (most_enough (colours_of s) (shape_of s).shards s.shards_in.0)

pub invariant_of-result-clause-for_piles : goal.invariant_of-result-clause-for_piles
invariant_of-result-clause-for_piles g c =
    have_room _ _ _ (c.colours.result / c.shards-shards.result + 1) c.in_ok-piles_of.field-0.items (c.in_ok-piles_of.ensures.many ∙ c.shards-shards.ensures.value) (enough g (goal.at.invariant_of-result-clause-for_piles g c).After-colours) c.in_ok-piles_of.ensures.room

pub invariant_of-result-clause-for_rooms : goal.invariant_of-result-clause-for_rooms
invariant_of-result-clause-for_rooms g c =
    have_room _ _ _ (c.colours.result / c.shards-shards.result + 1) c.in_ok-rooms_of.field-0.items (c.in_ok-rooms_of.ensures.many ∙ c.shards-shards.ensures.value) (enough g (goal.at.invariant_of-result-clause-for_rooms g c).After-colours)
    (λ k r at. let is = c.in_ok-rooms_of.ensures.room k r at in omega (arith, is))
