use Rattle.std.proofs.Common.{◌≡◌, subst, sym}
use Rattle.mely_kept.specs.Frames.{shard_frame}
use Rattle.mely_fleet.specs.Fleets.{ArePasses, frame_in, given_in}
use Rattle.mely_fleet.specs.Posted.{HasDelivered}
use Rattle.mely_fleet.specs.Rows.{fronts}
use Rattle.mely_fleet.proofs.WorkLemmas.{side_delivers}
use Rattle.mely_fleet.proofs.fleet.FleetOf+KeptShard+S+P.deliver.Goals as goal

pub returns : goal.returns
returns g c =
    let side = c.deliver.new.access in
    let does = side_delivers g.S.Trail g.S.Fits.fits_under (λ s. record { setup = s.fleet.now.setup; number = s.passes.now.number; frame = frame_in (shard_frame g.S.Trail.frame_of) s.fleet.now; given = given_in (shard_frame g.S.Trail.frame_of) s.fleet.now; fronts = fronts s.passes.now.shards.items; chains = fronts s.passes.now.chains.items }) (λ a b. (b.passes.ghost_name ≡ a.passes.ghost_name) × (b.fleet.now ≡ a.fleet.now)) _ side c.args.delivery c.deliver.result c.deliver.ensures.delivers in
    let has : HasDelivered (shard_frame g.S.Trail.frame_of) c.args.self.now c.args.delivery c.args.passes.now side.passes.now = record {
      passes = subst (λ f. ArePasses (shard_frame g.S.Trail.frame_of) f side.passes.now) c.deliver.ensures.kept.1 side.are;
      same = c.deliver.ensures.same.core;
      unseen = does.0;
      delivered = does.1;
    } in
    let named = sym c.deliver.ensures.kept.0 in
    let back = λ (name : _) (new : _) (is : name ≡ side.passes.ghost_name → new ≡ side.passes.now) (same : name ≡ side.passes.ghost_name).
    subst (λ p. HasDelivered (shard_frame g.S.Trail.frame_of) c.args.self.now c.args.delivery c.args.passes.now p) (sym (is same)) has in
    search (back, named)
