use Rattle.std.proofs.Common.{◌≡◌, Some, refl, sym, ◌∙◌, ap}
use Rattle.std.proofs.lemmas.Option.{slice_get-get_or, same_Some, none-some}
use Rattle.std.specs.Prelude.{slice_get}
use Rattle.mely_shard.specs.Shard.{lane_at}
use Rattle.mely_weave.proofs.Wholes.GatherLemmas.{first_home, first_lane_there, element_is}
use Rattle.mely_weave.proofs.gathering.first_state.Goals as goal

pub unreachable-requires : goal.unreachable-requires
unreachable-requires g c =
    let has = c.index-shards-0.result in
    let there : slice_get c.args.shards.now 0 ≡ Some has = slice_get-get_or c.args.shards.now 0 has c.requires.some ∙ ap (λ x. Some x) (sym c.index-shards-0.is) in
    let kept = c.requires.kept has there in
    let rest = c.requires.at_rest has there in
    let lane = first_lane_there g.S.Trail g.S.Fits.fits_under has kept rest in
    let home = first_home g.S.Trail g.S.Fits.fits_under has kept rest lane.0 lane.1 in
    none-some home.state (c.in-None.ensures lane.0 lane.1 ∙ home.home)

pub returns : goal.returns
returns g c = λ has lane there at.
    let kept = c.requires.kept has there in
    let rest = c.requires.at_rest has there in
    let home = first_home g.S.Trail g.S.Fits.fits_under has kept rest lane at in
    let same : c.index-shards-0.result ≡ has = element_is c.args.shards.now 0 0 c.index-shards-0.result has refl c.index-shards-0.is there in
    let state = c.in-Some.ensures lane (ap (λ h. lane_at h (record { 0 = 0 })) same ∙ at) ∙ home.home in
    ap g.S.Trail.frame_of (c.of.ensures ∙ same_Some c.in-Some.state.now home.state state) ∙ home.framed
