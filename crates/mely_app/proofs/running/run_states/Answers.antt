use Rattle.std.proofs.Common.{◌≡◌, [], sym, ◌∙◌, subst, eqb-true}
use Rattle.std.specs.List.{AllByRecursion}
use Rattle.mely_history.specs.declared.history.History.{History}
use Rattle.mely_history.specs.declared.setup.Setup.{Setup}
use Rattle.mely_history.specs.Setup.{is_listed}
use Rattle.std.specs.Prelude.{vec_len}
use Rattle.mely_app.proofs.AllPutLemmas.{has_put_all, none_of}
use Rattle.mely_app.proofs.InOrderLemmas.{ran_in_order}
use Rattle.mely_app.proofs.RanLemmas.{ran_all}
use Rattle.mely_app.proofs.UnfinishedLemmas.{ran_in_part, has_put_in_part, ran_so_far}
use Rattle.mely_app.proofs.running.run_states.Goals as goal

pub returns-in-Empty-clause-ran : goal.returns-in-Empty-clause-ran
returns-in-Empty-clause-ran g c =
    let parts = c.into_parts-histories.ensures in
    let stands = c.stands_well.ensures in
    let ran = c.in-Ok.ensures in
    let apart = c.the_parts_are_what_the_weave_had.ensures c.in-Ok.ran.0 _ _ _ _ stands.keeps stands.parts ran.free parts.histories parts.states parts.queued parts.lost in
    ran_all g.S.Trail c.args.setup.now c.args.colour c.args.event c.in-Ok.ran.0 _ _ _ _ ran.of_setup stands.keeps.shards parts.histories ran.begun (ran.drained c.in-Empty.is) apart

pub returns-in-Empty-clause-puts : goal.returns-in-Empty-clause-puts
returns-in-Empty-clause-puts g c =
    let parts = c.into_parts-histories.ensures in
    let ran = c.in-Ok.ensures in
    let lost = c.into_parts-histories.result.lost in
    let none : lost.items ≡ [] = none_of lost.items (sym lost.ok.0 ∙ eqb-true (vec_len lost) 0 (sym c.is_empty.ensures ∙ c.if-is_empty.true)) in
    λ first at. has_put_all g.S.Trail g.S.Fits.fits_under g.A.App c.args.app.now c.args.setup.now (g.S.Trail.frame_of first) (c.args.colour, c.args.event, c.args.load) c.in-Ok.ran.0 _ _ ran.of_setup (ran.framed first at)
    parts.histories ran.free (ran.drained c.in-Empty.is) parts.lost none ran.accounted

pub returns-in-Empty-clause-framed : goal.returns-in-Empty-clause-framed
returns-in-Empty-clause-framed g c =
    let parts = c.into_parts-histories.ensures in
    let stands = c.stands_well.ensures in
    let ran = c.in-Ok.ensures in
    let apart = c.the_parts_are_what_the_weave_had.ensures c.in-Ok.ran.0 _ _ _ _ stands.keeps stands.parts ran.free parts.histories parts.states parts.queued parts.lost in
    λ first at colour state there. apart.framed colour state there ∙ ran.framed first at

pub returns-in-Empty-clause-listed : goal.returns-in-Empty-clause-listed
returns-in-Empty-clause-listed g c =
    let parts = c.into_parts-histories.ensures in
    let listed : Setup → Type 0 = λ s. AllByRecursion (λ (history : History). history.listed ≡ is_listed s) c.into_parts-histories.result.histories.items in
    subst listed c.in-Ok.ensures.of_setup parts.listed

pub returns-in-Empty-clause-in_order : goal.returns-in-Empty-clause-in_order
returns-in-Empty-clause-in_order g c =
    let parts = c.into_parts-histories.ensures in
    let stands = c.stands_well.ensures in
    let ran = c.in-Ok.ensures in
    let lost = c.into_parts-histories.result.lost in
    let none : lost.items ≡ [] = none_of lost.items (sym lost.ok.0 ∙ eqb-true (vec_len lost) 0 (sym c.is_empty.ensures ∙ c.if-is_empty.true)) in
    λ first at. ran_in_order g.S.Trail g.S.Fits.fits_under g.A.App c.args.app.now c.args.setup.now (g.S.Trail.frame_of first) (c.args.colour, c.args.event, c.args.load) c.args.states.items c.in-Ok.ran.0 _ _ _ ran.of_setup (ran.framed first at)
    c.requires.first.all stands.keeps stands.parts parts.histories parts.states ran.free (ran.drained c.in-Empty.is) parts.lost none ran.told

pub returns-in_default-clause-in_part : goal.returns-in_default-clause-in_part
returns-in_default-clause-in_part g c =
    let parts = c.into_parts-histories.ensures in
    let stands = c.stands_well.ensures in
    let ran = c.in-Ok.ensures in
    let apart = c.the_parts_are_what_the_weave_had.ensures c.in-Ok.ran.0 _ _ _ _ stands.keeps stands.parts ran.free parts.histories parts.states parts.queued parts.lost in
    let fit = c.what_is_left_in_the_parts_fits.ensures c.in-Ok.ran.0 _ _ stands.parts parts.queued parts.lost in
    λ first at. ran_in_part g.S.Trail g.S.Fits.fits_under c.args.setup.now (g.S.Trail.frame_of first) c.args.colour c.args.event c.in-Ok.ran.0 _ _ _ _ ran.of_setup (ran.framed first at)
    stands.keeps stands.parts parts.histories parts.states parts.queued ran.begun apart fit

pub returns-in_default-clause-puts_in_part : goal.returns-in_default-clause-puts_in_part
returns-in_default-clause-puts_in_part g c =
    let parts = c.into_parts-histories.ensures in
    let stands = c.stands_well.ensures in
    let ran = c.in-Ok.ensures in
    λ first at. has_put_in_part g.S.Trail g.S.Fits.fits_under g.A.App c.args.app.now c.args.setup.now (g.S.Trail.frame_of first) (c.args.colour, c.args.event, c.args.load) c.in-Ok.ran.0 _ _ _ ran.of_setup (ran.framed first at)
    stands.keeps stands.parts parts.histories parts.states ran.free parts.lost ran.accounted

pub returns-in_default-clause-order_so_far : goal.returns-in_default-clause-order_so_far
returns-in_default-clause-order_so_far g c =
    let parts = c.into_parts-histories.ensures in
    let stands = c.stands_well.ensures in
    let ran = c.in-Ok.ensures in
    λ first at. ran_so_far g.S.Trail g.S.Fits.fits_under g.A.App c.args.app.now c.args.setup.now (g.S.Trail.frame_of first) (c.args.colour, c.args.event, c.args.load) c.args.states.items c.in-Ok.ran.0 _ _ _ _ ran.of_setup (ran.framed first at)
    c.requires.first.all stands.keeps stands.parts parts.histories parts.states parts.queued ran.free parts.lost ran.told
