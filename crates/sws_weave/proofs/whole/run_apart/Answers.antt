use Rattle.std.proofs.Common.{◌≡◌, refl, subst}
use Rattle.std.specs.List.{AllByRecursion}
use Rattle.mely_history.specs.Setup.{is_listed}
use Rattle.mely_history.specs.declared.setup.Setup.{Setup}
use Rattle.sws_weave.specs.LogStream.{log_stream}
use Rattle.sws_weave.proofs.Ends.PartedLemmas.{as_many_histories, run_parts, run_fits}
use Rattle.sws_weave.proofs.Ends.PassedLemmas.{states_passed}
use Rattle.sws_weave.proofs.Model.EngineLemmas.{engine_run}
use Rattle.sws_weave.proofs.whole.run_apart.Goals as goal

pub returns-clause-ran : goal.returns-clause-ran
returns-clause-ran g c =
    let parts = c.into_parts.ensures in
    let stands = c.stands_well.ensures in
    let apart = c.the_parts_are_what_the_weave_had.ensures c.in_ok-weave.weave _ _ _ _ stands.keeps stands.parts c.in_ok-weave.ensures.rests.free parts.histories parts.states parts.queued parts.lost in
    run_parts g.W.World g.T.Talk _ c.args.setup.now c.args.world c.args.log _ c.in_ok-weave.weave _ _ _ _ apart c.in_ok-weave.ensures.stands c.in_ok-weave.ensures.rests.of_setup c.requires.set.colours c.in_ok-weave.ensures.rests.drained (as_many_histories c.in_ok-weave.weave.shards _ _ parts.histories stands.keeps.shards)
    parts.queued.many (λ on i low. c.what_is_left_of_a_stream_is_in_order.ensures (log_stream g.T.Talk (g.W.World.tells c.args.world).total i) c.in_ok-weave.weave _ _ _ (c.in_ok-weave.ensures.ordered on i low) c.in_ok-weave.ensures.rests.free parts.states parts.queued parts.lost)
    (λ s. refl) (λ s. refl) (λ s. refl)

pub returns-clause-fits : goal.returns-clause-fits
returns-clause-fits g c =
    let parts = c.into_parts.ensures in
    let stands = c.stands_well.ensures in
    let apart = c.the_parts_are_what_the_weave_had.ensures c.in_ok-weave.weave _ _ _ _ stands.keeps stands.parts c.in_ok-weave.ensures.rests.free parts.histories parts.states parts.queued parts.lost in
    let fit = c.what_is_left_in_the_parts_fits.ensures c.in_ok-weave.weave _ _ stands.parts parts.queued parts.lost in
    run_fits g.W.World g.W.Link.Link _ _ c.args.world _ c.in_ok-weave.weave _ _ _ _ apart fit c.in_ok-weave.ensures.stands.framed c.in_ok-weave.ensures.of_hall (λ s. refl) (λ frame k event carried is. is.0)

pub returns-clause-model : goal.returns-clause-model
returns-clause-model g c = λ shape paths ruled tells opened empty fine.
    engine_run g.W.World g.W.Link.Link g.T.Talk _ c.args.world paths _ _ _ _ _ (λ s. refl) (λ s. refl) (λ frame k event carried fit. fit.0) (λ app s event carried after puts ran. ran.0)
    c.args.log c.args.setup.now c.args.schedule.now c.in_ok-weave.weave _ _ c.a_run_serves.ensures.steps (c.in_ok-weave.ensures.out empty) c.into_parts.ensures.histories c.into_parts.ensures.states tells opened fine shape ruled

pub returns-clause-listed : goal.returns-clause-listed
returns-clause-listed g c =
    subst (λ (setup : Setup). AllByRecursion (λ history. history.listed ≡ is_listed setup) c.into_parts.result.histories.items) c.in_ok-weave.ensures.rests.of_setup c.into_parts.ensures.listed

pub returns-clause-passed : goal.returns-clause-passed
returns-clause-passed g c =
    let parts = c.into_parts.ensures in
    let stands = c.stands_well.ensures in
    let apart = c.the_parts_are_what_the_weave_had.ensures c.in_ok-weave.weave _ _ _ _ stands.keeps stands.parts c.in_ok-weave.ensures.rests.free parts.histories parts.states parts.queued parts.lost in
    states_passed _ _ (g.G.Gate.passes c.args.gate.now 0) c.in_ok-weave.weave _ _ _ _ apart stands.keeps parts.histories (λ s. refl) c.in_ok-weave.ensures.passed
