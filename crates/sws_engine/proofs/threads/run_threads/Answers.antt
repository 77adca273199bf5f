use Rattle.std.proofs.Common.{◌≡◌, subst, refl}
use Rattle.std.specs.List.{AllByRecursion}
use Rattle.mely_history.specs.Setup.{is_listed}
use Rattle.mely_history.specs.declared.setup.Setup.{Setup}
use Rattle.mely_weave.specs.Dealing.{AtEach}
use Rattle.sws_handlers.specs.Invariant.{IsConsistent}
use Rattle.sws_engine.proofs.Crews.CrewPartsLemmas.{parts_end, threads_passed}
use Rattle.sws_engine.proofs.Ends.HandledLemmas.{handlers_ran}
use Rattle.sws_engine.proofs.Ends.ThreadLemmas.{parts_kept}
use Rattle.sws_weave.proofs.Ends.PartedLemmas.{as_many_histories, run_fits}
use Rattle.sws_engine.proofs.threads.run_threads.Goals as goal

pub returns-clause-kept : goal.returns-clause-kept
returns-clause-kept g c =
    let parts = c.into_parts-parts.ensures in
    let stands = c.stands_well.ensures in
    let ran = c.in_ok-weave.ensures in
    let apart = c.the_parts_are_what_the_weave_had.ensures c.in_ok-weave.weave _ _ _ _ stands.keeps stands.parts ran.rests.free parts.histories parts.states parts.queued parts.lost in
    parts_kept g.W.World g.W.Link.Link g.T.Talk _ c.args.setup.now c.args.world c.args.log c.in_ok-weave.drained c.in_ok-weave.weave _ _ _ _ apart ran.rests.of_setup c.requires.colours ran.rests.drained (as_many_histories c.in_ok-weave.weave.shards _ _ parts.histories stands.keeps.shards) ran.of_world
    (subst (λ places. AtEach (λ i place. IsConsistent g.W.World g.W.Link.Link g.T.Talk place) places) c.deref.ensures.value c.are_kept.ensures) (λ s. refl) (λ s. refl) (λ s. refl)

pub returns-clause-fits : goal.returns-clause-fits
returns-clause-fits g c =
    let parts = c.into_parts-parts.ensures in
    let stands = c.stands_well.ensures in
    let ran = c.in_ok-weave.ensures in
    let apart = c.the_parts_are_what_the_weave_had.ensures c.in_ok-weave.weave _ _ _ _ stands.keeps stands.parts ran.rests.free parts.histories parts.states parts.queued parts.lost in
    let fit = c.what_is_left_in_the_parts_fits.ensures c.in_ok-weave.weave _ _ stands.parts parts.queued parts.lost in
    run_fits g.W.World g.W.Link.Link _ _ c.args.world _ c.in_ok-weave.weave _ _ _ _ apart fit ran.of_world (ran.of_hall _ c.in-Ok.ensures) (λ s. refl) (λ frame k event carried is. is.0)

pub returns-clause-handled : goal.returns-clause-handled
returns-clause-handled g c =
    let parts = c.into_parts-parts.ensures in
    let ran = c.in_ok-weave.ensures in
    handlers_ran g.W.World g.W.Link.Link g.T.Talk _ _ _ _ _ c.args.setup.now _ c.args.world c.args.log c.total-total.result c.in_ok-weave.weave _ _ ran.accounted ran.begun c.total-total.ensures
    ran.rests.of_setup c.requires.colours (ran.of_hall _ c.in-Ok.ensures) ran.of_world parts.histories ran.rests.free parts.lost
    (λ s. refl) (λ s. refl) (λ s. refl) (λ frame k event carried is. is) (λ app s event carried after puts is. is)

pub returns-clause-ends : goal.returns-clause-ends
returns-clause-ends g c =
    let parts = c.into_parts-parts.ensures in
    let stands = c.stands_well.ensures in
    let ran = c.in_ok-weave.ensures in
    parts_end g.W.World g.W.Link.Link g.T.Talk _ _ _ _ _ c.args.setup.now _ c.args.world c.args.log c.total-total.result c.in_ok-weave.drained c.in_ok-weave.weave _ _ _ ran.told c.total-total.ensures
    stands.keeps ran.rests c.requires.colours c.in-Ok.ensures parts.states parts.lost (λ s. refl) (λ s. refl) (λ frame k event carried is. is.0) (λ app s event carried after puts is. is)

pub returns-clause-listed : goal.returns-clause-listed
returns-clause-listed g c =
    subst (λ (setup : Setup). AllByRecursion (λ history. history.listed ≡ is_listed setup) c.into_parts-parts.result.histories.items) c.in_ok-weave.ensures.rests.of_setup c.into_parts-parts.ensures.listed

pub returns-clause-gated : goal.returns-clause-gated
returns-clause-gated g c = threads_passed _ _ _ _ _ _ _ _ _ _ _ _ _ _ c.in_ok-weave.drained c.in_ok-weave.weave c.total-total.ensures c.in-Ok.ensures c.in_ok-weave.ensures.gated c.into_parts-parts.ensures.histories
