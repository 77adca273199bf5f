use Rattle.std.proofs.Common.{refl, ap, sym, ◌∙◌}
use Rattle.sws_weave.proofs.Runs.BeginLemmas.{are_first, first_given, first_hall, first_fits_in, free_after, start_fact}
use Rattle.sws_weave.specs.LogStream.{log_stream}
use Rattle.sws_handlers.specs.Initial.{initial_load}
use Rattle.sws_weave.proofs.Runs.LogOrderLemmas.{begins_in_order, first_is_no_line}
use Rattle.sws_weave.proofs.Model.EngineLemmas.{begun_at, posted_at}
use Rattle.sws_weave.proofs.starting.start.Goals as goal

pub new-requires : goal.new-requires
new-requires g c = are_first g.T.Talk c.args.world c.requires.first.0 c.args.total c.args.log _ _ _ c.requires.first.1 c.requires.colours (λ s. refl) (λ s. refl) (λ s. refl)

pub post-requires : goal.post-requires
post-requires g c =
    let begins = c.an_initial_weave_has_what_it_was_given.ensures _ _ c.in-Ok.weave (are_first g.T.Talk c.args.world c.requires.first.0 c.args.total c.args.log _ _ _ c.requires.first.1 c.requires.colours (λ s. refl) (λ s. refl) (λ s. refl)) c.in-Ok.ensures.first c.stands_well.ensures.keeps in
    record {
      fits = first_fits_in g.W.World g.W.Link.Link g.T.Talk c.in-Ok.weave.given.hall c.in-Ok.weave.given.first c.args.world c.args.total c.args.log _ _ _
          (first_given g.T.Talk _ c.args.world c.requires.first.0 c.args.total c.args.log _ c.in-Ok.weave begins c.requires.first.1 (λ s. refl))
          c.in-Ok.ensures.first.of_setup c.requires.colours c.requires.handlers c.requires.total c.requires.none c.first_event.ensures;
    }

pub into_parts-parts-requires : goal.into_parts-parts-requires
into_parts-parts-requires g c =
    let begins = c.an_initial_weave_has_what_it_was_given.ensures _ _ c.in-Ok.weave (are_first g.T.Talk c.args.world c.requires.first.0 c.args.total c.args.log _ _ _ c.requires.first.1 c.requires.colours (λ s. refl) (λ s. refl) (λ s. refl)) c.in-Ok.ensures.first c.stands_well.ensures.keeps in
    free_after c.in-Ok.weave c.post.new.self begins.free (ap (λ l. l.workers) c.in-Err.ensures.call.posts.leaves)

pub returns-in-Ok-post-clause-stands : goal.returns-in-Ok-post-clause-stands
returns-in-Ok-post-clause-stands g c =
    let begins = c.an_initial_weave_has_what_it_was_given.ensures _ _ c.in-Ok.weave (are_first g.T.Talk c.args.world c.requires.first.0 c.args.total c.args.log _ _ _ c.requires.first.1 c.requires.colours (λ s. refl) (λ s. refl) (λ s. refl)) c.in-Ok.ensures.first c.stands_well.ensures.keeps in
    start_fact g.W.World g.T.Talk _ c.args.world c.requires.first.0 c.args.total c.args.log _ c.in-Ok.weave c.post.new.self _ c.in-Ok-post._answer c.first_event.ensures begins
    (c.a_post_brings_its_event.ensures _ _ _ _ c.in-Ok.weave c.post.new.self c.in-Ok-post.ensures.call) c.in-Ok-post.ensures.same.given c.requires.first.1 c.requires.total (λ s. refl)

pub returns-in-Ok-post-clause-of_hall : goal.returns-in-Ok-post-clause-of_hall
returns-in-Ok-post-clause-of_hall g c hall are =
    let begins = c.an_initial_weave_has_what_it_was_given.ensures _ _ c.in-Ok.weave (are_first g.T.Talk c.args.world c.requires.first.0 c.args.total c.args.log _ _ _ c.requires.first.1 c.requires.colours (λ s. refl) (λ s. refl) (λ s. refl)) c.in-Ok.ensures.first c.stands_well.ensures.keeps in
    first_hall g.T.Talk _ c.args.world hall c.args.total c.args.log _ c.in-Ok.weave c.post.new.self begins c.in-Ok-post.ensures.same.given are (λ s. refl)

pub returns-in-Ok-post-clause-begun : goal.returns-in-Ok-post-clause-begun
returns-in-Ok-post-clause-begun g c =
    begun_at _ _ c.args.setup.now _ _ _ c.first_event.result _ c.in-Ok.weave c.post.new.self c.in-Ok-post._answer c.first_event.ensures (c.requires.first.1.many ∙ sym c.requires.colours) c.in-Ok.ensures.first c.stands_well.ensures.keeps
    c.in-Ok-post.ensures.call.posts c.in-Ok-post.ensures.same c.in-Ok-post.ensures.stands

pub returns-in-Ok-post-clause-ordered : goal.returns-in-Ok-post-clause-ordered
returns-in-Ok-post-clause-ordered g c = λ on i low.
    let first = c.an_initial_stream_is_in_order.ensures (log_stream g.T.Talk c.args.total i) c.args.setup.now c.args.states.items c.in-Ok.weave
    (begins_in_order g.T.Talk c.args.world c.requires.first.0 c.args.total c.args.log c.args.states.items i on low c.requires.first.1)
    (are_first g.T.Talk c.args.world c.requires.first.0 c.args.total c.args.log _ _ _ c.requires.first.1 c.requires.colours (λ s. refl) (λ s. refl) (λ s. refl))
    c.in-Ok.ensures.first c.stands_well.ensures.keeps in
    c.a_post_keeps_a_stream_in_order.ensures (log_stream g.T.Talk c.args.total i) _ _ _ _ c.in-Ok.weave c.post.new.self c.in-Ok-post.ensures.call (first_is_no_line g.T.Talk c.args.total i c.first_event.result (initial_load c.args.world)) first

pub returns-in-Ok-post-clause-posted : goal.returns-in-Ok-post-clause-posted
returns-in-Ok-post-clause-posted g c =
    posted_at _ _ c.args.setup.now _ _ _ c.first_event.result _ c.in-Ok.weave c.post.new.self c.in-Ok-post._answer c.first_event.ensures c.in-Ok.ensures.first c.stands_well.ensures.keeps c.in-Ok-post.ensures.call
