use Rattle.std.proofs.Common.{refl, sym, ◌∙◌, ap}
use Rattle.sws_handlers.specs.RunLeaves.{or_else}
use Rattle.sws_handlers.proofs.Ends.LeftLemmas.{keep_quiet, keep_talking}
use Rattle.sws_handlers.proofs.left.keep_state.Goals as goal

pub returns-in-Some-clause-keeps : goal.returns-in-Some-clause-keeps
returns-in-Some-clause-keeps g c = keep_quiet g.T.Talk c.args.place _ c.place.inside.trail c.args.left.now _ (sym (ap (λ p. p.role) c.place.view_is) ∙ (sym c.into_inner.ensures ∙ c.in-Polling.is)) refl (ap (λ p. p.trail) c.place.view_is) refl (ap (λ o. or_else o c.args.left.now.world) (sym c.in-Some.is)) refl c.push_reserved.ensures.items c.push_reserved.ensures.len c.push_reserved.ensures.capacity

pub returns-in-Polling-clause-keeps : goal.returns-in-Polling-clause-keeps
returns-in-Polling-clause-keeps g c = keep_quiet g.T.Talk c.args.place _ c.place.inside.trail c.args.left.now _ (sym (ap (λ p. p.role) c.place.view_is) ∙ (sym c.into_inner.ensures ∙ c.in-Polling.is)) refl (ap (λ p. p.trail) c.place.view_is) refl (ap (λ o. or_else o c.args.left.now.world) (sym c.in-None.is)) refl c.push_reserved.ensures.items c.push_reserved.ensures.len c.push_reserved.ensures.capacity

pub returns-in-Accepting-clause-keeps : goal.returns-in-Accepting-clause-keeps
returns-in-Accepting-clause-keeps g c = keep_quiet g.T.Talk c.args.place _ c.place.inside.trail c.args.left.now _ (sym (ap (λ p. p.role) c.place.view_is) ∙ (sym c.into_inner.ensures ∙ c.in-Accepting.is)) refl (ap (λ p. p.trail) c.place.view_is) refl refl refl c.push_reserved.ensures.items c.push_reserved.ensures.len c.push_reserved.ensures.capacity

pub returns-in-Talking-clause-keeps : goal.returns-in-Talking-clause-keeps
returns-in-Talking-clause-keeps g c = keep_talking g.T.Talk c.args.place c.in-Talking.seat c.place.inside.trail c.served_by.result c.args.left.now _ (sym (ap (λ p. p.role) c.place.view_is) ∙ (sym c.into_inner.ensures ∙ c.in-Talking.is)) (ap (λ p. p.trail) c.place.view_is) c.served_by.ensures
    c.push_reserved-in-Talking.ensures.items c.push_reserved-in-Talking.ensures.len c.push_reserved-in-Talking.ensures.capacity refl refl c.push_reserved.ensures.items c.push_reserved.ensures.len c.push_reserved.ensures.capacity

pub returns-clause-keeps : goal.returns-clause-keeps
returns-clause-keeps g c = keep_quiet g.T.Talk c.args.place _ c.place.inside.trail c.args.left.now _ (sym (ap (λ p. p.role) c.place.view_is) ∙ (sym c.into_inner.ensures ∙ c.in-Logging.is)) refl (ap (λ p. p.trail) c.place.view_is) refl refl (ap (λ p. p.lines) c.place.view_is) c.push_reserved.ensures.items c.push_reserved.ensures.len c.push_reserved.ensures.capacity
