use Rattle.std.proofs.Common.{◌≡◌, ◌<◌, ◌++◌, ◌∷◌, [], Some, false, ap, sym, subst, ◌∙◌, arith, length-append}
use Rattle.std.specs.List.{AllByRecursion}
use Rattle.mely_actor.specs.declared.load.Load.TheVariants.{Message}
use Rattle.mely_actor.specs.Loads.{ArePutsFit, IsPut}
use Rattle.mely_actor.specs.Running.{HasKept}
use Rattle.mely_actor.specs.Sending.{MaySend}
use Rattle.mely_actor.specs.Waiting.{turn_is_put, turning}
use Rattle.mely_actor.proofs.AnswerLemmas.{of_ok}
use Rattle.mely_actor.proofs.RunLemmas.{step_fits, step_may, stepped}
use Rattle.mely_actor.proofs.kept.Kept.receive.Goals as goal

same : (g : _) (c : goal.Then-is_ok-2 g) → c.self.inside.plan.value.actor ≡ c.args.actor.now
same g c = ap (λ state. state.plan.actor) c.self.view_is ∙ c.requires.actor

-- what was put
put : (g : _) (c : goal.Then-is_ok-2 g) → IsPut g.A.Actor.event_of c.self.inside.log.colour (turning false c.self.inside.waiting.items) (turn_is_put false c.self.inside.waiting.items (c.self.inside.waiting.items ++ c.on.new.sends)) (c.self.inside.waiting.items ++ c.on.new.sends) c.send_all.new.waiting.items c.send_all.new.outs
put g c = subst (λ d. IsPut g.A.Actor.event_of d (turning false c.self.inside.waiting.items) (turn_is_put false c.self.inside.waiting.items (c.self.inside.waiting.items ++ c.on.new.sends)) (c.self.inside.waiting.items ++ c.on.new.sends) c.send_all.new.waiting.items c.send_all.new.outs) c.colour.ensures
    (of_ok _ c.send_all.result c.if-is_ok-2.ensures.value c.send_all.ensures.sent)

-- what the message sends may be sent
allowed : (g : _) (c : goal.Then-is_ok-2 g) → AllByRecursion (MaySend (g.A.Actor.colours_of c.self.inside.plan.value.actor) (g.A.Actor.rows_of c.self.inside.plan.value.actor) g.A.Actor.event_of (g.A.Actor.sound c.self.inside.plan.value.actor)) c.on.new.sends
allowed g c = subst (λ x. AllByRecursion (MaySend (g.A.Actor.colours_of x) (g.A.Actor.rows_of x) g.A.Actor.event_of (g.A.Actor.sound x)) c.on.new.sends) (sym (same g c)) (of_ok _ c.on.result c.if-is_ok.ensures.value c.on.ensures.allowed)

there : (g : _) (c : goal.Then-is_ok-2 g) → c.self.inside.log.colour.0 < g.A.Actor.colours_of c.self.inside.plan.value.actor
there g c = subst (λ state. state.log.colour.0 < g.A.Actor.colours_of state.plan.actor) (sym c.self.view_is) c.requires.fits.there

library : (g : _) (c : goal.Then-is_ok-2 g) → 0 < g.A.Actor.rows_of c.self.inside.plan.value.actor
library g c = subst (λ state. 0 < g.A.Actor.rows_of state.plan.actor) (sym c.self.view_is) c.requires.serves.library

-- the value keeps the author's fact over this message too
has_kept : (g : _) (c : goal.Then-is_ok-2 g) → HasKept g.A.Actor c.self.inside.plan.value.actor c.self.inside.log.colour c.saturating_add-self-inside.result c.self.inside.failed c.on.new.value
has_kept g c = λ well.
    let a = g.A.Actor in
    let message = c.args.message in
    let colour = c.self.inside.log.colour in
    let new = c.on.new.sends in
    let old = c.self.invariant.1 well in
    let received = old.0.received in
    let sent = old.0.sent in
    let many = old.1 in
    let longer = length-append received (message ∷ []) in
    let below = c.if-self-lt18446744073709551615.true in
    let more = c.saturating_add-self-inside.ensures in
    let kept = of_ok _ c.on.result c.if-is_ok.ensures.value c.on.ensures.kept in (
      record {
        received = received ++ message ∷ [];
        sent = sent ++ new;
        kept = subst (λ x. a.kept x colour (received ++ message ∷ []) (sent ++ new) c.on.new.value) (sym (same g c))
            (subst (λ d. a.kept c.args.actor.now d (received ++ message ∷ []) (sent ++ new) c.on.new.value) c.colour.ensures
            (kept received sent many (subst (λ d. a.kept c.args.actor.now d received sent c.self.inside.value) (sym c.colour.ensures) (subst (λ x. a.kept x colour received sent c.self.inside.value) (same g c) old.0.kept))));
      },
      omega (arith, many, longer, below, more),
    )

pub invariant_of-self : goal.invariant_of-self
invariant_of-self g c = (λ well. step_may g.A.Actor c.self.inside.plan.value c.self.inside.log.colour (there g c) (library g c) _ _ c.self.inside.waiting.items c.on.new.sends _ _ (c.self.invariant.0 well) (allowed g c) (put g c), subst (λ d. HasKept g.A.Actor c.self.inside.plan.value.actor d c.saturating_add-self-inside.result c.self.inside.failed c.on.new.value) (sym (ap (λ log. log.colour) c.push.ensures)) (has_kept g c))

pub returns-then-is_ok-2-clause-ran : goal.returns-then-is_ok-2-clause-ran
returns-then-is_ok-2-clause-ran g c = λ well.
    let a = g.A.Actor in
    let message = c.args.message in
    let colour = c.self.inside.log.colour in
    let new = c.on.new.sends in
    let below = c.if-self-lt18446744073709551615.true in
    let more = c.saturating_add-self-inside.ensures in
    let kept = of_ok _ c.on.result c.if-is_ok.ensures.value c.on.ensures.kept in
    stepped a _ _ _ (Some (Message message)) c.send_all.new.outs c.self.view_is well new (record {
      counts = omega (arith, below, more);
      keeps = λ received sent so before. subst (λ x. a.kept x colour (received ++ message ∷ []) (sent ++ new) c.on.new.value) (sym (same g c))
          (subst (λ d. a.kept c.args.actor.now d (received ++ message ∷ []) (sent ++ new) c.on.new.value) c.colour.ensures
          (kept received sent so (subst (λ d. a.kept c.args.actor.now d received sent c.self.inside.value) (sym c.colour.ensures) (subst (λ x. a.kept x colour received sent c.self.inside.value) (same g c) before))));
    }) (put g c)

pub returns-then-is_ok-2-clause-puts : goal.returns-then-is_ok-2-clause-puts
returns-then-is_ok-2-clause-puts g c =
    subst (λ state. ArePutsFit g.A.Actor state.plan.actor state.plan.posts.items c.send_all.new.outs) c.self.view_is
    (step_fits g.A.Actor c.self.inside.plan.value c.self.inside.log.colour (there g c) (library g c) _ _ c.self.inside.waiting.items c.on.new.sends _ _ (c.self.invariant.0 (let not = c.if-not-self.true in cc)) (allowed g c) (put g c))
