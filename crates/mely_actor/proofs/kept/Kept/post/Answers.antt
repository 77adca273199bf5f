use Rattle.std.proofs.Common.{◌<◌, ◌++◌, Some, false, refl, ap, sym, subst}
use Rattle.std.specs.List.{AllByRecursion}
use Rattle.mely_actor.specs.declared.load.Load.TheVariants.{Posts}
use Rattle.mely_actor.specs.Loads.{ArePutsFit, IsPut}
use Rattle.mely_actor.specs.Running.{HasKept}
use Rattle.mely_actor.specs.Sending.{MaySend}
use Rattle.mely_actor.specs.Waiting.{turn_is_put, turning}
use Rattle.mely_actor.proofs.AnswerLemmas.{of_ok}
use Rattle.mely_actor.proofs.RunLemmas.{step_fits, step_may, stepped}
use Rattle.mely_actor.proofs.kept.Kept.post.Goals as goal

-- what was put
put : (g : _) (c : goal.Then-is_ok g) → IsPut g.A.Actor.event_of c.self.inside.log.colour (turning false c.self.inside.waiting.items) (turn_is_put false c.self.inside.waiting.items (c.self.inside.waiting.items ++ c.args.posts.items)) (c.self.inside.waiting.items ++ c.args.posts.items) c.send_all.new.waiting.items c.send_all.new.outs
put g c =
    let a = g.A.Actor in
    let waiting = c.self.inside.waiting.items in
    let first = subst (λ d. IsPut a.event_of d (turning false waiting) (turn_is_put false waiting (waiting ++ c.of.result)) (waiting ++ c.of.result) c.send_all.new.waiting.items c.send_all.new.outs) c.colour-colour.ensures
    (of_ok _ c.send_all.result c.if-is_ok.ensures.value c.send_all.ensures.sent) in
    subst (λ l. IsPut a.event_of c.self.inside.log.colour (turning false waiting) (turn_is_put false waiting (waiting ++ l)) (waiting ++ l) c.send_all.new.waiting.items c.send_all.new.outs) c.of.ensures first

-- the posts may be sent
allowed : (g : _) (c : goal.Then-is_ok g) → AllByRecursion (MaySend (g.A.Actor.colours_of c.self.inside.plan.value.actor) (g.A.Actor.rows_of c.self.inside.plan.value.actor) g.A.Actor.event_of (g.A.Actor.sound c.self.inside.plan.value.actor)) c.args.posts.items
allowed g c =
    let a = g.A.Actor in
    subst (λ state. AllByRecursion (MaySend (a.colours_of state.plan.actor) (a.rows_of state.plan.actor) a.event_of (a.sound state.plan.actor)) c.args.posts.items) (sym c.self.view_is)
    (subst (λ l. AllByRecursion (MaySend (a.colours_of c.args.self.now.plan.actor) (a.rows_of c.args.self.now.plan.actor) a.event_of (a.sound c.args.self.now.plan.actor)) l) (sym c.requires.fits.are) c.requires.serves.may)

there : (g : _) (c : goal.Then-is_ok g) → c.self.inside.log.colour.0 < g.A.Actor.colours_of c.self.inside.plan.value.actor
there g c = subst (λ state. state.log.colour.0 < g.A.Actor.colours_of state.plan.actor) (sym c.self.view_is) c.requires.fits.there

library : (g : _) (c : goal.Then-is_ok g) → 0 < g.A.Actor.rows_of c.self.inside.plan.value.actor
library g c = subst (λ state. 0 < g.A.Actor.rows_of state.plan.actor) (sym c.self.view_is) c.requires.serves.library

pub invariant_of-self : goal.invariant_of-self
invariant_of-self g c = (λ well. step_may g.A.Actor c.self.inside.plan.value c.self.inside.log.colour (there g c) (library g c) _ _ c.self.inside.waiting.items c.args.posts.items _ _ (c.self.invariant.0 well) (allowed g c) (put g c), subst (λ d. HasKept g.A.Actor c.self.inside.plan.value.actor d c.self.inside.count c.self.inside.failed c.self.inside.value) (sym (ap (λ log. log.colour) c.push.ensures)) c.self.invariant.1)

pub returns-then-is_ok-clause-ran : goal.returns-then-is_ok-clause-ran
returns-then-is_ok-clause-ran g c = λ well. stepped g.A.Actor _ _ _ (Some (Posts c.args.posts)) c.send_all.new.outs c.self.view_is well c.args.posts.items (record { sends_are = refl; counts = refl; keeps = refl }) (put g c)

pub returns-then-is_ok-clause-puts : goal.returns-then-is_ok-clause-puts
returns-then-is_ok-clause-puts g c =
    subst (λ state. ArePutsFit g.A.Actor state.plan.actor state.plan.posts.items c.send_all.new.outs) c.self.view_is
    (step_fits g.A.Actor c.self.inside.plan.value c.self.inside.log.colour (there g c) (library g c) _ _ c.self.inside.waiting.items c.args.posts.items _ _ (c.self.invariant.0 (let not = c.if-not-self.true in cc)) (allowed g c) (put g c))
