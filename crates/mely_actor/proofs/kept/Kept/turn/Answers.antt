use Rattle.std.proofs.Common.{rules, ap, sym, subst}
use Rattle.mely_actor.specs.Running.{HasKept}
use Rattle.mely_actor.proofs.kept.Kept.turn.Goals as goal

pub invariant_of-self-then-is_empty : goal.invariant_of-self-then-is_empty
invariant_of-self-then-is_empty g c = (c.self.invariant.0, subst (λ d. HasKept g.A.Actor c.self.inside.plan.value.actor d c.self.inside.count c.self.inside.failed c.self.inside.value) (sym (ap (λ log. log.colour) c.push.ensures)) c.self.invariant.1)

pub invariant_of-self-else-is_empty : goal.invariant_of-self-else-is_empty
invariant_of-self-else-is_empty g c = (search rules, subst (λ d. HasKept g.A.Actor c.self.inside.plan.value.actor d c.self.inside.count c.self.inside.failed c.self.inside.value) (sym (ap (λ log. log.colour) c.push.ensures)) c.self.invariant.1)
