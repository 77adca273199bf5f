use Rattle.std.proofs.Common.{[], refl, ap, sym, subst}
use Rattle.mely_actor.proofs.kept.Kept.new.Goals as goal

pub invariant_of-result : goal.invariant_of-result
invariant_of-result g c =
    let a = g.A.Actor in
    let kept = subst (λ d. a.kept c.args.plan.now.actor d [] [] c.args.value) (sym (ap (λ log. log.colour) c.new.ensures)) c.requires in (
      λ well. rw c.new-2.ensures.items tt,
      λ well. (
        record {
          received = [];
          sent = [];
          kept = subst (λ plan. a.kept plan.actor c.new.result.colour [] [] c.args.value) (sym c.of.ensures) kept;
        },
        refl,
      ),
    )
