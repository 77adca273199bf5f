use Rattle.std.proofs.Common.{◌++◌, length, ap, ◌∙◌, sym, arith, append_assoc}
use Rattle.sws_handlers.proofs.Ends.HandingLemmas.{hand_put}
use Rattle.sws_handlers.proofs.handing.keep_lost.Goals as goal

pub loop-colour-preserved : goal.loop-colour-preserved
loop-colour-preserved g c =
    let at = c.loop-colour.invariant in
    let steps = c.in-Some.ensures.steps.0 in
    let short = ap length steps in
    let left = at.left in
    let gone = c.in-Some.ensures.steps.1 in
    record {
      split = append_assoc c.loop-colour.yielded _ _ ∙ ap (λ l. c.loop-colour.yielded ++ l) (sym steps) ∙ at.split;
      left = omega (arith, left, short, gone);
      hands = hand_put c.loop-colour.yielded _ c.args.left.now c.loop-colour.left c.keep_load.new.left at.hands c.keep_load.ensures;
    }
