use Rattle.std.proofs.Common.{◌++◌, length, ap, ◌∙◌, sym, arith, append_assoc}
use Rattle.sws_handlers.proofs.Ends.HandingLemmas.{hand_lists}
use Rattle.sws_handlers.proofs.handing.keep_queued.Goals as goal

pub loop-events-preserved : goal.loop-events-preserved
loop-events-preserved g c =
    let at = c.loop-events.invariant in
    let steps = c.in-Some.ensures.steps.0 in
    let short = ap length steps in
    let left = at.left in
    let gone = c.in-Some.ensures.steps.1 in
    record {
      split = append_assoc c.loop-events.yielded _ _ ∙ ap (λ l. c.loop-events.yielded ++ l) (sym steps) ∙ at.split;
      left = omega (arith, left, short, gone);
      hands = hand_lists c.loop-events.yielded c.in-Some.events c.args.left.now c.loop-events.left c.keep_loads.new.left at.hands c.keep_loads.ensures;
    }
