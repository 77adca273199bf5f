use Rattle.std.proofs.Common.{◌++◌, length, ap, ◌∙◌, sym, arith, append_assoc}
use Rattle.sws_handlers.proofs.Ends.HandingLemmas.{hand_more}
use Rattle.sws_handlers.proofs.handing.keep_loads.Goals as goal

pub loop-event-preserved : goal.loop-event-preserved
loop-event-preserved g c =
    let at = c.loop-event.invariant in
    let steps = c.in-Some.ensures.steps.0 in
    let short = ap length steps in
    let left = at.left in
    let gone = c.in-Some.ensures.steps.1 in
    record {
      split = append_assoc c.loop-event.yielded _ _ ∙ ap (λ l. c.loop-event.yielded ++ l) (sym steps) ∙ at.split;
      left = omega (arith, left, short, gone);
      hands = hand_more c.loop-event.yielded _ c.args.left.now c.loop-event.left c.keep_load.new.left at.hands c.keep_load.ensures;
    }
