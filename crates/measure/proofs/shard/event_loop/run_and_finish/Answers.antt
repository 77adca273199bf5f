use Rattle.std.proofs.Common.{◌+◌, ◌++◌, ◌∷◌, [], refl, sym, ap, ◌∙◌, subst}
use Rattle.mely_shard.specs.Shard.{IsOwn}
use Rattle.mely_shard.proofs.TurnLemmas.{turn_ran}
use Rattle.measure.proofs.shard.event_loop.run_and_finish.Goals as goal

pub loop-event-preserved : goal.loop-event-preserved
loop-event-preserved c =
    let rest = c.in-Some.ensures.rest in
    let colour = ap (λ t. t.colour) rest in
    let state = c.state.ensures.value ∙ ap (λ t. t.state) rest in
    record {
      stands = turn_ran (c.in-Some.event, c.in-Some._load) c.loop-event.invariant.stands c.in-Some.ensures.next colour (ap (λ t. t.core) rest) (ap (λ t. t.count) rest)
          (ap (λ l. l.events) c.push.ensures ∙ ap (λ s. s.events ++ c.in-Some.event ∷ []) state) (ap (λ l. l.colour) c.push.ensures ∙ ap (λ s. s.colour) state) refl;
      own = subst (IsOwn c.args.shard.now) (sym colour) c.loop-event.invariant.own;
    }

pub finish-requires-clause-stands : goal.finish-requires-clause-stands
finish-requires-clause-stands c = rw c.in_default.ensures.next.1 c.loop-event.invariant.stands
