use Rattle.std.proofs.Common.{◌∷◌, ◌++◌, [], ◌∙◌, ap, refl}
use Rattle.test_fleet.proofs.RowLemmas.{tally_words, may_onward}
use Rattle.test_fleet.proofs.tests.calls.run_and_finish.Goals as goal

pub loop-event-preserved : goal.loop-event-preserved
loop-event-preserved g c =
    let rest = c.in-Some.ensures.rest in
    let state = c.state.ensures.value ∙ ap (λ t. t.state) rest in
    may_onward tally_words c.args.fleet.now c.args.own.now c.loop-event.turn _ (c.in-Some.event, c.in-Some._load) c.loop-event.invariant c.in-Some.ensures.next (ap (λ t. t.colour) rest) (ap (λ t. t.core) rest) (ap (λ t. t.count) rest)
    (ap (λ l. l.events) c.draw.ensures ∙ ap (λ s. s.log.events ++ c.in-Some.event ∷ []) state) (ap (λ l. l.colour) c.draw.ensures ∙ ap (λ s. s.log.colour) state) refl
