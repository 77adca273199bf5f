use Rattle.std.proofs.Common.{◌∙◌}
use Rattle.sws_handlers.proofs.Events.SeatLemmas.{opening_is, some_of, linked_none}
use Rattle.sws_handlers.proofs.seating.step_seat.Goals as goal

pub returns-clause-moved : goal.returns-clause-moved
returns-clause-moved g c is =
    let step = some_of _ c.requires.pending in
    let ran = c.step-next.ensures.runs c.requires.ran.first c.requires.ran.ran step.0 c.requires.ran.is step.1 in
    let serves = c.a_run_serves.ensures.serves _ _ _ ran in
    let opening = c.pending-pending.ensures.pending ∙ opening_is (g.T.Talk.view_of c.step-next.new.self) is in
    linked_none _ _ _ serves (c.pending-pending.ensures.linked.1 opening)
