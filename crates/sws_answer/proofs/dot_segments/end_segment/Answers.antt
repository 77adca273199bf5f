use Rattle.std.proofs.Common.{ap, ◌∙◌, false, true}
use Rattle.sws_answer.specs.Targets.{is_dot, is_double_dot}
use Rattle.sws_answer.proofs.DotLemmas.{start_of, test-rest, ends-dot, ends-double, ends-other}
use Rattle.sws_answer.proofs.dot_segments.end_segment.Goals as goal

pub returns-then-is_same_folder-clause-ends : goal.returns-then-is_same_folder-clause-ends
returns-then-is_same_folder-clause-ends c = λ folders segment w.
    ends-dot c.args.room.now c.truncate.new.self folders segment c.segment_start-start.result w
    (c.segment_start-start.ensures.start ∙ ap start_of c.bytes.ensures)
    (test-rest is_dot c.bytes-2.result.now c.args.room.now c.segment_start-start.result c.is_same_folder.result true c.bytes-2.ensures c.is_same_folder.ensures c.if-is_same_folder.true)
    c.truncate.ensures

pub returns-then-is_folder_above-clause-ends : goal.returns-then-is_folder_above-clause-ends
returns-then-is_folder_above-clause-ends c = λ folders segment w.
    ends-double c.args.room.now c.truncate-then-is_folder_above.new.self c.remove_folder.new.room folders segment c.segment_start-start.result w
    (c.segment_start-start.ensures.start ∙ ap start_of c.bytes.ensures)
    (test-rest is_dot c.bytes-2.result.now c.args.room.now c.segment_start-start.result c.is_same_folder.result false c.bytes-2.ensures c.is_same_folder.ensures c.if-is_same_folder.false)
    (test-rest is_double_dot c.bytes-3.result.now c.args.room.now c.segment_start-start.result c.is_folder_above.result true c.bytes-3.ensures c.is_folder_above.ensures c.if-is_folder_above.true)
    c.truncate-then-is_folder_above.ensures c.remove_folder.ensures.removed c.remove_folder.ensures.top

pub returns-clause-ends : goal.returns-clause-ends
returns-clause-ends c = λ folders segment w.
    ends-other c.args.room.now folders segment c.segment_start-start.result w
    (c.segment_start-start.ensures.start ∙ ap start_of c.bytes.ensures)
    (test-rest is_dot c.bytes-2.result.now c.args.room.now c.segment_start-start.result c.is_same_folder.result false c.bytes-2.ensures c.is_same_folder.ensures c.if-is_same_folder.false)
    (test-rest is_double_dot c.bytes-3.result.now c.args.room.now c.segment_start-start.result c.is_folder_above.result false c.bytes-3.ensures c.is_folder_above.ensures c.if-is_folder_above.false)
