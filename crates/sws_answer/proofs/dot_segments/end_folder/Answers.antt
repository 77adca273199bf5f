use Rattle.std.proofs.Common.{refl}
use Rattle.sws_answer.proofs.DotLemmas.{written-dots, written-slash}
use Rattle.sws_answer.proofs.dot_segments.end_folder.Goals as goal

pub returns-then-end_segment-clause-written : goal.returns-then-end_segment-clause-written
returns-then-end_segment-clause-written c = λ folders segment w.
    written-dots c.args.room.now c.end_segment.new.room folders segment w (c.if-end_segment.ensures.ends folders segment w)

pub returns-clause-written : goal.returns-clause-written
returns-clause-written c = λ folders segment w.
    written-slash c.args.room.now c.end_segment.new.room c.put.new.self folders segment w (c.if-end_segment.ensures.ends folders segment w) (c.if-not-put.ensures.put refl)
