use Rattle.std.proofs.Common.{ap, ◌∙◌, ◌-◌, length, take}
use Rattle.sws_answer.proofs.DotLemmas.{last-folder, start_of}
use Rattle.sws_answer.proofs.dot_segments.remove_folder.Goals as goal

pub returns-then-len-gt0-clause-removed : goal.returns-then-len-gt0-clause-removed
returns-then-len-gt0-clause-removed c = λ folder above plain is. c.truncate.ensures
    ∙ last-folder c.args.room.now folder above c.segment_start-start.result plain.0 is
    (c.segment_start-start.ensures.start ∙ ap (λ b. start_of (take (length c.bytes-len.result.now - 1) b)) c.bytes.ensures
    ∙ ap (λ b. start_of (take (length b - 1) c.args.room.now)) c.bytes-len.ensures)
