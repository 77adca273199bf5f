use Rattle.std.proofs.Common.{refl}
use Rattle.std.proofs.lemmas.Bool.{ne_eqb}
use Rattle.sws_answer.proofs.DotLemmas.{after-slash, after-other}
use Rattle.sws_answer.proofs.dot_segments.put_byte.Goals as goal

pub returns-then-byte-eq47-clause-written : goal.returns-then-byte-eq47-clause-written
returns-then-byte-eq47-clause-written c = λ folders segment w.
    after-slash c.args.byte c.end_folder.new.room folders segment c.if-byte-eq47.true (c.end_folder.ensures.written folders segment w)

pub returns-clause-written : goal.returns-clause-written
returns-clause-written c = λ folders segment w.
    after-other c.args.byte c.args.room.now c.put.new.self folders segment (ne_eqb c.args.byte 47 c.if-byte-eq47.false) w (c.if-not-put.ensures.put refl)
