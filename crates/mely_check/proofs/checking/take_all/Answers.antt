use Rattle.std.proofs.Common.{ℕ, List, ◌++◌, ◌≤◌, length, take, take_all, subst, arith, ◌∙◌}
use Rattle.mely_check.specs.Readers.{Refuses, Stands, Knows}
use Rattle.mely_check.proofs.ReaderLemmas.{bytes_refused, byte_more}
use Rattle.mely_check.proofs.checking.take_all.Goals as goal

pub returns-in-Err-clause-goes : goal.returns-in-Err-clause-goes
returns-in-Err-clause-goes g c = λ text stands.
    let loop = c.loop-byte in
    let bytes = c.args.bytes.now in
    subst (λ (s : ℕ). Refuses s (text ++ bytes) c.in-Err.fault) loop.invariant.shards
    (bytes_refused loop.reader.place.shards text bytes loop.byte-index c.in-Err.fault c.loop-byte-test.true
    (c.in-Err.ensures.goes (text ++ take loop.byte-index bytes) (loop.invariant.stands text stands)))

pub loop-byte-preserved : goal.loop-byte-preserved
loop-byte-preserved g c =
    let before = c.loop-byte.invariant in
    let at = c.loop-byte.byte-index in
    let bytes = c.args.bytes.now in
    let reached = before.further in
    let more = c.in-Ok.ensures.further in
    record {
      open_line = c.in-Ok.ensures.open_line;
      later = (let so_far = before.later in let one = c.in-Ok.ensures.later in omega (arith, so_far, one));
      further = omega (arith, reached, more);
      stands = λ text stands.
          subst (λ (t : List ℕ). Stands t c.take.new.self) (byte_more text bytes at c.loop-byte-test.true) (c.in-Ok.ensures.goes (text ++ take at bytes) (before.stands text stands));
      knows = λ setup text k.
          subst (λ (t : List ℕ). Knows (λ walk. g.L.Listener.Heard walk c.take.new.listener) setup t c.take.new.self) (byte_more text bytes at c.loop-byte-test.true)
          (c.in-Ok.ensures.knows setup (text ++ take at bytes) (before.knows setup text k));
      frame = c.take.ensures.frame ∙ before.frame;
      shards = c.take.ensures.shards ∙ before.shards;
    }

pub returns-clause-knows : goal.returns-clause-knows
returns-clause-knows g c = λ setup text k.
    let past = c.loop-byte-test.false in
    let bytes = c.args.bytes.now in
    let all : length bytes ≤ c.loop-byte.byte-index = omega (arith, past) in
    subst (λ (t : List ℕ). Knows (λ walk. g.L.Listener.Heard walk c.loop-byte.listener) setup (text ++ t) c.loop-byte.reader) (take_all c.loop-byte.byte-index bytes all) (c.loop-byte.invariant.knows setup text k)
