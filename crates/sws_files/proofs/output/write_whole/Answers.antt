use Rattle.std.proofs.Common.{◌+◌, ◌≤◌, ℕ, length, sym, subst, take}
use Rattle.std.specs.Io.KnownBytes.{Appends}
use Rattle.sws_files.proofs.StreamLemmas.{within_rest, appends_more, appends_still, took_front}
use Rattle.sws_files.proofs.output.write_whole.Goals as goal
use Rattle.sws_files.proofs.output.write_whole.Goals.{in-Ok+else-count-eq0, in-Err}

pub returns-then-count-eq0 : goal.returns-then-count-eq0
returns-then-count-eq0 g c =
    let before = g.W.Write.contents c.args.writer.now in
    let between = g.W.Write.contents c.writes.writer in
    let now = g.W.Write.contents c.write.new.self in
    took_front before now c.args.bytes.now (c.writes.at + c.in-Ok.count)
    (appends_more before between now c.args.bytes.now c.writes.at c.in-Ok.count c.writes.invariant.took c.in-Ok.ensures.bytes)

pub returns-in-Err-2 : goal.returns-in-Err-2
returns-in-Err-2 g c =
    let before = g.W.Write.contents c.args.writer.now in
    let between = g.W.Write.contents c.writes.writer in
    let now = g.W.Write.contents c.write.new.self in
    took_front before now c.args.bytes.now c.writes.at
    (appends_still before between now (take c.writes.at c.args.bytes.now) c.writes.invariant.took c.in-Err-2.ensures.bytes)

pub writes-preserved : goal.writes-preserved
writes-preserved g c =
    let before = g.W.Write.contents c.args.writer.now in
    let between = g.W.Write.contents c.writes.writer in
    let now = g.W.Write.contents c.write.new.self in
    let bytes = c.args.bytes.now in
    let Took : ℕ → Type 0 = λ n. Appends before now (take n bytes) in
    elim c.match-write.branch [
      | in-Ok+else-count-eq0 w ↦ record {
        within = subst (λ (n : ℕ). n ≤ length bytes) (sym w.at-is)
            (within_rest bytes c.writes.at w.in-Ok.count c.writes.invariant.within w.in-Ok.ensures.bound);
        took = subst Took (sym w.at-is)
            (appends_more before between now bytes c.writes.at w.in-Ok.count c.writes.invariant.took w.in-Ok.ensures.bytes);
      }
      | in-Err w ↦ record {
        within = subst (λ (n : ℕ). n ≤ length bytes) (sym w.at-is) c.writes.invariant.within;
        took = subst Took (sym w.at-is)
            (appends_still before between now (take c.writes.at bytes) c.writes.invariant.took w.in-Err.ensures.bytes);
      }
    ]

pub returns : goal.returns
returns g c = took_front (g.W.Write.contents c.args.writer.now) (g.W.Write.contents c.writes.writer) c.args.bytes.now c.writes.at c.writes.invariant.took
