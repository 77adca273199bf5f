use Rattle.std.proofs.Common.{◌≡◌, ◌++◌, ◌∷◌, [], ℕ, ◌+◌, ◌<◌, length, sym, ap, ◌∙◌, arith}
use Rattle.mely_check.proofs.ReaderLemmas.{pushed, line_too_long, line_ended, knows_byte, knows_line}
use Rattle.mely_check.proofs.reader.Reader.take.Given.{Over}
use Rattle.mely_check.proofs.reader.Reader.take.Goals as goal
use Rattle.mely_check.proofs.reader.Reader.take.Goals.{Else-is_err, else-byte-ne10-via-then-byte-ne10+else-len-eq-MAX_LINE, else-byte-ne10-via-else-byte-ne10}

pub returns-then-len-eq-MAX_LINE-clause-goes : goal.returns-then-len-eq-MAX_LINE-clause-goes
returns-then-len-eq-MAX_LINE-clause-goes g c = λ text stands.
    let kept = c.args.self.now.line.ok.0 in
    line_too_long text c.args.self.now c.args.byte c.bad.result stands c.if-byte-ne10.true (omega (arith, kept, c.len.ensures, c.if-len-eq-MAX_LINE.true)) c.bad.ensures

-- the line with the byte behind it
longer : (g : Over) → (c : Else-is_err g) → c.push.new.self.items ≡ c.args.self.now.line.items ++ c.args.byte ∷ []
longer g c = pushed c.push.result c.push.new.self.items c.args.self.now.line.items (c.args.self.now.line.items ++ c.args.byte ∷ []) c.push.ensures.items (sym c.is_err.ensures.value ∙ c.if-is_err.false)

pub returns-then-byte-eq10-clause-goes : goal.returns-then-byte-eq10-clause-goes
returns-then-byte-eq10-clause-goes g c = λ text stands.
    let line = longer g (goal.at.returns-then-byte-eq10-clause-goes g c).Else-is_err in
    line_ended text c.args.self.now c.end_line.new.self c.args.byte c.push.new.self.items c.end_line.result stands c.if-byte-eq10.true line
    (record { front = c.args.self.now.line.items; is = line ∙ ap (λ (b : ℕ). c.args.self.now.line.items ++ b ∷ []) c.if-byte-eq10.true; no_feed = c.requires.unended }) (c.end_line.ensures.goes stands.lines stands.at) c.end_line.ensures.empty

pub returns-then-byte-eq10-clause-knows : goal.returns-then-byte-eq10-clause-knows
returns-then-byte-eq10-clause-knows g c = λ setup text k.
    knows_line (λ walk. g.L.Listener.Heard walk c.args.listener.now) (λ walk. g.L.Listener.Heard walk c.end_line.new.listener) setup text c.args.self.now c.end_line.new.self c.args.byte c.push.new.self.items c.end_line.result k (longer g (goal.at.returns-then-byte-eq10-clause-knows g c).Else-is_err) (c.end_line.ensures.hears setup k.lines k.heard) c.end_line.ensures.empty

pub returns-clause-knows : goal.returns-clause-knows
returns-clause-knows g c = λ setup text k.
    let kept = c.args.self.now.line.ok.0 in
    let open_line = k.short in
    let short : length c.args.self.now.line.items + 1 < 64 = elim c.else-byte-ne10.branch [
      | else-byte-ne10-via-then-byte-ne10+else-len-eq-MAX_LINE w ↦ omega (arith, kept, w.len.ensures, w.if-len-eq-MAX_LINE.false)
      | else-byte-ne10-via-else-byte-ne10 w ↦ absurd (c.if-byte-eq10.false w.if-byte-ne10.false)
    ] in
    knows_byte (λ walk. g.L.Listener.Heard walk c.args.listener.now) setup text c.args.self.now (record { place = c.args.self.now.place; line = c.push.new.self; judge = c.args.self.now.judge }) c.args.byte k (λ lines heard. heard) (longer g (goal.at.returns-clause-knows g c).Else-is_err) c.if-byte-eq10.false short
