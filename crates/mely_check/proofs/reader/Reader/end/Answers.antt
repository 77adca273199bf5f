use Rattle.std.proofs.Common.{sym, refl}
use Rattle.std.proofs.lemmas.Bool.{false≢true}
use Rattle.mely_check.proofs.EndLemmas.{ends, ends_short}
use Rattle.mely_check.proofs.ReaderLemmas.{some_items, no_items, if_ok}
use Rattle.mely_check.specs.Readers.{nobody}
use Rattle.mely_check.proofs.reader.Reader.end.Goals as goal
use Rattle.mely_check.proofs.reader.Reader.end.Goals.{then-not-is_empty-via-then-not-is_empty, then-not-is_empty-via-else-not-is_empty+then-not-is_whole}

pub returns-then-not-is_empty-clause-ends : goal.returns-then-not-is_empty-clause-ends
returns-then-not-is_empty-clause-ends c = λ setup text k same.
    ends_short nobody setup text c.args.self.now c.bad.result k same
    (λ none_left all empty.
    elim c.then-not-is_empty.branch [
      | then-not-is_empty-via-then-not-is_empty w ↦ some_items _ c.args.self.now.line.items (sym c.args.self.now.line.ok.0) w.if-not-is_empty.ensures empty
      | then-not-is_empty-via-else-not-is_empty+then-not-is_whole w ↦ false≢true (w.if-not-is_whole.ensures.1 (none_left, all))
    ])
    c.bad.ensures

pub returns-clause-ends : goal.returns-clause-ends
returns-clause-ends c = λ setup text k same.
    let whole = c.if-not-is_whole.ensures.0 refl in
    ends nobody setup text c.args.self.now k same whole.0 whole.1 (no_items _ c.args.self.now.line.items (sym c.args.self.now.line.ok.0) c.if-not-is_empty.ensures) c.verdict.result c.verdict.ensures

pub returns-clause-whole : goal.returns-clause-whole
returns-clause-whole c =
    let whole = c.if-not-is_whole.ensures.0 refl in
    if_ok c.verdict.result (record { left = whole.0; begun = whole.1; ended = no_items _ c.args.self.now.line.items (sym c.args.self.now.line.ok.0) c.if-not-is_empty.ensures })
