use Rattle.std.proofs.Common.{◌≡◌, ◌++◌, ℕ, List, [], sym, ap, ◌∙◌, append-nil, append_assoc}
use Rattle.std.specs.List.{flat_map}
use Rattle.sws_text.specs.Lines.{lines_of, IsFirstLine}
use Rattle.sws_text.proofs.LineLemmas.{GoesTo, first-goes}
use Rattle.sws_gopher.specs.Texts.{text_of, text_line, last_line}
use Rattle.sws_gopher.proofs.texts.text_in.Goals as goal

abbrev all : List ℕ → List ℕ
all bytes = flat_map text_line (lines_of bytes)

-- one line more
further : (contents rest line after text new : List ℕ) → IsFirstLine rest line after → text ++ all rest ≡ all contents → new ≡ text ++ text_line line
    → new ++ all after ≡ all contents
further contents rest line after text new first kept is =
    ap (λ t. t ++ all after) is ∙ append_assoc text (text_line line) (all after)
    ∙ sym (ap (λ l. text ++ flat_map text_line l) (GoesTo.lines (first-goes rest line after first))) ∙ kept

-- no line is left
ended : (contents rest text new : List ℕ) → rest ≡ [] → text ++ all rest ≡ all contents → new ≡ text ++ last_line → new ≡ text_of contents
unfolding text_of
ended contents rest text new none kept is =
    is ∙ ap (λ t. t ++ last_line) (sym (append-nil text) ∙ ap (λ r. text ++ all r) (sym none) ∙ kept)

pub lines-preserved : goal.lines-preserved
lines-preserved c = further c.args.contents.now c.lines.rest.now c.in-Some.line.now c.in-Some.after.now c.lines.text.items c.push_line.new.text.items c.in-Some.ensures c.lines.invariant c.in_ok-push_line.ensures

pub returns : goal.returns
returns c = ended c.args.contents.now c.lines.rest.now c.lines.text.items c.extend_from_slice.new.self.items c.in_default.ensures c.lines.invariant c.in_ok-extend_from_slice.ensures.items
