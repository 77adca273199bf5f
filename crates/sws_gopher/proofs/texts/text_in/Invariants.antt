use Rattle.std.proofs.Common.{◌≡◌, ◌++◌, length}
use Rattle.std.specs.List.{flat_map}
use Rattle.sws_text.specs.Lines.{lines_of}
use Rattle.sws_gopher.specs.Texts.{text_line}
use Rattle.sws_gopher.proofs.texts.text_in.Given as goal

abbrev pub invariant-lines : goal.invariant-lines
invariant-lines l = l.text.items ++ flat_map text_line (lines_of l.rest) ≡ flat_map text_line (lines_of l.contents)

abbrev pub decreases-lines : goal.decreases-lines
decreases-lines l = length l.rest
