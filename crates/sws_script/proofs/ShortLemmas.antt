-- No text of an input is shorter than the one that is printed, but for the LF at its end.
use Rattle.std.proofs.Common.{ℕ, ◌+◌, ◌≤◌, Bool, true, false, cond, eqb, List, [], ◌∷◌, length, ap, arith, length-append}
use Rattle.std.specs.Prelude.{codes}
use Rattle.std.specs.List.{AllZip, onto_first}
use Rattle.sws_text.specs.Texts.{text_of}
use Rattle.sws_text.proofs.LengthLemmas.{StandsFor-shortest}
use Rattle.sws_script.specs.declared.input.Input.{Input}
use Rattle.sws_script.specs.declared.input.Item.TheVariants as item
use Rattle.sws_script.specs.declared.line.Line.{Line}
use Rattle.sws_script.specs.declared.line.Line.TheVariants as line
use Rattle.sws_script.specs.Lines.{SpellsLine}
use Rattle.sws_script.specs.Inputs.{input_lines}
use Rattle.sws_script.specs.Grammar.{lines_of, size_of, Spells}
use Rattle.sws_script.specs.Printed.{line_text, printed_line, printed_lines, print_input}

line_short : (text : List ℕ) (says : Line) → SpellsLine text says → length (line_text says) ≤ length text
line_short text line.ScheduleHead is = omega (arith, ap length is)
line_short text (line.Run core count) is = omega (arith, ap length is)
line_short text line.End is = omega (arith, ap length is)
line_short text line.ScriptHead is = omega (arith, ap length is)
line_short text line.Conn is = omega (arith, ap length is)
line_short text (line.Step count) is = omega (arith, ap length is)
line_short text (line.Cut count) is = omega (arith, ap length is)
line_short text (line.Item (item.Send bytes)) is =
    let few = StandsFor-shortest is.0 bytes is.2 in
    let long = ap length is.1 in
    omega (arith, length-append (codes "send ") is.0, length-append (codes "send ") (text_of bytes))
line_short text (line.Item (item.Fill count)) is = omega (arith, ap length is)
line_short text (line.Item (item.Pause count)) is = omega (arith, ap length is)
line_short text (line.Item item.Fault) is = omega (arith, ap length is)

lines_short : (texts : List (List ℕ)) (lines : List Line) → AllZip SpellsLine texts lines → length (printed_lines lines) ≤ size_of texts
lines_short [] [] zip = omega arith
lines_short [] (says ∷ lines) zip = absurd zip
lines_short (text ∷ texts) [] zip = absurd zip
lines_short (text ∷ texts) (says ∷ lines) zip =
    let first = line_short text says zip.0 in
    let others = lines_short texts lines zip.1 in
    omega (arith, length-append (printed_line says) (printed_lines lines), length-append (line_text says) (10 ∷ []))

onto_first-size : (byte : ℕ) (bytes : List ℕ) (lines : List (List ℕ)) → size_of lines ≤ length bytes + 1 → size_of (onto_first byte lines) ≤ length (byte ∷ bytes) + 1
onto_first-size byte bytes [] few = omega arith
onto_first-size byte bytes (l ∷ lines) few = omega arith

size_of-lines_of : (text : List ℕ) → size_of (lines_of text) ≤ length text + 1
size_of-lines_of [] = omega arith
size_of-lines_of (byte ∷ bytes) = by_test (eqb byte 10) (size_of-lines_of bytes)
  where
    by_test : (t : Bool) → size_of (lines_of bytes) ≤ length bytes + 1 → size_of (cond t ([] ∷ lines_of bytes) (onto_first byte (lines_of bytes))) ≤ length (byte ∷ bytes) + 1
    by_test true few = omega arith
    by_test false few = onto_first-size byte bytes (lines_of bytes) few

pub printed-short : (schedule : Bool) (cores : ℕ) (text : List ℕ) (input : Input) → Spells schedule cores text input → length (print_input schedule input) ≤ length text + 1
printed-short schedule cores text input spells =
    let few = lines_short (lines_of text) (input_lines schedule input) spells.lines in
    let size = size_of-lines_of text in omega arith
