-- The text that is written for an input spells it.
use Rattle.std.proofs.Common.{rules, ◌≡◌, ◌≢◌, ℕ, ◌<◌, ◌≤◌, List, [], ◌∷◌, ◌++◌, length, map, refl, sym, ap, ◌∙◌, subst, lit<, arith, append_assoc}
use Rattle.std.specs.Prelude.{codes, Bool}
use Rattle.std.specs.List.{AllZip, AllByRecursion}
use Rattle.std.specs.Fmt.{decimal}
use Rattle.std.specs.Str.Parse.{AllDigits}
use Rattle.std.proofs.lemmas.Str.Parse.{digit_from_value}
use Rattle.sws_text.specs.Texts.{text_of}
use Rattle.sws_text.proofs.WrittenLemmas.{StandsFor-text_of, StandsFor-shown}
use Rattle.sws_script.specs.declared.input.Input.{Input}
use Rattle.sws_script.specs.declared.input.Item.TheVariants as item
use Rattle.sws_script.specs.declared.line.Line.{Line}
use Rattle.sws_script.specs.declared.line.Line.TheVariants as line
use Rattle.sws_script.specs.Lines.{SpellsLine, IsLine}
use Rattle.sws_script.specs.Words.{HasNo}
use Rattle.sws_script.specs.Inputs.{input_lines, IsInput}
use Rattle.sws_script.specs.Grammar.{lines_of, Spells}
use Rattle.sws_script.specs.Printed.{line_text, printed_lines, print_input}
use Rattle.sws_text.proofs.NumberLemmas.{decimal_digits}
use Rattle.sws_text.proofs.LineLemmas.{lines_of-line}
use Rattle.sws_script.proofs.SplitLemmas.{AreLines}

HasNo-append : (a b : List ℕ) → HasNo 10 a → HasNo 10 b → HasNo 10 (a ++ b)
HasNo-append [] b none_a none_b = none_b
HasNo-append (c ∷ a) b none_a none_b = (none_a.0, HasNo-append a b none_a.1 none_b)

-- bytes from 0x20 on are no LF
high_no_feed : (bytes : List ℕ) → AllByRecursion (λ b. (32 ≤ b) × (b < 127)) bytes → HasNo 10 bytes
high_no_feed [] all = tt
high_no_feed (b ∷ bytes) all = (λ e. let low = all.0.0 in omega arith, high_no_feed bytes all.1)

digits_no_feed : (digits : List ℕ) → AllDigits 10 digits → HasNo 10 digits
digits_no_feed [] all = tt
digits_no_feed (c ∷ digits) all = (λ e. let at = digit_from_value c all.0 in omega arith, digits_no_feed digits all.1)

decimal_no_feed : (n : ℕ) → n < 10000000000 → HasNo 10 (decimal n)
decimal_no_feed n small = digits_no_feed (decimal n) (decimal_digits 10 n (lit< tt) small (omega arith)).digits

send_no_feed : (bytes : List ℕ) → AllByRecursion (λ b. b < 256) bytes → HasNo 10 (text_of bytes)
send_no_feed bytes small = high_no_feed (text_of bytes) (StandsFor-shown (text_of bytes) bytes (StandsFor-text_of bytes small))

ne : {n : ℕ} → (n ≡ 10 → ⊥) → n ≢ 10
ne f = f

word_no_feed : (word rest : List ℕ) → HasNo 10 word → HasNo 10 rest → HasNo 10 (word ++ rest)
word_no_feed word rest a b = HasNo-append word rest a b

line_no_feed : (says : Line) → IsLine says → HasNo 10 (line_text says)
line_no_feed line.ScheduleHead is = search rules
line_no_feed (line.Run core count) is =
    word_no_feed (codes "step ") (decimal core ++ 32 ∷ decimal count) (search rules)
    (HasNo-append (decimal core) (32 ∷ decimal count) (decimal_no_feed core (omega (arith, is.0))) (λ e. omega arith, decimal_no_feed count (omega (arith, is.1.1))))
line_no_feed line.End is = search rules
line_no_feed line.ScriptHead is = search rules
line_no_feed line.Conn is = search rules
line_no_feed (line.Step count) is = word_no_feed (codes "step ") (decimal count) (search rules) (decimal_no_feed count (omega (arith, is.1)))
line_no_feed (line.Cut count) is = word_no_feed (codes "cut ") (decimal count) (search rules) (decimal_no_feed count (omega (arith, is.1)))
line_no_feed (line.Item (item.Send bytes)) is = word_no_feed (codes "send ") (text_of bytes) (search rules) (send_no_feed bytes is.1)
line_no_feed (line.Item (item.Fill count)) is = word_no_feed (codes "fill ") (decimal count) (search rules) (decimal_no_feed count (omega (arith, is.1)))
line_no_feed (line.Item (item.Pause count)) is = word_no_feed (codes "pause ") (decimal count) (search rules) (decimal_no_feed count (omega (arith, is.1)))
line_no_feed (line.Item item.Fault) is = search rules

line_spelled : (says : Line) → IsLine says → SpellsLine (line_text says) says
line_spelled line.ScheduleHead is = refl
line_spelled (line.Run core count) is = refl
line_spelled line.End is = refl
line_spelled line.ScriptHead is = refl
line_spelled line.Conn is = refl
line_spelled (line.Step count) is = refl
line_spelled (line.Cut count) is = refl
line_spelled (line.Item (item.Send bytes)) is = (text_of bytes, refl, StandsFor-text_of bytes is.1)
line_spelled (line.Item (item.Fill count)) is = refl
line_spelled (line.Item (item.Pause count)) is = refl
line_spelled (line.Item item.Fault) is = refl

lines_of-printed : (lines : List Line) → AreLines lines → lines_of (printed_lines lines) ≡ map line_text lines
lines_of-printed [] all = refl
lines_of-printed (l ∷ lines) all =
    ap lines_of (append_assoc (line_text l) (10 ∷ []) (printed_lines lines))
    ∙ lines_of-line (line_text l) (printed_lines lines) (line_no_feed l all.0)
    ∙ ap (λ ls. line_text l ∷ ls) (lines_of-printed lines all.1)

lines_spelled : (lines : List Line) → AreLines lines → AllZip SpellsLine (map line_text lines) lines
lines_spelled [] all = tt
lines_spelled (l ∷ lines) all = (line_spelled l all.0, lines_spelled lines all.1)

pub printed-spells : (schedule : Bool) (cores : ℕ) (input : Input) → IsInput schedule cores input → length (print_input schedule input) ≤ 16777216 → Spells schedule cores (print_input schedule input) input
printed-spells schedule cores input is short =
    record {
      is = is;
      lines = subst (λ ls. AllZip SpellsLine ls (input_lines schedule input)) (sym (lines_of-printed (input_lines schedule input) is.lines)) (lines_spelled (input_lines schedule input) is.lines);
      short = short;
    }
