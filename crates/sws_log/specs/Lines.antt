-- The text of a log, and which lines of a log stand within so many bytes.
use Rattle.std.specs.Prelude.{ℕ, ◌-◌, nat_le, if◌then◌else◌, List, [], ◌∷◌, ◌++◌, codes}
use Rattle.std.specs.List.{flat_map}
use Rattle.sws_text.specs.Numbers.{space_number}
use Rattle.sws_text.specs.Texts.{text_of}
use Rattle.sws_log.specs.declared.line.LogLine.{LogLine}

-- the connection, its answer's number, code and length, and the target as a text, on one line
abbrev pub log_line : LogLine → List ℕ
log_line line =
    codes "log" ++ space_number line.conn ++ space_number line.turn ++ space_number line.code
    ++ space_number line.length ++ 32 ∷ text_of line.target ++ 10 ∷ []

-- the lines, one after another
abbrev pub log_text : List LogLine → List ℕ
log_text lines = flat_map log_line lines

-- the lines of the first answers, as many as have been written whole where so many bytes were
abbrev pub lines_within : ℕ → List LogLine → List LogLine
lines_within written [] = []
lines_within written (line ∷ lines) =
    if nat_le line.length written then line ∷ lines_within (written - line.length) lines else []
