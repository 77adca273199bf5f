-- The transcript of connections.
use Rattle.std.specs.Prelude.{ℕ, ◌+◌, List, [], ◌∷◌, ◌++◌, length, codes}
use Rattle.sws_text.specs.Shown.{shown_lines}
use Rattle.sws_steps.specs.declared.End.{End}
use Rattle.sws_steps.specs.declared.End.TheVariants.{Done, Idle, Fault, Memory}
use Rattle.sws_text.specs.Numbers.{space_number}

-- how a connection ended; want of memory has no word
abbrev pub end_word : End → List ℕ
end_word Done = codes " done"
end_word Idle = codes " idle"
end_word Fault = codes " fault"
end_word Memory = []

-- the line of a connection: its number, its end, and how many bytes were written
abbrev pub conn_line : ℕ → End → ℕ → List ℕ
conn_line number end count =
    codes "conn" ++ space_number number ++ end_word end ++ space_number count ++ 10 ∷ []

-- a connection: its line, and the lines that show the bytes
abbrev pub conn_text : ℕ → End → List ℕ → List ℕ
conn_text number end bytes = conn_line number end (length bytes) ++ shown_lines bytes

-- connections from this number on
abbrev pub transcript_from : ℕ → List (End × List ℕ) → List ℕ
transcript_from number [] = []
transcript_from number (conn ∷ conns) =
    conn_text number conn.0 conn.1 ++ transcript_from (number + 1) conns

-- all connections, each by its end and what was written
abbrev pub transcript : List (End × List ℕ) → List ℕ
transcript conns = transcript_from 0 conns
