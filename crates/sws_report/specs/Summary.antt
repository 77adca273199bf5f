-- The summary of connections.
use Rattle.std.specs.Prelude.{ℕ, Bool, true, false, List, [], ◌∷◌, ◌++◌, length, codes}
use Rattle.std.specs.List.{count_by}
use Rattle.sws_steps.specs.declared.End.{End}
use Rattle.sws_steps.specs.declared.End.TheVariants.{Done, Idle, Fault}
use Rattle.sws_text.specs.Numbers.{space_number}

-- the connection ended well
abbrev pub is_done : End → Bool
is_done Done = true
is_done _ = false

-- the link stayed unready
abbrev pub is_idle : End → Bool
is_idle Idle = true
is_idle _ = false

-- the link failed
abbrev pub is_fault : End → Bool
is_fault Fault = true
is_fault _ = false

-- how many connections there are, and how many of them ended in each way
abbrev pub ends_line : List End → List ℕ
ends_line ends =
    (codes "connections" ++ space_number (length ends))
    ++ (codes " done" ++ space_number (count_by is_done ends))
    ++ (codes " idle" ++ space_number (count_by is_idle ends))
    ++ (codes " fault" ++ space_number (count_by is_fault ends)) ++ 10 ∷ []

-- how many bytes were read and written in all
abbrev pub bytes_line : ℕ → ℕ → List ℕ
bytes_line read written =
    (codes "read" ++ space_number read) ++ (codes " written" ++ space_number written) ++ 10 ∷ []

-- the summary of these ends, and of so many bytes read and written
abbrev pub summary : List End → ℕ → ℕ → List ℕ
summary ends read written = ends_line ends ++ bytes_line read written
