-- What clients say and are shown.
use Rattle.std.specs.Prelude.{◌==◌, ◌+◌, ◌≤◌, ℕ, List, ◌++◌, ◌∷◌, [], Contains, codes, filter, flat_map, if◌then◌else◌, length}
use Rattle.std.specs.Fmt.{decimal}
use Rattle.example_chat_room.specs.declared.line.Line.{Line}

-- bytes that fit a line: at most 512, none of which ends one
pub record FitsLine (bytes : List ℕ) : Type 0 where
  pub few : length bytes ≤ 512
  pub no_end : Contains bytes 10 → ⊥

-- a line as its client says it, and several
abbrev pub said : Line → List ℕ
said line = line.text.items ++ 10 ∷ []

abbrev pub all_said : List Line → List ℕ
all_said lines = flat_map said lines

-- those of a client
abbrev pub said_by : ℕ → List Line → List Line
said_by client lines = filter (λ line. line.from == client) lines

-- a line as it is shown: who said it, by a number from 1 on, and what it says
abbrev pub shown : Line → List ℕ
shown line = decimal (line.from + 1) ++ codes ": " ++ line.text.items ++ 10 ∷ []

-- what a client is shown of a line, which is nothing where it is its own, and of several
abbrev pub shown_of : ℕ → Line → List ℕ
shown_of client line = if line.from == client then [] else shown line

abbrev pub shown_to : ℕ → List Line → List ℕ
shown_to client lines = flat_map (shown_of client) lines
