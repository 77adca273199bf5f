-- What an input is, and its lines.
use Rattle.std.specs.Prelude.{◌≡◌, ℕ, ◌+◌, ◌<◌, ◌≤◌, Bool, true, false, List, [], ◌∷◌, ◌++◌, map, Option, Some, None, ⊤}
use Rattle.std.specs.List.{flat_map, AllByRecursion}
use Rattle.sws_script.specs.declared.input.Item.{Item}
use Rattle.sws_script.specs.declared.input.Item.TheVariants.{Send, Fill, Pause, Fault}
use Rattle.sws_script.specs.declared.input.ScriptConn.{ScriptConn}
use Rattle.sws_script.specs.declared.input.Input.{Input}
use Rattle.sws_script.specs.declared.line.Line.{Line}
use Rattle.sws_script.specs.declared.line.Line.TheVariants as line
use Rattle.sws_script.specs.Lines.{IsLine}
use Rattle.sws_script.specs.Limits.{step_limit}

-- ---- the lines of an input

-- the line of a bound on writes, where there is one
abbrev pub step_lines : Option ℕ → List Line
step_lines None = []
step_lines (Some count) = line.Step count ∷ []

-- the line of a fault of writing, where there is one
abbrev pub cut_lines : Option ℕ → List Line
cut_lines None = []
cut_lines (Some count) = line.Cut count ∷ []

-- a connection
abbrev pub conn_lines : ScriptConn → List Line
conn_lines conn = line.Conn ∷ step_lines conn.step ++ cut_lines conn.cut ++ map line.Item conn.items

-- so many steps of a core
abbrev pub run_line : ℕ × ℕ → Line
run_line run = line.Run run.0 run.1

-- the lines of a schedule
abbrev pub schedule_lines : List (ℕ × ℕ) → List Line
schedule_lines steps = line.ScheduleHead ∷ map run_line steps ++ line.End ∷ []

-- the lines of the connections
abbrev pub script_lines : List ScriptConn → List Line
script_lines conns = line.ScriptHead ∷ flat_map conn_lines conns

-- a script, with a schedule before it where one is given
abbrev pub input_lines : Bool → Input → List Line
input_lines true input = schedule_lines input.steps ++ script_lines input.conns
input_lines false input = script_lines input.conns

-- ---- what an input is

-- nothing follows a fault, and no pause follows a pause
abbrev pub MayFollow : Item → Item → Type 0
MayFollow (Send bytes) next = ⊤
MayFollow (Fill count) next = ⊤
MayFollow (Pause count) (Send bytes) = ⊤
MayFollow (Pause count) (Fill more) = ⊤
MayFollow (Pause count) (Pause more) = ⊥
MayFollow (Pause count) Fault = ⊤
MayFollow Fault next = ⊥

-- each item may follow the one before it
abbrev pub IsInOrder : List Item → Type 0
IsInOrder [] = ⊤
IsInOrder (item ∷ []) = ⊤
IsInOrder (item ∷ next ∷ items) = MayFollow item next × IsInOrder (next ∷ items)

-- how many steps these are in all
abbrev pub total_of : List (ℕ × ℕ) → ℕ
total_of [] = 0
total_of (run ∷ runs) = run.1 + total_of runs

-- each number is within its range, cores are below the number of workers, the steps are 10,000,000
-- at most, items stand in order, and without a schedule there are no steps
pub record IsInput (schedule : Bool) (cores : ℕ) (input : Input) : Type 0 where
  pub lines : AllByRecursion IsLine (input_lines schedule input)
  pub workers : AllByRecursion (λ run. run.0 < cores) input.steps
  pub count : total_of input.steps ≤ step_limit
  pub order : AllByRecursion (λ conn. IsInOrder conn.items) input.conns
  pub none : schedule ≡ false → input.steps ≡ []
