-- Which line may follow which, by the place between two lines, and what lines say together.
use Rattle.std.specs.Prelude.{ℕ, ◌+◌, nat_lt, nat_le, ◌&&◌, Bool, true, false, if◌then◌else◌, List, [], ◌∷◌, ◌++◌, Option, Some, None, option_map, option_and_then, option_to_list}
use Rattle.sws_script.specs.declared.input.Item.{Item}
use Rattle.sws_script.specs.declared.input.Item.TheVariants as item
use Rattle.sws_script.specs.declared.input.ScriptConn.{ScriptConn}
use Rattle.sws_script.specs.declared.input.Input.{Input}
use Rattle.sws_script.specs.declared.line.Line.{Line}
use Rattle.sws_script.specs.declared.line.Line.TheVariants as line
use Rattle.sws_script.specs.declared.contents.Contents.{Contents}
use Rattle.sws_script.specs.declared.place.Place.{Place}
use Rattle.sws_script.specs.declared.place.Place.TheVariants.{ScheduleHead, Steps, ScriptHead, Top, Conn, Step, Cut, Piece, Pause, Fault}
use Rattle.sws_script.specs.Limits.{step_limit}

-- ---- places

-- the script has begun
abbrev pub in_script : Place → Bool
in_script ScheduleHead = false
in_script Steps = false
in_script ScriptHead = false
in_script _ = true

-- a fault of writing may be said here
abbrev pub is_before_cut : Place → Bool
is_before_cut Conn = true
is_before_cut Step = true
is_before_cut _ = false

-- in a connection that no fault has ended
abbrev pub takes_items : Place → Bool
takes_items Conn = true
takes_items Step = true
takes_items Cut = true
takes_items Piece = true
takes_items Pause = true
takes_items _ = false

-- in a connection that no fault has ended, and not behind a pause
abbrev pub takes_pause : Place → Bool
takes_pause Pause = false
takes_pause place = takes_items place

-- the head of a schedule comes next
abbrev pub is_schedule_head : Place → Bool
is_schedule_head ScheduleHead = true
is_schedule_head _ = false

-- a step of a schedule may come next, or its end
abbrev pub is_steps : Place → Bool
is_steps Steps = true
is_steps _ = false

-- the head of a script comes next
abbrev pub is_script_head : Place → Bool
is_script_head ScriptHead = true
is_script_head _ = false

-- the line that begins a connection came last
abbrev pub is_behind_conn : Place → Bool
is_behind_conn Conn = true
is_behind_conn _ = false

-- the place, where this holds
abbrev pub when : Bool → Place → Option Place
when holds place = if holds then Some place else None

-- the place behind a line, where that may follow
abbrev pub place_after : Place → Line → Option Place
place_after place line.ScheduleHead = when (is_schedule_head place) Steps
place_after place (line.Run core count) = when (is_steps place) Steps
place_after place line.End = when (is_steps place) ScriptHead
place_after place line.ScriptHead = when (is_script_head place) Top
place_after place line.Conn = when (in_script place) Conn
place_after place (line.Step count) = when (is_behind_conn place) Step
place_after place (line.Cut count) = when (is_before_cut place) Cut
place_after place (line.Item (item.Send bytes)) = when (takes_items place) Piece
place_after place (line.Item (item.Fill count)) = when (takes_items place) Piece
place_after place (line.Item (item.Pause count)) = when (takes_pause place) Pause
place_after place (line.Item item.Fault) = when (takes_items place) Fault

-- ---- states

-- the place, and how many steps were counted
pub record State : Type 0 where
  pub place : Place
  pub total : ℕ

-- the steps with those of a line, where its core and their number are within the limits
abbrev pub total_after : ℕ → ℕ → Line → Option ℕ
total_after cores total line.ScheduleHead = Some total
total_after cores total (line.Run core count) =
    if nat_lt core cores && nat_le (total + count) step_limit then Some (total + count) else None
total_after cores total line.End = Some total
total_after cores total line.ScriptHead = Some total
total_after cores total line.Conn = Some total
total_after cores total (line.Step count) = Some total
total_after cores total (line.Cut count) = Some total
total_after cores total (line.Item item) = Some total

-- what was read so far, where both are there
abbrev pub state_of : Option Place → Option ℕ → Option State
state_of None total = None
state_of (Some place) None = None
state_of (Some place) (Some total) = Some (record { place = place; total = total })

-- what was read with a line more, where that may follow
abbrev pub state_after : ℕ → State → Line → Option State
state_after cores state says =
    state_of (place_after state.place says) (total_after cores state.total says)

-- the state behind lines, where each may follow those before it
abbrev pub run : ℕ → State → List Line → Option State
run cores state [] = Some state
run cores state (says ∷ lines) =
    option_and_then (λ next. run cores next lines) (state_after cores state says)

-- nothing was read; whether a schedule comes first
abbrev pub start : Bool → State
start true = record { place = ScheduleHead; total = 0 }
start false = record { place = ScriptHead; total = 0 }

-- ---- what lines say together

-- a connection of which nothing was said
abbrev pub bare_conn : ScriptConn
bare_conn = record { step = None; cut = None; items = [] }

-- a connection with this bound on writes
abbrev pub with_step : ℕ → ScriptConn → ScriptConn
with_step count conn = record { step = Some count; cut = conn.cut; items = conn.items }

-- a connection with a fault of writing behind so many bytes
abbrev pub with_cut : ℕ → ScriptConn → ScriptConn
with_cut count conn = record { step = conn.step; cut = Some count; items = conn.items }

-- a connection with one item more
abbrev pub with_item : Item → ScriptConn → ScriptConn
with_item item conn = record { step = conn.step; cut = conn.cut; items = conn.items ++ item ∷ [] }

-- what lines have said, with one line more
abbrev pub grown : Contents → Line → Contents
grown contents line.ScheduleHead = contents
grown contents (line.Run core count) = record {
  steps = contents.steps ++ (core, count) ∷ [];
  conns = contents.conns;
  open_conn = contents.open_conn;
}
grown contents line.End = contents
grown contents line.ScriptHead = contents
grown contents line.Conn = record {
  steps = contents.steps;
  conns = contents.conns ++ option_to_list contents.open_conn;
  open_conn = Some bare_conn;
}
grown contents (line.Step count) = record {
  steps = contents.steps;
  conns = contents.conns;
  open_conn = option_map (with_step count) contents.open_conn;
}
grown contents (line.Cut count) = record {
  steps = contents.steps;
  conns = contents.conns;
  open_conn = option_map (with_cut count) contents.open_conn;
}
grown contents (line.Item item) = record {
  steps = contents.steps;
  conns = contents.conns;
  open_conn = option_map (with_item item) contents.open_conn;
}

-- nothing was said
abbrev pub no_contents : Contents
no_contents = record { steps = []; conns = []; open_conn = None }

-- the connections so far, the open one too
abbrev pub conns_of : Contents → List ScriptConn
conns_of contents = contents.conns ++ option_to_list contents.open_conn

-- the input that was said so far
abbrev pub input_of : Contents → Input
input_of contents = record { steps = contents.steps; conns = conns_of contents }
