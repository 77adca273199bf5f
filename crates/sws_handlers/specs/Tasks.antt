-- What the events of the server ask for, and the numbers of the handlers that do it.
use Rattle.std.specs.Prelude.{ℕ, List, [], ◌∷◌, Option, slice_get}
use Rattle.mely_event.specs.declared.event.Event.{Event}
use Rattle.sws_steps.specs.declared.Handler.{Handler}
use Rattle.sws_steps.specs.declared.Handler.TheVariants as handler
use Rattle.sws_handlers.specs.declared.task.Task.{Task}
use Rattle.sws_handlers.specs.declared.task.Task.TheVariants as task

-- the tasks, in the order of their handlers' numbers
abbrev pub tasks : List Task
tasks = task.Poll ∷ task.Wait ∷ task.Accept ∷ task.Step handler.Open ∷ task.Step handler.Read
    ∷ task.Step handler.Parse ∷ task.Step handler.Look ∷ task.Step handler.Write
    ∷ task.Step handler.Close ∷ task.Step handler.Resume ∷ task.Log ∷ []

-- how many handlers there are
abbrev pub handler_count : ℕ
handler_count = 11

-- the task of the handler with this number
abbrev pub task_of : ℕ → Option Task
task_of number = slice_get tasks number

-- the number of the handler of a connection's step
abbrev pub number_of : Handler → ℕ
number_of handler.Open = 3
number_of handler.Read = 4
number_of handler.Parse = 5
number_of handler.Look = 6
number_of handler.Write = 7
number_of handler.Close = 8
number_of handler.Resume = 9

-- the number of a task's handler
abbrev pub number_of_task : Task → ℕ
number_of_task task.Poll = 0
number_of_task task.Wait = 1
number_of_task task.Accept = 2
number_of_task (task.Step step) = number_of step
number_of_task task.Log = 10

-- the event that asks for a task, with this argument
abbrev pub event_of : Task → ℕ → Event
event_of task arg = record { handler = number_of_task task; arg = arg }

-- the event of a connection that asks for a step
abbrev pub event_for : ℕ → Handler → Event
event_for conn step = record { handler = number_of step; arg = conn }
