-- What contracts see of a worker, and what its type keeps.
use Rattle.mely_worker.specs.declared.worker.Worker.TheInside.{Inside}
use Rattle.mely_worker.specs.Worker.{WorkerState}
use Rattle.mely_worker.specs.WorkerFields.{worker_of, IsConsistent}

-- a worker, of its private fields
abbrev pub view_of : {S P : Type 0} → Inside S P → WorkerState S P
view_of w = worker_of w.fields w.phase

-- what each worker keeps
abbrev pub IsWellKept : {S P : Type 0} → Inside S P → Type 0
IsWellKept w = IsConsistent w.fields w.phase
