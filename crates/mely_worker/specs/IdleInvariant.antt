-- What contracts see of a worker at rest, and what its type keeps.
use Rattle.mely_worker.specs.declared.idle_worker.IdleWorker.TheInside.{Inside}
use Rattle.mely_worker.specs.declared.phase.Phase.TheVariants.{Free}
use Rattle.mely_worker.specs.IdleWorker.{IdleWorkerState}
use Rattle.mely_worker.specs.WorkerFields.{IsConsistent}

-- a worker at rest, of its private fields
abbrev pub rest_of : {P : Type 0} → Inside P → IdleWorkerState P
rest_of r = record {
  core = r.fields.core;
  batch = r.fields.batch;
  halted = r.fields.halted;
  victims = r.fields.victims.items;
  lost = r.fields.lost.items;
  place = r.place;
}

-- what each worker at rest keeps: that of a free worker
abbrev pub IsRestKept : {P : Type 0} → Inside P → Type 0
IsRestKept {P} r = IsConsistent {S = Unit {0}} {P = P} r.fields (Free r.place)
