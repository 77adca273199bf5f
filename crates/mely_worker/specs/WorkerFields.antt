-- A worker in two parts: its phase, and all else.
use Rattle.std.specs.Prelude.{◌≡◌, ◌≤◌, ◌*◌, ◌+◌, true, false, length, vec_len, vec_capacity}
use Rattle.mely_worker.specs.declared.phase.Phase.{Phase}
use Rattle.mely_worker.specs.declared.worker_fields.WorkerFields.{WorkerFields}
use Rattle.mely_worker.specs.Worker.{WorkerState, may_be_refused, is_hunting, place_of}

-- a worker of these fields in this phase
abbrev pub worker_of : {S P : Type 0} → WorkerFields P → Phase S P → WorkerState S P
worker_of h phase = record {
  core = h.core;
  batch = h.batch;
  halted = h.halted;
  victims = h.victims.items;
  lost = h.lost.items;
  phase = phase;
}

-- what each worker keeps
pub record IsConsistent {S P : Type 0} (h : WorkerFields P) (phase : Phase S P) : Type 0 where
  pub place : place_of phase ≤ length h.victims.items
  pub room : 2 * h.batch ≤ vec_capacity h.lost
  pub few : vec_len h.lost + may_be_refused phase ≤ 2 * h.batch
  pub none_lost : h.halted ≡ false → vec_len h.lost ≡ 0
  pub hunting : is_hunting phase ≡ true → h.halted ≡ false
