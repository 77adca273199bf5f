use Rattle.std.proofs.Common.{rules}
use Rattle.mely_worker.specs.WorkerFields.{worker_of}
use Rattle.mely_worker.proofs.RuleLemmas.{Leaves, steps_leave}
use Rattle.mely_worker.proofs.worker.Worker.step.Goals as goal

-- what the step leaves of the worker
leaves : (g : _) (c : goal.After-step_by_phase g) → Leaves c.args.self.now c.step_by_phase.result (worker_of c.step_by_phase.new.fields c.step_by_phase.new.phase)
leaves g c = steps_leave g.A.Access g.R.App c.args.app.now c.args.access.now c.args.self.now c.step_by_phase.result c.step_by_phase.new.access (worker_of c.step_by_phase.new.fields c.step_by_phase.new.phase) (let done = c.step_by_phase.ensures.done.steps in search (rules, done))

pub returns-clause-worker : goal.returns-clause-worker
returns-clause-worker g c = let left = leaves g c in search (rules, left.worker)

pub returns-clause-halted : goal.returns-clause-halted
returns-clause-halted g c = let left = leaves g c in search (rules, left.halted)

pub returns-clause-memory : goal.returns-clause-memory
returns-clause-memory g c = let left = leaves g c in search (rules, left.memory)
