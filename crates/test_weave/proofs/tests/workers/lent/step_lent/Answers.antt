use Rattle.std.proofs.Common.{◌≡◌, rules}
use Rattle.mely_worker.specs.declared.access.Access.{Ghosts as AccessWords}
use Rattle.mely_worker.specs.declared.app.App.{Ghosts as AppWords}
use Rattle.mely_worker.specs.declared.made.Made.{Made}
use Rattle.test_weave.specs.declared.tests.workers.lent.Lent.{Lent}
use Rattle.mely_worker.specs.Worker.{WorkerState}
use Rattle.mely_worker.specs.Step.{Steps}
use Rattle.mely_worker.proofs.ViewsLemmas.{steps_under}
use Rattle.test_weave.proofs.tests.workers.lent.step_lent.Goals as goal

-- what contracts see of an access that is lent
abbrev lent_words : {A S P F : Type 0} → AccessWords A S P F → AccessWords (Lent A) S P F
lent_words x = record {
  setup_of = λ a. x.setup_of a.inner.now;
  core_of = λ a. x.core_of a.inner.now;
  frame_of = λ a. x.frame_of a.inner.now;
  owes = λ a c core count trail. x.owes a.inner.now c core count trail;
  keeps = λ a b. b.inner.ghost_name ≡ a.inner.ghost_name;
  registers = λ a c event load answer b. x.registers a.inner.now c event load answer b.inner.now;
  takes = λ a c answer b. x.takes a.inner.now c answer b.inner.now;
  finishes = λ a turn answer b. x.finishes a.inner.now turn answer b.inner.now;
  steals = λ a c answer b. x.steals a.inner.now c answer b.inner.now;
  pushes = λ a core mark answer b. x.pushes a.inner.now core mark answer b.inner.now;
  pops = λ a answer b. x.pops a.inner.now answer b.inner.now;
  retells = λ a core c started worth found b. x.retells a.inner.now core c started worth found b.inner.now;
  picks = λ a core answer b. x.picks a.inner.now core answer b.inner.now;
}

-- a step at a lent access is a step at the access
lent_steps : {A R S P F : Type 0} (x : AccessWords A S P F) (y : AppWords R P S F) (app : R) (b b' : Lent A) (w v : WorkerState S P) (step : Made) → Steps (lent_words x) y app b w step b' v → Steps x y app b.inner.now w step b'.inner.now v
lent_steps x y app b b' w v step line = steps_under (lent_words x) x y (λ s. s.inner.now) app b w step b' v (record {
  registers = λ c event load answer h. h;
  takes = λ c answer h. h;
  finishes = λ turn answer h. h;
  steals = λ c answer h. h;
  pushes = λ core mark answer h. h;
  pops = λ answer h. h;
  retells = λ core c started worth found h. h;
  picks = λ core answer h. h;
}) line

pub returns-clause-steps : goal.returns-clause-steps
returns-clause-steps g c = let under = lent_steps g.A.Access g.R.App c.args.app.now _ c.step.new.access c.args.worker.now c.step.new.self c.step.result c.step.ensures.steps in search (rules, under)
