use Rattle.std.proofs.Common.{◌≡◌}
use Rattle.mely_lock.specs.Words.{IsPassOf, IsOutside}
use Rattle.test_runtime.proofs.tests.locks.write_many.Given as goal

abbrev pub invariant-loop-turn : goal.invariant-loop-turn
invariant-loop-turn g l = IsPassOf (λ d. d.ink) l.lock l.pass × IsOutside l.pass × (l.pass.number ≡ l.fn.pass.number)
