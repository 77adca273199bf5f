use Rattle.std.specs.Prelude.{Vec}
use Rattle.std.specs.declared.alloc.Global.{Global}
use Rattle.mely_event.specs.declared.event.Event.{Event}
use Rattle.mely_event.specs.declared.logged.Logged.{Logged}
use Rattle.mely_weave.specs.Making.{AreInitialBelow}
use Rattle.test_weave.proofs.tests.weaves.states_of.Given as goal

abbrev pub invariant-loop-colour : goal.invariant-loop-colour
invariant-loop-colour l = AreInitialBelow (λ (s : Logged (Vec Event Global)). s.log.colour) (λ (s : Logged (Vec Event Global)). s.log.events) l.colour l.states.items
