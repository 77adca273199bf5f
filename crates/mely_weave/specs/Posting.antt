-- What a post does to a side, in the words of its calls: those of a weave, where a mark that
-- is pushed enters, or those of a side of which it isn't known how the marks stand, where the
-- mark may be there already.
use Rattle.std.specs.Prelude.{Bool, Option, Result, Ok, Err}
use Rattle.mely_event.specs.declared.colour.Colour.{Colour}
use Rattle.mely_event.specs.declared.event.Event.{Event}
use Rattle.mely_event.specs.declared.unregistered.Unregistered.{Unregistered}
use Rattle.mely_history.specs.declared.registered.Registered.{Registered}
use Rattle.mely_history.specs.Setup.{shape_of}
use Rattle.mely_worker.specs.declared.access.Access.{Ghosts as AccessWords}
use Rattle.mely_worker.specs.Delivery.{delivery_after, Delivers}
use Rattle.mely_weave.specs.Side.{SideState}
use Rattle.mely_weave.specs.Calls.{AtShard, RegisterAs}

-- a registration by the pass of the number after the cores', and what follows it, which is
-- delivered at once; or the event is handed back
abbrev pub PostAs : {S P F : Type 0} → AccessWords (SideState S P) S P F → Colour → Event
    → Option P → Result Registered (Unregistered P) → SideState S P → SideState S P → Type 0
PostAs {S} {P} x c event load (Ok reply) a b = (between : SideState S P)
    × AtShard a between c (RegisterAs c event load (shape_of a.setup).cores (Ok reply))
    × ((arrived : Bool) × Delivers x between (delivery_after c reply) arrived b)
PostAs x c event load (Err back) a b =
    AtShard a b c (RegisterAs c event load (shape_of a.setup).cores (Err back))
