-- What the handlers of the sample register.
use Rattle.std.specs.Prelude.{◌==◌, ◌&&◌, List, [], ◌∷◌, nat_lt, if◌then◌else◌}
use Rattle.mely_event.specs.declared.colour.Colour.{Colour}
use Rattle.mely_event.specs.declared.event.Event.{Event}
use Rattle.mely_machine.specs.Machine.{Acts}

-- handler 1 registers handler 0 with argument 0 on the colour of its argument, 0 or 1;
-- nothing else registers anything
abbrev pub registrations_of : Event → List (Colour × Event)
registrations_of event = if (event.handler == 1) && nat_lt event.arg 2 then
    (record { 0 = event.arg }, record { handler = 0; arg = 0 }) ∷ [] else []

-- the app as a function: it keeps nothing
abbrev pub sends : Acts (Unit {0})
sends app c event = record { puts = registrations_of event; becomes = app }
