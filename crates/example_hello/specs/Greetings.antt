-- What the handlers of the app register.
use Rattle.std.specs.Prelude.{◌==◌, ◌-◌, List, [], ◌∷◌, Option, None, nat_lt, if◌then◌else◌}
use Rattle.mely_event.specs.declared.colour.Colour.{Colour}
use Rattle.mely_event.specs.declared.event.Event.{Event}

-- what a handler registers: a colour and an event, and no event of this app carries a load
abbrev pub Put : Type 0
Put = Colour × Event × Option (Unit {0})

-- colour 1 is to hear a greeting, by handler 1
abbrev pub hear : Put
hear = (record { 0 = 1 }, record { handler = 1; arg = 0 }, None)

-- colour 0 is to greet, by handler 0, and so many times more
abbrev pub greet : Event → Put
greet event = (record { 0 = 0 }, event, None)

-- where the argument isn't 0 colour 0 greets once more, with an argument that is less by one
abbrev pub once_more : Event → List Put
once_more event = if nat_lt 0 event.arg then greet (record event { arg = event.arg - 1 }) ∷ []
    else []

-- handler 0 greets, and handler 1 hears it and registers nothing
abbrev pub greetings_of : Event → List Put
greetings_of event = if event.handler == 0 then hear ∷ once_more event else []
