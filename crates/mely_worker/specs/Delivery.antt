-- What follows a registration.
use Rattle.std.specs.Prelude.{◌≡◌, Bool, true, Result, is_ok}
use Rattle.mely_event.specs.declared.colour.Colour.{Colour}
use Rattle.mely_event.specs.declared.there.There.{There}
use Rattle.mely_history.specs.declared.setup.Setup.{Setup}
use Rattle.mely_history.specs.declared.registered.Registered.{Registered}
use Rattle.mely_history.specs.declared.registered.Registered.TheVariants.{Woke, Told, Running}
use Rattle.mely_worker.specs.declared.delivery.Delivery.{Delivery}
use Rattle.mely_worker.specs.declared.delivery.Delivery.TheVariants.{Nothing, PushMark, Report}
use Rattle.mely_worker.specs.declared.access.Access.{Ghosts as AccessWords}
use Rattle.mely_worker.specs.Access.{IsColour, IsCore}

-- what is to be delivered after a registration: a mark to the owner of a colour that it woke, a
-- report to the owner of one that waited
abbrev pub delivery_after : Colour → Registered → Delivery
delivery_after colour (Woke owner started worth) =
    PushMark owner (record { colour = colour; started = started; worth = worth })
delivery_after colour (Told owner started worth) = Report owner colour started worth
delivery_after colour (Running core) = Nothing

-- a mark or a report is for a core of the setup, and of a colour of it
abbrev pub MayDeliver : Setup → Delivery → Type 0
MayDeliver setup Nothing = Unit {0}
MayDeliver setup (PushMark core mark) = IsCore setup core × IsColour setup mark.colour
MayDeliver setup (Report core colour started worth) = IsCore setup core × IsColour setup colour

-- the delivery on an access, and whether it arrived: a push of the mark, which may be there
-- already, or a telling of the report, which may be late; no call where nothing is to be delivered
abbrev pub Delivers : {A S P F : Type 0} → AccessWords A S P F → A → Delivery → Bool → A → Type 0
Delivers x before Nothing arrived after = (after ≡ before) × (arrived ≡ true)
Delivers x before (PushMark core mark) arrived after = (answer : Result (Unit {0}) There)
    × x.pushes before core mark answer after × (arrived ≡ is_ok answer)
Delivers x before (Report core colour started worth) arrived after =
    x.retells before core colour started worth arrived after
