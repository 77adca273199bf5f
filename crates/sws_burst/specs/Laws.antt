-- Laws of events that give no line.
use Rattle.std.specs.Prelude.{map}
use Rattle.std.proofs.Common.{◌≡◌, List, [], ◌∷◌, refl, ap}
use Rattle.sws_steps.specs.declared.Handler.{Handler}
use Rattle.sws_steps.specs.Logs.{IsLogPrefix}
use Rattle.sws_burst.specs.Bursts.{plain_steps}

-- an empty log begins an empty log
pub empty-begins : IsLogPrefix [] []
empty-begins = ([], refl)

-- the events that give no line are these events
pub plain-handlers : (events : List Handler)
    → map (λ step. step.handler) (plain_steps events) ≡ events
plain-handlers [] = refl
plain-handlers (event ∷ later) = ap (λ rest. event ∷ rest) (plain-handlers later)
