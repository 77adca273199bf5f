-- Where no colour runs any more.
use Rattle.std.proofs.Common.{◌≡◌, ℕ, ◌<◌, List, Some, sym, ◌∙◌, ap, arith}
use Rattle.mely_event.specs.declared.colour.Colour.{Colour}
use Rattle.mely_history.specs.declared.setup.Setup.{Setup}
use Rattle.mely_history.specs.Setup.{shape_of}
use Rattle.mely_history.specs.declared.entry.Entry.{Entry}
use Rattle.mely_history.specs.declared.entry.Entry.TheVariants.{Take}
use Rattle.mely_history.specs.History.{owner_of, IsRunning}
use Rattle.mely_history.specs.Legal.{IsLegal}
use Rattle.mely_history.specs.Owing.{last_change}
use Rattle.mely_history.specs.ColourAccount.{account_of}
use Rattle.mely_history.proofs.LegalAccountLemmas.{IsOnTurn, owner_within, running_on_owner}
use Rattle.mely_history.proofs.OwingLemmas.{taken_by, last_change-others}
use Rattle.mely_fleet.specs.Closing.{IsSeenBy, HasFinishedOf}

-- where each core has finished what it took of a colour, by what it had
-- seen, the colour doesn't run
pub rests_where_finished : (setup : Setup) (history : List Entry) (c : Colour) → IsLegal setup history → ((core : ℕ) → core < (shape_of setup).cores → (front : List Entry) × IsSeenBy history core front × HasFinishedOf core c front) → ¬ IsRunning history c
rests_where_finished setup history c legal each runs =
    let on : IsOnTurn (account_of setup history c) = running_on_owner setup history c legal runs in
    let core = owner_of setup history c in
    let own = each core (owner_within setup history c legal) in
    let front = own.0 in
    let seen : IsSeenBy history core front = own.1 in
    let taken : last_change core c history ≡ Some (Take c core on.count) = taken_by core c setup history legal on.count on.last (λ same. omega (arith, same, runs)) in
    own.2 core on.count (sym (last_change-others core c front seen.later seen.of_others) ∙ ap (last_change core c) (sym seen.goes_on) ∙ taken)
