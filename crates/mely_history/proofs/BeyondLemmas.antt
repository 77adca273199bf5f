-- Colours that a setup doesn't have: nothing of them is registered or runs.
use Rattle.std.proofs.Common.{◌≡◌, ◌≤◌, List, [], ◌∷◌, ◌++◌, Some, None, length, refl, ap, ◌∙◌, arith}
use Rattle.std.proofs.lemmas.Bool.{ne_eqb}
use Rattle.std.proofs.lemmas.List.{append-nil}
use Rattle.std.proofs.lemmas.List.Elements.{filter_map-append}
use Rattle.std.specs.Prelude.{cond}
use Rattle.std.specs.List.{cons_option}
use Rattle.mely_event.specs.declared.colour.Colour.{Colour}
use Rattle.mely_history.specs.declared.setup.Setup.{Setup}
use Rattle.mely_history.specs.declared.entry.Entry.{Entry}
use Rattle.mely_history.specs.declared.entry.Entry.TheVariants.{Reg, Take, Fin, Steal}
use Rattle.mely_history.specs.Setup.{colours_of}
use Rattle.mely_history.specs.Entries.{registration_on}
use Rattle.mely_history.specs.History.{registered_of, IsRunning}
use Rattle.mely_history.specs.Legal.{IsAllowed, IsLegal}
use Rattle.mely_history.proofs.LegalLemmas.{over_legal}
use Rattle.mely_history.proofs.LegalAccountLemmas.{begun_within}

-- an entry that may follow registers nothing on such a colour
registers_none : (setup : Setup) (history : List Entry) (c : Colour) → colours_of setup ≤ c.0 → (entry : Entry) → IsAllowed setup history entry → registration_on c entry ≡ None
registers_none setup history c high (Reg colour event by) may =
    let low = may.colour in
    ap (λ b. cond b (Some event) None) (ne_eqb colour.0 c.0 (λ e. omega (arith, e, low, high)))
registers_none setup history c high (Take colour core count) may = refl
registers_none setup history c high (Fin colour core count) may = refl
registers_none setup history c high (Steal colour from to) may = refl

-- no legal history registers on a colour that isn't one of the setup
pub none_registered : (setup : Setup) (history : List Entry) → IsLegal setup history → (c : Colour) → colours_of setup ≤ c.0 → registered_of history c ≡ []
none_registered setup = over_legal setup (λ history. (c : Colour) → colours_of setup ≤ c.0 → registered_of history c ≡ [])
    (λ c high. refl)
    (λ history entry legal may old c high.
    filter_map-append (registration_on c) history (entry ∷ [])
    ∙ ap (λ o. registered_of history c ++ cons_option o []) (registers_none setup history c high entry may)
    ∙ append-nil (registered_of history c)
    ∙ old c high)

-- nor does such a colour run in it
pub never_runs : (setup : Setup) (history : List Entry) (c : Colour) → IsLegal setup history → colours_of setup ≤ c.0 → ¬ IsRunning history c
never_runs setup history c legal high runs =
    omega (arith, runs, begun_within setup history c legal, ap length (none_registered setup history legal c high))
