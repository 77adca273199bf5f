-- What a connection does next for a request that asks several cells.
use Rattle.std.specs.Prelude.{◌≡◌, ◌<◌, ◌⊎◌, ℕ, List, [], ◌∷◌, ◌++◌, Option, None, Some}
use Rattle.mely_net.specs.declared.end.End.TheVariants as ends
use Rattle.mely_net.specs.declared.several.Next.{Next}
use Rattle.mely_net.specs.declared.several.Next.TheVariants.{Asks, Whole}
use Rattle.mely_net.specs.Clients.{Says, after_leaving}
use Rattle.mely_net.specs.Nexts.{IsNext}
use Rattle.mely_net.specs.Rules.{Rules}
use Rattle.mely_net.specs.Several.{SeveralState}
use Rattle.mely_net.specs.Talks.{ClientView}

-- a cell that there is is asked; or the reply is put on its way with its parts
abbrev pub TurnsTo : {Q P C : Type 0} → Rules Q P C → Next Q P → List (ℕ × Q) → ClientView Q P
    → ClientView Q P → Type 0
TurnsTo rules (Asks cell request several) new before after = cell < rules.cells
    → (after ≡ record before { asked = Some cell; several = Some several })
    × (new ≡ (cell, request) ∷ [])
TurnsTo rules (Whole reply parts) new before after =
    Says (rules.shown reply parts.items) before after × (new ≡ [])

-- what is done first for a request of these cells; or there was no memory for it
abbrev pub Begins : {Q P C : Type 0} → Rules Q P C → List (ℕ × Q) → P → List (ℕ × Q)
    → ClientView Q P → ClientView Q P → Type 0
Begins {Q} {P} rules asks reply new before after =
    ((next : Next Q P) × IsNext asks [] reply next × TurnsTo rules next new before after)
    ⊎ ((new ≡ []) × (after ≡ after_leaving ends.Memory before))

-- The reply of the cell that was asked is put on its way; or it is a further part of that to a
-- request of several cells.
abbrev pub AnswersBy : {Q P C : Type 0} → Rules Q P C → Option (SeveralState Q P) → P → List (ℕ × Q)
    → ClientView Q P → ClientView Q P → Type 0
AnswersBy rules None reply new before after =
    Says (rules.shown reply []) before after × (new ≡ [])
AnswersBy {Q} {P} rules (Some several) reply new before after = (next : Next Q P)
    × IsNext several.left (several.parts ++ reply ∷ []) several.reply next
    × TurnsTo rules next new (record before { several = None }) after

abbrev pub Answers : {Q P C : Type 0} → Rules Q P C → P → List (ℕ × Q) → ClientView Q P
    → ClientView Q P → Type 0
Answers rules reply new before after = AnswersBy rules before.several reply new before after
