-- What is done next for a request that asks several cells.
use Rattle.std.specs.Prelude.{◌≡◌, ℕ, List, [], ◌∷◌}
use Rattle.mely_net.specs.declared.several.Next.{Next}
use Rattle.mely_net.specs.declared.several.Next.TheVariants.{Asks, Whole}

-- where these are left to be asked and these parts are there, the first one is asked, and the others
-- are left behind it; where none is left, this is the reply with all its parts
abbrev pub IsNext : {Q P : Type 0} → List (ℕ × Q) → List P → P → Next Q P → Type 0
IsNext left parts reply (Asks cell request several) = (left ≡ (cell, request) ∷ several.left)
    × (several.parts ≡ parts) × (several.reply ≡ reply)
IsNext left parts reply (Whole own all) =
    (left ≡ []) × (own ≡ reply) × (all.items ≡ parts)
