-- What the shards give, by colour.
use Rattle.std.specs.Prelude.{◌≡◌, ◌<◌, ◌+◌, ◌*◌, ◌↔◌, ℕ, List, Some, length, slice_get}
use Rattle.mely_event.specs.declared.colour.Colour.{Colour}
use Rattle.mely_history.specs.History.{IsRunning}
use Rattle.mely_shard.specs.Shard.{ShardState, IsOwn}

-- each shard gives one thing for each of its colours below a number
abbrev pub AreFull : {X Y : Type 0} → (Y → List X) → ℕ → ℕ → List Y → Type 0
AreFull items shards colours piles = (shard : ℕ) (pile : _) → slice_get piles shard ≡ Some pile
    → (i : ℕ) → (i < length (items pile)) ↔ (i * shards + shard < colours)

-- no colour of the shard runs
abbrev pub IsAtRest : {S P : Type 0} → ShardState S P → Type 0
IsAtRest has = (c : Colour) → IsOwn has c → ¬ IsRunning has.history c
