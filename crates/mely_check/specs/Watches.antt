-- Within the crate: what is kept of one colour.
use Rattle.std.specs.Prelude.{◌≡◌, ◌≢◌, ◌<◌, ◌≤◌, ◌+◌, ◌-◌, ◌*◌, ◌^◌, ℕ, [], ◌∷◌, ◌++◌, Option, None, Some, length, take, drop, min, map, sum}
use Rattle.mely_history.specs.Setup.{shape_of, pinned_of}
use Rattle.mely_history.specs.History.{weight}
use Rattle.mely_history.specs.Legal.{MayRegister}
use Rattle.mely_history.specs.ColourAccount.{ColourAccount}
use Rattle.mely_history.specs.declared.setup.Setup.{Setup}
use Rattle.mely_history.specs.declared.entry.Entry.{Entry}
use Rattle.mely_history.specs.declared.entry.Entry.TheVariants.{Reg, Take, Fin, Steal}
use Rattle.mely_check.specs.declared.watch.Watch.{Watch}

-- the colour rests, or runs since this take
abbrev pub RunsAs : ColourAccount → Option (ℕ × ℕ) → Type 0
RunsAs account None = account.begun ≡ account.ended
RunsAs account (Some turn) = (account.last ≡ Some turn) × (account.begun ≡ account.ended + turn.1)
    × (0 < turn.1)

-- what is kept is what the account says
pub record Tells (setup : Setup) (account : ColourAccount) (watch : Watch) : Type 0 where
  pub owner : watch.owner ≡ account.owner
  pub runs : RunsAs account watch.running
  pub some : (core count : ℕ) → account.last ≡ Some (core, count) → 0 < count
  pub queued : watch.queued.items ≡ map (weight setup) (drop account.begun account.registered)
  pub worth : watch.worth ≡ sum watch.queued.items
  pub begun : account.begun ≤ length account.registered
  pub light : watch.worth ≤ 4294967295 * length account.registered

-- by what is kept the entry may follow
abbrev pub Allows : Setup → Watch → Entry → Type 0
Allows setup watch (Reg c event by) = MayRegister setup c event
Allows setup watch (Take c core count) = (core ≡ watch.owner) × (watch.running ≡ None)
    × (0 < length watch.queued.items)
    × (count ≡ min (shape_of setup).batch (length watch.queued.items))
Allows setup watch (Fin c core count) = watch.running ≡ Some (core, count)
Allows setup watch (Steal c from to) = (pinned_of setup ≤ c.0) × (from ≡ watch.owner) × (to ≢ from)
    × (to < (shape_of setup).cores) × (watch.running ≡ None) × (0 < length watch.queued.items)
    × ((shape_of setup).steal_cost < watch.worth)

-- a sum that stands still at the end of its type
abbrev pub kept_sum : ℕ → ℕ → ℕ
kept_sum a b = min (a + b) (2 ^ 64 - 1)

-- what is kept behind one more entry of the colour
abbrev pub Follows : Setup → Watch → Entry → Watch → Type 0
Follows setup before (Reg c event by) after = (after.owner ≡ before.owner)
    × (after.running ≡ before.running)
    × (after.queued.items ≡ before.queued.items ++ weight setup event ∷ [])
    × (after.worth ≡ kept_sum before.worth (weight setup event)) × (weight setup event ≤ 4294967295)
Follows setup before (Take c core count) after = (after.owner ≡ before.owner)
    × (after.running ≡ Some (core, count)) × (after.queued.items ≡ drop count before.queued.items)
    × (after.worth ≡ before.worth - sum (take count before.queued.items))
Follows setup before (Fin c core count) after = (after.owner ≡ before.owner)
    × (after.running ≡ None) × (after.queued.items ≡ before.queued.items)
    × (after.worth ≡ before.worth)
Follows setup before (Steal c from to) after = (after.owner ≡ to) × (after.running ≡ before.running)
    × (after.queued.items ≡ before.queued.items) × (after.worth ≡ before.worth)
