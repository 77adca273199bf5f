-- Within the crate: what the judge keeps of one colour. Callers see `Judges`.
use Rattle.std.specs.Prelude.{◌≡◌, ◌≢◌, ◌<◌, ◌≤◌, ◌+◌, ◌-◌, ◌*◌, ℕ, List, Some, length, take, drop, min, sum_by}
use Rattle.mely_event.specs.declared.colour.Colour.{Colour}
use Rattle.mely_history.specs.Setup.{shape_of, pinned_of}
use Rattle.mely_history.specs.History.{registered_of, begun_of, ended_of, owner_of, last_take, weight}
use Rattle.mely_history.specs.Legal.{MayRegister}
use Rattle.mely_history.specs.declared.setup.Setup.{Setup}
use Rattle.mely_history.specs.declared.entry.Entry.{Entry}
use Rattle.mely_history.specs.declared.entry.Entry.TheVariants.{Reg, Take, Fin, Steal}
use Rattle.mely_history.specs.declared.colour_counts.ColourCounts.{ColourCounts}

-- The numbers that a judge keeps of one colour.

-- the numbers are those of the colour after the entries; the events behind the front's
-- place are those that wait
pub record Tells (setup : Setup) (entries : List Entry) (c : Colour)
    (counts : ColourCounts) : Type 0 where
  pub owner : counts.owner ≡ owner_of setup entries c
  pub last : counts.last ≡ last_take entries c
  pub registered : counts.registered ≡ length (registered_of entries c)
  pub begun : counts.begun ≡ begun_of entries c
  pub ended : counts.ended ≡ ended_of entries c
  pub worth : counts.worth
      ≡ sum_by (weight setup) (drop (begun_of entries c) (registered_of entries c))
  pub front : length (registered_of (take counts.front entries) c) ≡ counts.begun
  pub front_within : counts.front ≤ length entries
  pub begun_within : counts.begun ≤ counts.registered
  pub ended_within : counts.ended ≤ counts.begun
  pub registered_within : counts.registered ≤ length entries
  pub worth_within : counts.worth ≤ 4294967295 * counts.registered

-- by these numbers the entry may follow
abbrev pub Allows : Setup → ColourCounts → Entry → Type 0
Allows setup counts (Reg c event by) = MayRegister setup c event
Allows setup counts (Take c core count) = (core ≡ counts.owner) × (counts.begun ≡ counts.ended)
    × (counts.begun < counts.registered)
    × (count ≡ min (shape_of setup).batch (counts.registered - counts.begun))
Allows setup counts (Fin c core count) = (counts.last ≡ Some (core, count))
    × (counts.begun ≡ counts.ended + count)
Allows setup counts (Steal c from to) = (from ≡ counts.owner) × (to ≢ from)
    × (to < (shape_of setup).cores) × (counts.begun ≡ counts.ended)
    × (counts.begun < counts.registered)
    × ((shape_of setup).steal_cost < counts.worth) × (pinned_of setup ≤ c.0)

-- the walk passed over this many registrations of the colour, of this weight
pub record PassesOver (setup : Setup) (entries : List Entry) (c : Colour)
    (from count place weight_sum : ℕ) : Type 0 where
  pub within : place ≤ length entries
  pub passed : length (registered_of (take place entries) c)
      ≡ length (registered_of (take from entries) c) + count
  pub weighed : weight_sum
      ≡ sum_by (weight setup)
      (take count (drop (length (registered_of (take from entries) c)) (registered_of entries c)))
