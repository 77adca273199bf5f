-- What one entry says, alone.
use Rattle.std.specs.Prelude.{◌==◌, ◌&&◌, ℕ, List, Option, None, Some, filter, if◌then◌else◌}
use Rattle.mely_event.specs.declared.colour.Colour.{Colour}
use Rattle.mely_event.specs.declared.event.Event.{Event}
use Rattle.mely_history.specs.declared.entry.Entry.{Entry}
use Rattle.mely_history.specs.declared.entry.Entry.TheVariants.{Reg, Take, Fin, Steal}

-- the colour of an entry
abbrev pub colour_of : Entry → Colour
colour_of (Reg colour event by) = colour
colour_of (Take colour core count) = colour
colour_of (Fin colour core count) = colour
colour_of (Steal colour from to) = colour

-- the number of the pass that made an entry: who registered, the core that
-- took or finished, the thief
abbrev pub pass_of : Entry → ℕ
pass_of (Reg colour event by) = by
pass_of (Take colour core count) = core
pass_of (Fin colour core count) = core
pass_of (Steal colour from to) = to

-- the entries of a pass
abbrev pub entries_by : ℕ → List Entry → List Entry
entries_by pass history = filter (λ entry. pass_of entry == pass) history

-- the event that an entry registers on a colour
abbrev pub registration_on : Colour → Entry → Option Event
registration_on c (Reg colour event by) = if colour.0 == c.0 then Some event else None
registration_on c (Take colour core count) = None
registration_on c (Fin colour core count) = None
registration_on c (Steal colour from to) = None

-- the core that takes a colour, and how many events it takes
abbrev pub take_on : Colour → Entry → Option (ℕ × ℕ)
take_on c (Reg colour event by) = None
take_on c (Take colour core count) = if colour.0 == c.0 then Some (core, count) else None
take_on c (Fin colour core count) = None
take_on c (Steal colour from to) = None

-- how many events of a colour an entry takes
abbrev pub taken_on : Colour → Entry → ℕ
taken_on c (Reg colour event by) = 0
taken_on c (Take colour core count) = if colour.0 == c.0 then count else 0
taken_on c (Fin colour core count) = 0
taken_on c (Steal colour from to) = 0

-- how many events of a colour an entry finishes
abbrev pub finished_on : Colour → Entry → ℕ
finished_on c (Reg colour event by) = 0
finished_on c (Take colour core count) = 0
finished_on c (Fin colour core count) = if colour.0 == c.0 then count else 0
finished_on c (Steal colour from to) = 0

-- the core that steals a colour
abbrev pub thief_on : Colour → Entry → Option ℕ
thief_on c (Reg colour event by) = None
thief_on c (Take colour core count) = None
thief_on c (Fin colour core count) = None
thief_on c (Steal colour from to) = if colour.0 == c.0 then Some to else None

-- the take, finish or steal of a colour by a pass
abbrev pub change_on : ℕ → Colour → Entry → Option Entry
change_on pass c (Reg colour event by) = None
change_on pass c (Take colour core count) =
    if (core == pass) && (colour.0 == c.0) then Some (Take c core count) else None
change_on pass c (Fin colour core count) =
    if (core == pass) && (colour.0 == c.0) then Some (Fin c core count) else None
change_on pass c (Steal colour from to) =
    if (to == pass) && (colour.0 == c.0) then Some (Steal c from to) else None
