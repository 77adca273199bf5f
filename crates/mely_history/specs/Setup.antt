-- What contracts read off a setup.
use Rattle.std.specs.Prelude.{◌/◌, ◌%◌, ℕ, Bool, true, ◌&&◌, Option, None, Some, nat_le, if◌then◌else◌}
use Rattle.mely_event.specs.declared.colour.Colour.{Colour}
use Rattle.mely_event.specs.declared.handlers.Handlers.{Handlers}
use Rattle.mely_history.specs.declared.shape.Shape.{Shape}
use Rattle.mely_history.specs.declared.setup.Setup.{Setup}
use Rattle.mely_history.specs.declared.setup_fault.SetupFault.{SetupFault}
use Rattle.mely_history.specs.declared.setup_fault.SetupFault.TheVariants.{OutOfRange}
use Rattle.mely_history.specs.Ranges.{core_limit, shard_limit, colour_limit, batch_limit, group_limit}

-- the numbers of a setup, and its table
abbrev pub shape_of : Setup → Shape
shape_of s = s.shape

-- how many colours there are
abbrev pub colours_of : Setup → ℕ
colours_of s = s.colours

-- the table of the handlers
abbrev pub handlers_of : Setup → Handlers
handlers_of s = s.handlers

-- how many colours, from colour 0 on, are never stolen
abbrev pub pinned_of : Setup → ℕ
pinned_of s = s.pinned

-- whether the histories are kept as lists that can be read
abbrev pub is_listed : Setup → Bool
is_listed s = s.listed

-- the same setup, with histories that are listed
abbrev pub with_lists : Setup → Setup
with_lists s = record s { listed = true }

-- the shard of a colour
abbrev pub shard_of : Setup → Colour → ℕ
shard_of setup c = c.0 % (shape_of setup).shards

-- the place of a colour among the colours of its shard, in ascending order
abbrev pub place : Setup → Colour → ℕ
place setup c = c.0 / (shape_of setup).shards

-- the number is in the range
abbrev pub is_between : ℕ → ℕ → ℕ → Bool
is_between low n high = nat_le low n && nat_le n high

-- the first number that is out of range, in the order of the fields, with the colours third
-- and the pinned colours last
abbrev pub first_out_of_range : Shape → ℕ → ℕ → Option SetupFault
first_out_of_range shape colours pinned =
    if is_between 1 shape.cores core_limit then
    if is_between 1 shape.shards shard_limit then
    if is_between 1 colours colour_limit then
    if is_between 1 shape.batch batch_limit then
    if is_between 1 shape.group group_limit then
    if nat_le pinned colours then None
    else Some (OutOfRange 6) else Some (OutOfRange 5) else Some (OutOfRange 4) else Some
    (OutOfRange 3) else Some (OutOfRange 2) else Some (OutOfRange 1)
