-- Why no line is taken.
use Rattle.std.specs.Prelude.{ℕ, List, ⊤}
use Rattle.example_chat_room.specs.declared.end.End.{End}
use Rattle.example_chat_room.specs.declared.end.End.TheVariants as ends
use Rattle.example_chat_room.specs.Talks.{IsTooLong}

-- the first line is too long, or there was no memory
abbrev pub IsLineFault : End → List ℕ → Type 0
IsLineFault ends.Left bytes = ⊥
IsLineFault ends.LongLine bytes = IsTooLong bytes
IsLineFault ends.Slow bytes = ⊥
IsLineFault ends.Fault bytes = ⊥
IsLineFault ends.Memory bytes = ⊤
