-- A bar of a legal history is a whole turn.
use Rattle.std.specs.Prelude.{◌≡◌, ℕ, ◌+◌, ◌<◌, List, length, drop, slice_get, Some}
use Rattle.mely_event.specs.declared.colour.Colour.{Colour}
use Rattle.mely_history.specs.declared.entry.Entry.{Entry}
use Rattle.mely_history.specs.declared.entry.Entry.TheVariants.{Take, Fin}
use Rattle.mely_picture.specs.Marks.{before_finish}

-- where the bar of a take at this place ends
abbrev pub end_of : List Entry → ℕ → Colour → ℕ
end_of history at c = at + 1 + before_finish c (drop (at + 1) history)

-- at the end of its bar the core finishes what it took, unless the history ends before that
abbrev pub EndsWithTurn : List Entry → ℕ → Colour → ℕ → ℕ → Type 0
EndsWithTurn history at c core count =
    slice_get history at ≡ Some (Take c core count) → end_of history at c < length history
    → slice_get history (end_of history at c) ≡ Some (Fin c core count)
