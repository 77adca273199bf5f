-- A source and a sink as one link, which began with what each of them told then.
use Rattle.std.specs.Prelude.{false, ◌≡◌, ℕ, ◌+◌, ◌-◌, ◌||◌, List, [], ◌++◌, length, take, drop, Option, Some, None, option_map, option_and_then}
use Rattle.sws_link.specs.Counts.{Count, Rose, IsLater}
use Rattle.sws_link.specs.Contents.{Puts}
use Rattle.sws_link.specs.Links.{LinkContents, Way, reading, writing}
use Rattle.sws_link.specs.declared.Put.TheVariants.{Done, Failed, Memory}
use Rattle.sws_link.specs.declared.LinkWrite.{LinkWrite}
use Rattle.sws_link.specs.declared.LinkWrite.TheVariants as write
use Rattle.sws_top.specs.declared.faults.TopFault.{TopFault}
use Rattle.sws_top.specs.declared.faults.TopFault.TheVariants.{ReadFault, WriteFault}

-- what was taken of the whole, of which this is left
abbrev pub taken_before : List ℕ → Option (List ℕ) → List ℕ
taken_before left None = []
taken_before left (Some whole) = take (length whole - length left) whole

-- what was written behind the first bytes
abbrev pub written_behind : List ℕ → Option (List ℕ) → List ℕ
written_behind first None = []
written_behind first (Some bytes) = drop (length first) bytes

-- the whole is what was taken and what is left; what was written is the first
-- bytes and those behind them
abbrev pub IsLeftOf : Option (List ℕ) → Option (List ℕ) → Type 0
IsLeftOf whole left = whole ≡ option_map (λ rest. taken_before rest whole ++ rest) left

-- what a sink tells begins with what it told at first; or it tells nothing, then and now
abbrev pub IsWrittenBehind : Option (List ℕ) → Option (List ℕ) → Type 0
IsWrittenBehind first bytes =
    bytes ≡ option_map (λ front. front ++ written_behind front bytes) first

-- what the link tells, where both its source and its sink do
abbrev pub duplex_tells : (whole left first bytes : Option (List ℕ)) → Option LinkContents
duplex_tells whole left first bytes = option_and_then (λ rest. option_map (λ front. record {
  taken = taken_before rest whole;
  left = rest;
  written = written_behind front bytes;
  to_come = None;
  says_all = false;
}) first) left

-- the faults of both
abbrev pub both_counts : Count → Count → Count
both_counts a b = record { number = a.number + b.number; full = a.full || b.full }

-- a count is later, and rose
pub record HasRisen (before now : Count) : Type 0 where
  pub later : IsLater before now
  pub rose : Rose before now

-- The counts of a source and of a sink, and the fault that is kept, where a link over them failed
-- last in this way: where it didn't fail, both counts stand; else the count of the one that failed
-- rose, alone, and the fault says which of the two that is.
abbrev pub GoesOn : Option Way → Count → Count → Count → Count → Option TopFault → Type 0
GoesOn None source source_now sink sink_now kept = (source_now ≡ source) × (sink_now ≡ sink)
GoesOn (Some reading) source source_now sink sink_now kept = (kept ≡ Some ReadFault)
    × HasRisen source source_now × (sink_now ≡ sink)
GoesOn (Some writing) source source_now sink sink_now kept = (kept ≡ Some WriteFault)
    × (source_now ≡ source) × HasRisen sink sink_now

-- one `write_all` of the whole piece: where that is done, all of the piece was written
abbrev pub WritesAll : Option (List ℕ) → Option (List ℕ) → LinkWrite → List ℕ → Type 0
WritesAll before now (write.Wrote count) piece = (count ≡ length piece) × Puts before now Done piece
WritesAll before now write.NotReady piece = ⊥
WritesAll before now write.Failed piece = Puts before now Failed piece
WritesAll before now write.Memory piece = Puts before now Memory piece
