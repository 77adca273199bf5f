-- What the counters do.
use Rattle.std.specs.Prelude.{◌≡◌, ◌==◌, ◌+◌, ◌-◌, ◌%◌, ◌^◌, ℕ, List, [], ◌∷◌, ◌++◌, Bool, true, false, codes, if◌then◌else◌, min, refl, unwrap_or, ⊤}
use Rattle.std.specs.BTreeMap.{insert_entry, is_at}
use Rattle.std.specs.Fmt.{decimal}
use Rattle.std.specs.Map.{lookup}
use Rattle.std.specs.Ordering.{nat_cmp}
use Rattle.std.proofs.Common.{ap}
use Rattle.mely_net.specs.declared.asked.Asked.{Asked}
use Rattle.mely_net.specs.declared.asked.Asked.TheVariants.{At, Each, Here, Last}
use Rattle.mely_net.specs.declared.cut.Cut.{Cut}
use Rattle.mely_net.specs.declared.cut.Cut.TheVariants.{More, Frame, Fault}
use Rattle.mely_net.specs.Cutting.{IsSteady, Stands}
use Rattle.example_counters.specs.declared.counters.Request.{Request}
use Rattle.example_counters.specs.declared.counters.Request.TheVariants.{Add, Get}
use Rattle.example_counters.specs.declared.counters.Reply.{Reply}
use Rattle.example_counters.specs.declared.counters.Reply.TheVariants.{Number, Unknown, Bye}
use Rattle.example_counters.specs.declared.counters.TheConstants.{CELLS}

-- a cut behind a further byte
abbrev pub one_longer : Cut → Cut
one_longer More = More
one_longer (Frame size) = Frame (size + 1)
one_longer Fault = Fault

-- a frame is a line with its line feed
abbrev pub line_end : List ℕ → Cut
line_end [] = More
line_end (byte ∷ bytes) = if byte == 10 then Frame 1 else one_longer (line_end bytes)

longer-stands : (cut now : Cut) → Stands cut now → Stands (one_longer cut) (one_longer now)
longer-stands More now stands = tt
longer-stands (Frame size) now stands = ap one_longer stands
longer-stands Fault now stands = ap one_longer stands

-- what comes behind doesn't change where the first line ends
pub line_end-steady : IsSteady line_end
line_end-steady [] more = tt
line_end-steady (byte ∷ bytes) more = for (byte == 10) (line_end-steady bytes more) where
  for : (is : Bool) → Stands (line_end bytes) (line_end (bytes ++ more))
      → Stands (if is then Frame 1 else one_longer (line_end bytes))
      (if is then Frame 1 else one_longer (line_end (bytes ++ more)))
  for true stands = refl
  for false stands = longer-stands (line_end bytes) (line_end (bytes ++ more)) stands

-- which counter a request is of
abbrev pub key_of : Request → ℕ
key_of (Add key number) = key
key_of (Get key) = key

-- a counter is in the cell of its remainder, and a line asks one cell at most; what a line says is
-- not part of this, and tested
abbrev pub IsPlaced : Asked Request Reply → Type 0
IsPlaced (At cell request) = cell ≡ key_of request % CELLS
IsPlaced (Each asks reply) = ⊥
IsPlaced (Here reply) = ⊤
IsPlaced (Last reply) = ⊤

-- a line that is too long asks nothing
abbrev pub IsRefused : Reply → Type 0
IsRefused reply = reply ≡ Unknown

-- what a counter is
abbrev pub value_at : List (ℕ × ℕ) → ℕ → ℕ
value_at entries key = unwrap_or (lookup (is_at (nat_cmp key)) entries) 0

-- a request of counters: what is added to one stays at the greatest number of 64 bits
abbrev pub IsCounted : List (ℕ × ℕ) → Request → List (ℕ × ℕ) → Reply → Type 0
IsCounted before (Add key number) after reply =
    let sum = min (value_at before key + number) (2 ^ 64 - 1) in
    (after ≡ insert_entry nat_cmp before key sum) × (reply ≡ Number sum)
IsCounted before (Get key) after reply = (after ≡ before) × (reply ≡ Number (value_at before key))

-- the line of a reply
abbrev pub shown_reply : Reply → List ℕ
shown_reply (Number number) = decimal number ++ 10 ∷ []
shown_reply Unknown = codes "?" ++ 10 ∷ []
shown_reply Bye = codes "bye" ++ 10 ∷ []
