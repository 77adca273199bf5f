-- How the bytes of a connection are cut into frames.
use Rattle.std.specs.Prelude.{◌≡◌, ◌<◌, ◌≤◌, ℕ, List, [], ◌∷◌, ◌++◌, length, nat_le, if◌then◌else◌, ⊤}
use Rattle.mely_net.specs.declared.cut.Cut.{Cut}
use Rattle.mely_net.specs.declared.cut.Cut.TheVariants.{More, Frame, Fault}

-- a frame has a byte at least, and no more than are there
abbrev pub IsWithin : Cut → ℕ → Type 0
IsWithin More count = ⊤
IsWithin (Frame size) count = (0 < size) × (size ≤ count)
IsWithin Fault count = ⊤

-- a cut that was made stands
abbrev pub Stands : Cut → Cut → Type 0
Stands More now = ⊤
Stands (Frame size) now = now ≡ Frame size
Stands Fault now = now ≡ Fault

-- bytes that come behind others don't change how those are cut
abbrev pub IsSteady : (List ℕ → Cut) → Type 0
IsSteady cut = (bytes more : List ℕ) → Stands (cut bytes) (cut (bytes ++ more))

-- a frame that has more bytes than a frame may have is a fault, and so are more bytes without one
abbrev pub limited : ℕ → ℕ → Cut → Cut
limited longest count More = if nat_le count longest then More else Fault
limited longest count (Frame size) = if nat_le size longest then Frame size else Fault
limited longest count Fault = Fault

-- how bytes are cut where a frame has so many at most
abbrev pub cut_within : (List ℕ → Cut) → ℕ → List ℕ → Cut
cut_within cut longest bytes = limited longest (length bytes) (cut bytes)

-- these are the first frames of the bytes, each cut off what the ones before it left, and this is
-- the rest
abbrev pub AreFrames : (List ℕ → Cut) → ℕ → List ℕ → List (List ℕ) → List ℕ → Type 0
AreFrames cut longest bytes [] rest = bytes ≡ rest
AreFrames cut longest bytes (frame ∷ frames) rest =
    (behind : List ℕ) × (bytes ≡ frame ++ behind)
    × (cut_within cut longest bytes ≡ Frame (length frame))
    × AreFrames cut longest behind frames rest
