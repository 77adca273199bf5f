-- Where the first line of some bytes ends.
use Rattle.std.proofs.Common.{◌≡◌, ◌<◌, ◌+◌, ℕ, zero, suc, Bool, List, [], ◌∷◌, if◌then◌else◌, length, get_or, refl, ◌∙◌, ap, arith, eq-eqb, ne_eqb}
use Rattle.mely_net.specs.declared.cut.Cut.TheVariants.{More, Frame}
use Rattle.example_counters.specs.Counting.{line_end, one_longer}

pub line_end-at : (bytes : List ℕ) (i : ℕ) → i < length bytes → get_or bytes i 0 ≡ 10 → ((k : ℕ) → k < i → get_or bytes k 0 ≡ 10 → ⊥) → line_end bytes ≡ Frame (i + 1)
line_end-at [] i low is none = absurd (omega (arith, low))
line_end-at (byte ∷ bytes) zero low is none = ap (λ (b : Bool). if b then Frame 1 else one_longer (line_end bytes)) (eq-eqb byte 10 is)
line_end-at (byte ∷ bytes) (suc i) low is none =
    ap (λ (b : Bool). if b then Frame 1 else one_longer (line_end bytes)) (ne_eqb byte 10 (none 0 (omega arith)))
    ∙ ap one_longer (line_end-at bytes i (omega (arith, low)) is (λ k below there. none (suc k) (omega (arith, below)) there))
    ∙ ap Frame (let more : i + 1 + 1 ≡ suc i + 1 = omega arith in more)

pub line_end-none : (bytes : List ℕ) → ((k : ℕ) → k < length bytes → get_or bytes k 0 ≡ 10 → ⊥) → line_end bytes ≡ More
line_end-none [] none = refl
line_end-none (byte ∷ bytes) none =
    ap (λ (b : Bool). if b then Frame 1 else one_longer (line_end bytes)) (ne_eqb byte 10 (none 0 (omega arith)))
    ∙ ap one_longer (line_end-none bytes (λ k below there. none (suc k) (omega (arith, below)) there))
