-- The kinds of step, each by what its seat knows before and after it, and what two
-- of them come to in a row.
use Rattle.std.specs.Prelude.{◌≡◌, ◌≢◌, ◌<◌, ◌≤◌, ℕ, false, List, [], ◌∷◌, ◌++◌, Option, Some, None}
use Rattle.std.specs.List.{AllByRecursion}
use Rattle.atomic_table.specs.Table.{Me}
use Rattle.mely_lock.specs.declared.claim.Claim.{Claim}
use Rattle.mely_lock.specs.declared.seat_knowledge.SeatKnowledge.{SeatKnowledge}
use Rattle.mely_lock.specs.Seen.{notes_of, OthersSince}
use Rattle.mely_lock.specs.Views.{view, outside, within, shares_of}

module _ {N F : Type 0} where
  -- the claim, once its pass has seen so much
  abbrev pub claim_with_front : Claim N F → List N → Claim N F
  claim_with_front c history = record c { front = history }

  -- dealing out a pass: the seat keeps its claims but the first
  abbrev pub kept_of : SeatKnowledge N F → SeatKnowledge N F
  kept_of v = view (others v.claims) v.inside where
    others : List (Claim N F) → List (Claim N F)
    others [] = []
    others (c ∷ cs) = cs

  -- and a new seat, outside, has the first of them alone; none where there was none
  abbrev pub dealt_of : SeatKnowledge N F → SeatKnowledge N F
  dealt_of v = view (first v.claims) false where
    first : List (Claim N F) → List (Claim N F)
    first [] = []
    first (c ∷ cs) = c ∷ []

  -- taking in another seat: the claims of both
  abbrev pub join_knowledge : SeatKnowledge N F → SeatKnowledge N F → SeatKnowledge N F
  join_knowledge v w = view (v.claims ++ w.claims) v.inside

-- a seat: what it knows, and the slots in its hand
abbrev pub Seat : Type 0 → Type 0 → Type 0 → Type 0
Seat W N F = Me (Option W) (SeatKnowledge N F)

module _ {W N F : Type 0} where
  -- a pass outside, with nothing in its hand
  abbrev pub seat_outside : Claim N F → Seat W N F
  seat_outside c = (outside c, [])

  -- a pass inside, with the slot in its hand
  abbrev pub seat_inside : Claim N F → Option W → Seat W N F
  seat_inside c slot = (within c, (0, slot) ∷ [])

  -- after a note: the pass has seen the history of the value in its hand
  abbrev pub Noted : (W → List N) → Seat W N F → Seat W N F → Type 0
  Noted history_of m m' = (c : Claim N F) (x : W) → m ≡ seat_inside c (Some x)
      → m' ≡ seat_inside (claim_with_front c (history_of x)) (Some x)

  -- after leaving: the pass is outside
  abbrev pub Left : Seat W N F → Seat W N F → Type 0
  Left m m' = (c : Claim N F) (x : W) → m ≡ seat_inside c (Some x) → m' ≡ seat_outside c

  -- the value x was put back, a note made if it had grown, and the pass left
  abbrev pub Leaves : (W → List N) → Seat W N F → W → Seat W N F → Type 0
  Leaves history_of m x m' = (c : Claim N F) → m ≡ seat_inside c None
      → m' ≡ seat_outside (claim_with_front c (history_of x))

module _ {W N F : Type 0} (history_of : W → List N) (pass_of : N → ℕ) (frame_of : W → F) where
  -- the value is one that the pass may find: its history goes on from what the pass had seen, and
  -- its frame is the old one
  abbrev pub Meets : Claim N F → W → Type 0
  Meets c x = OthersSince pass_of c.number c.front (history_of x) × (frame_of x ≡ c.frame)

  -- after a try that found this number in the word that says who is inside: refused, unless that
  -- was 0; else inside, with the slot and all seen
  abbrev pub Tried : Seat W N F → ℕ → Seat W N F → Type 0
  Tried m found m' = (found ≢ 0 → m' ≡ m)
      × (found ≡ 0 → (c : Claim N F) → m ≡ seat_outside c → (x : W)
      × (m' ≡ seat_inside (claim_with_front c (history_of x)) (Some x)) × Meets c x)

  -- the pass came in, and took the value x out of the slot
  abbrev pub Enters : Seat W N F → W → Seat W N F → Type 0
  Enters m x m' = (c : Claim N F) → m ≡ seat_outside c
      → (m' ≡ seat_inside (claim_with_front c (history_of x)) None) × Meets c x

  -- the lock was closed with a seat of these claims, which are those of all passes: the
  -- value x goes on from each
  pub record Closes (frame : F) (passes : ℕ) (claims : List (Claim N F)) (x : W) : Type 0 where
    pub framed : frame_of x ≡ frame
    pub fronts : AllByRecursion (λ c. OthersSince pass_of c.number c.front (history_of x)) claims
    pub each : (n : ℕ) → n < passes → 0 < shares_of n claims
    pub strangers : (n : ℕ) → passes ≤ n → notes_of pass_of n (history_of x) ≡ []
