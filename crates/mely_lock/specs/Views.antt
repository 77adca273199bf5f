-- What the seats of a lock know. A seat is what a thread makes its steps
-- with, and each pass has one.
use Rattle.std.specs.Prelude.{◌≡◌, ◌==◌, ℕ, zero, suc, ◌+◌, Bool, true, false, List, [], ◌∷◌, length, sum_by, count_by, Option, Some, None}
use mathlib.Core.Option.{some}
use lib.ListN.{get_elem?}
use Rattle.mely_lock.specs.declared.claim.Claim.{Claim}
use Rattle.mely_lock.specs.declared.seat_knowledge.SeatKnowledge.{SeatKnowledge}

module _ {N F : Type 0} where
  -- the claim of the pass of this number: the notes of the history that it has seen,
  -- and the frame of the value
  abbrev pub claim : ℕ → List N → F → Claim N F
  claim n front frame = record { number = n; front = front; frame = frame }

  -- what a seat knows: its claims, and whether it is inside
  abbrev pub view : List (Claim N F) → Bool → SeatKnowledge N F
  view claims inside = record { claims = claims; inside = inside }

  -- the seat of one pass, which is outside
  abbrev pub outside : Claim N F → SeatKnowledge N F
  outside c = view (c ∷ []) false

  -- the seat of one pass, which is inside: the value is its own until it leaves
  abbrev pub within : Claim N F → SeatKnowledge N F
  within c = view (c ∷ []) true

  -- a seat that is no pass's
  abbrev pub nobody : SeatKnowledge N F
  nobody = view [] false

  -- the claims of m passes from the number n on, which have seen nothing
  abbrev pub initial_claims : ℕ → ℕ → F → List (Claim N F)
  initial_claims n zero frame = []
  initial_claims n (suc m) frame = claim n [] frame ∷ initial_claims (n + 1) m frame

  -- the first seat has the claims of all passes, until they are dealt out
  abbrev pub initial_view : ℕ → F → SeatKnowledge N F
  initial_view passes frame = view (initial_claims 0 passes frame) false

  -- how many of the claims are of the number n
  abbrev pub shares_of : ℕ → List (Claim N F) → ℕ
  shares_of n claims = count_by (λ c. c.number == n) claims

  -- how often the seats have the number n, together
  abbrev pub share_count : ℕ → List (SeatKnowledge N F) → ℕ
  share_count n views = sum_by (λ v. shares_of n v.claims) views

  -- how many claims the seats have, together
  abbrev pub claim_count : List (SeatKnowledge N F) → ℕ
  claim_count views = sum_by (λ v. length v.claims) views

  -- one of these claims is of this number, and has this front
  abbrev pub HasClaim : List (Claim N F) → ℕ → List N → Type 0
  HasClaim claims n front = (k : ℕ) × (c : Claim N F) × (get_elem? claims k ≡ some c)
      × (c.number ≡ n) × (c.front ≡ front)

  -- the number of the first claim, which is a pass's only one; 0 where there is none
  abbrev pub head_number : List (Claim N F) → ℕ
  head_number [] = 0
  head_number (c ∷ cs) = c.number

  -- the notes that the pass of the first claim has seen; none where there is no claim
  abbrev pub head_front : List (Claim N F) → List N
  head_front [] = []
  head_front (c ∷ cs) = c.front

  -- the frame in the first claim, that of the value since the lock was made;
  -- `None` where there is no claim
  abbrev pub head_frame : List (Claim N F) → Option F
  head_frame [] = None
  head_frame (c ∷ cs) = Some c.frame
