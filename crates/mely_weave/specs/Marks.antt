-- Where the marks are, and how they stand.
use Rattle.std.specs.Prelude.{◌≡◌, ◌+◌, ◌==◌, ◌&&◌, ◌++◌, nat_le, ℕ, Bool, not, List, [], ◌∷◌, map, count_by, flat_map, if◌then◌else◌}
use Rattle.mely_event.specs.declared.colour.Colour.{Colour}
use Rattle.mely_event.specs.declared.mark.Mark.{Mark}
use Rattle.mely_core.specs.CoreQueue.{CoreQueueState}
use Rattle.mely_weave.specs.Side.{Readiness}

-- a mark, with the core that it is for
abbrev pub Placed : Type 0
Placed = ℕ × Mark

-- the marks that lie in the chains, the first of which is that of this core
unfoldable pub in_chains : ℕ → List CoreQueueState → List Placed
in_chains core [] = []
in_chains core (queue ∷ queues) =
    map (λ mark. (core, mark)) queue.chain ++ in_chains (core + 1) queues

-- all marks: those in the chains, and those that the workers hold
abbrev pub marks_in_system : {W : Type 0} → (W → List Placed) → List CoreQueueState → List W
    → List Placed
marks_in_system in_hand chains workers = in_chains 0 chains ++ flat_map in_hand workers

-- the mark is of the colour
abbrev pub is_of : Colour → Placed → Bool
is_of c p = p.1.colour.0 == c.0

-- the mark is for the owner of its colour, and says how many events were begun
-- and no more than the worth
abbrev pub is_told : (Colour → Readiness) → Placed → Bool
is_told of p = (p.0 == (of p.1.colour).owner) && ((p.1.started == (of p.1.colour).begun) && nat_le
    p.1.worth (of p.1.colour).worth)

-- one for true
abbrev pub bit : Bool → ℕ
bit b = if b then 1 else 0

-- a ready colour has one mark and every other colour has none, and there is no mark that isn't told
pub record MarksStand (of : Colour → Readiness) (marks : List Placed) : Type 0 where
  pub one : (c : Colour) → count_by (is_of c) marks ≡ bit (of c).ready
  pub told : count_by (λ p. not (is_told of p)) marks ≡ 0
