-- The history of a chain behind its lock, and what a call does at its point in it.
use Rattle.std.specs.Prelude.{◌≡◌, ◌≢◌, ℕ, List, [], ◌∷◌, ◌++◌, Bool, true, false, Option, None, Some, Result, Ok, Err, IsSome, slice_get, slice_index_or}
use Rattle.mely_event.specs.declared.colour.Colour.{Colour}
use Rattle.mely_event.specs.declared.mark.Mark.{Mark}
use Rattle.mely_event.specs.declared.there.There.{There}
use Rattle.mely_steal.specs.Marks.{mark_of}
use Rattle.mely_steal.specs.StealQueue.{pick_of}
use Rattle.mely_core.specs.CoreQueue.{told_of}
use Rattle.mely_lock.specs.Seen.{OthersSince}
use Rattle.mely_worker.specs.declared.delivery.Delivery.{Delivery}
use Rattle.mely_worker.specs.declared.delivery.Delivery.TheVariants.{Nothing, PushMark, Report}
use Rattle.mely_kept_chain.specs.declared.chain_note.ChainNote.{ChainNote}
use Rattle.mely_kept_chain.specs.declared.chain_note.ChainNote.TheVariants.{Pushed, Popped, Retold, Picked}
use Rattle.mely_kept_chain.specs.declared.kept_chain.ChainFrame.{ChainFrame}
use Rattle.mely_kept_chain.specs.Frames.{chain_after}

-- a push of the mark by the pass n: refused exactly where the chain has a mark of its colour
abbrev pub PushesAt : ChainFrame → ℕ → Mark → Result (Unit {0}) There → List (ℕ × ChainNote)
    → List (ℕ × ChainNote) → Type 0
PushesAt of n mark (Ok done) point after = (after ≡ point ++ (n, Pushed mark) ∷ [])
    × (mark_of mark.colour (chain_after of point).chain ≡ None)
PushesAt of n mark (Err there) point after = (after ≡ point)
    × IsSome (mark_of mark.colour (chain_after of point).chain)

-- a pop by the pass n: the front, and nothing exactly where the chain is empty
abbrev pub PopsAt : ChainFrame → ℕ → Option Mark → List (ℕ × ChainNote)
    → List (ℕ × ChainNote) → Type 0
PopsAt of n (Some mark) point after = (after ≡ point ++ (n, Popped mark) ∷ [])
    × (slice_get (chain_after of point).chain 0 ≡ Some mark)
PopsAt of n None point after = (after ≡ point) × ((chain_after of point).chain ≡ [])

-- a report by the pass n: late exactly where the chain has no mark of the colour and its period
abbrev pub RetellsAt : ChainFrame → ℕ → Colour → ℕ → ℕ → Bool → List (ℕ × ChainNote)
    → List (ℕ × ChainNote) → Type 0
RetellsAt of n c started worth true point after =
    (after ≡ point ++ (n, Retold c started worth) ∷ [])
    × IsSome (told_of c started worth (chain_after of point).chain)
RetellsAt of n c started worth false point after = (after ≡ point)
    × (told_of c started worth (chain_after of point).chain ≡ None)

-- a pick by the pass n: the first mark of the highest class
abbrev pub PicksAt : ChainFrame → ℕ → Option Mark → List (ℕ × ChainNote)
    → List (ℕ × ChainNote) → Type 0
PicksAt of n (Some mark) point after = (after ≡ point ++ (n, Picked mark) ∷ [])
    × (pick_of of.cost (chain_after of point).worthy ≡ Some mark)
PicksAt of n None point after = (after ≡ point)
    × (pick_of of.cost (chain_after of point).worthy ≡ None)

-- a call by the pass n: its point begins with what the pass had seen and goes on by changes of
-- others alone; what the call does there ends in the history that the pass has seen afterwards
pub record IsOnChain (n : ℕ) (front after : List (ℕ × ChainNote))
    (Does : List (ℕ × ChainNote) → List (ℕ × ChainNote) → Type 0) : Type 0 where
  pub point : List (ℕ × ChainNote)
  pub others : OthersSince (λ note. note.0) n front point
  pub does : Does point after

-- what was seen of the chain of a core, of what was seen chain by chain
abbrev pub chain_in : List (List (ℕ × ChainNote)) → ℕ → List (ℕ × ChainNote)
chain_in fronts core = slice_index_or fronts core []

-- a call by the pass n on the chain of this core; of the other chains nothing more is seen
pub record ReachesChain (n core : ℕ) (before after : List (List (ℕ × ChainNote)))
    (Does : List (ℕ × ChainNote) → List (ℕ × ChainNote) → Type 0) : Type 0 where
  pub reached : IsOnChain n (chain_in before core) (chain_in after core) Does
  pub others : (k : ℕ) → k ≢ core → chain_in after k ≡ chain_in before k

-- a delivery by the pass n: the one call on the chain of the core that it names, which may find the
-- mark there already, or be late
abbrev pub DeliversAt : ChainFrame → ℕ → Delivery → List (List (ℕ × ChainNote))
    → List (List (ℕ × ChainNote)) → Type 0
DeliversAt of n Nothing before after = after ≡ before
DeliversAt of n (PushMark core mark) before after = (answer : Result (Unit {0}) There)
    × ReachesChain n core before after (PushesAt of n mark answer)
DeliversAt of n (Report core c started worth) before after = (found : Bool)
    × ReachesChain n core before after (RetellsAt of n c started worth found)
