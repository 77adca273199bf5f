-- How many of the marks pass a test, where a chain or a worker changes.
use Rattle.std.proofs.Common.{◌≡◌, ℕ, zero, suc, ◌+◌, ◌≤◌, Bool, List, [], ◌∷◌, ◌++◌, Some, map, cond, arith}
use Rattle.std.proofs.lemmas.List.Sums.{sum_by-append}
use Rattle.std.specs.Prelude.{slice_get, slice_set, flat_map}
use Rattle.std.specs.List.{count_by}
use Rattle.mely_event.specs.declared.mark.Mark.{Mark}
use Rattle.mely_core.specs.CoreQueue.{CoreQueueState}
use Rattle.mely_weave.specs.Marks.{Placed, in_chains, marks_in_system, bit}

-- the same marks, in whatever order
abbrev pub Alike : List Placed → List Placed → Type 0
Alike xs ys = (p : Placed → Bool) → count_by p xs ≡ count_by p ys

-- the marks of a chain, each with its core
abbrev pub lying : ℕ → List Mark → List Placed
lying core chain = map (λ mark. (core, mark)) chain

pub count_append : (p : Placed → Bool) (xs ys : List Placed) → count_by p (xs ++ ys) ≡ count_by p xs + count_by p ys
count_append p xs ys = sum_by-append (λ x. cond (p x) 1 0) xs ys

-- one more in front
pub count_cons : (p : Placed → Bool) (x : Placed) (xs : List Placed) → count_by p (x ∷ xs) ≡ bit (p x) + count_by p xs
count_cons p x xs = omega (arith, count_append p (x ∷ []) xs)

-- one chain changes
count_chains : (p : Placed → Bool) (core k at : ℕ) (chains : List CoreQueueState) (old new : CoreQueueState) → at ≡ core + k → slice_get chains k ≡ Some old
    → count_by p (in_chains core (slice_set chains k new)) + count_by p (lying at old.chain) ≡ count_by p (in_chains core chains) + count_by p (lying at new.chain)
unfolding in_chains
count_chains p core k at [] old new e h = cc
count_chains p core zero at (queue ∷ queues) old new e h =
    let here : at ≡ core = omega arith in
    let same : queue ≡ old = cc in
    rw (here, same) (omega (arith, count_append p (lying core new.chain) (in_chains (core + 1) queues), count_append p (lying core old.chain) (in_chains (core + 1) queues)))
count_chains p core (suc k) at (queue ∷ queues) old new e h =
    let next : at ≡ (core + 1) + k = omega arith in
    omega (arith, count_chains p (core + 1) k at queues old new next h, count_append p (lying core queue.chain) (in_chains (core + 1) (slice_set queues k new)), count_append p (lying core queue.chain) (in_chains (core + 1) queues))

-- the marks of one chain are among all
pub count_one_chain : (p : Placed → Bool) (core k at : ℕ) (chains : List CoreQueueState) (chain : CoreQueueState) → at ≡ core + k → slice_get chains k ≡ Some chain → count_by p (lying at chain.chain) ≤ count_by p (in_chains core chains)
unfolding in_chains
count_one_chain p core k at [] chain e h = cc
count_one_chain p core zero at (queue ∷ queues) chain e h =
    let here : at ≡ core = omega arith in
    let same : queue ≡ chain = cc in
    rw (here, same) (omega (arith, count_append p (lying core chain.chain) (in_chains (core + 1) queues)))
count_one_chain p core (suc k) at (queue ∷ queues) chain e h =
    let next : at ≡ (core + 1) + k = omega arith in
    omega (arith, count_one_chain p (core + 1) k at queues chain next h, count_append p (lying core queue.chain) (in_chains (core + 1) queues))

module _ {W : Type 0} (in_hand : W → List Placed) where
  -- one worker changes
  count_hands : (p : Placed → Bool) (k : ℕ) (ws : List W) (old new : W) → slice_get ws k ≡ Some old → count_by p (flat_map in_hand (slice_set ws k new)) + count_by p (in_hand old) ≡ count_by p (flat_map in_hand ws) + count_by p (in_hand new)
  count_hands p k [] old new h = cc
  count_hands p zero (w ∷ ws) old new h =
      let same : w ≡ old = cc in
      rw same (omega (arith, count_append p (in_hand new) (flat_map in_hand ws), count_append p (in_hand old) (flat_map in_hand ws)))
  count_hands p (suc k) (w ∷ ws) old new h =
      omega (arith, count_hands p k ws old new h, count_append p (in_hand w) (flat_map in_hand (slice_set ws k new)), count_append p (in_hand w) (flat_map in_hand ws))

  -- what one worker holds is among all
  pub count_one_hand : (p : Placed → Bool) (k : ℕ) (ws : List W) (w : W) → slice_get ws k ≡ Some w → count_by p (in_hand w) ≤ count_by p (flat_map in_hand ws)
  count_one_hand p k [] w h = cc
  count_one_hand p zero (v ∷ ws) w h =
      let same : v ≡ w = cc in
      rw same (omega (arith, count_append p (in_hand w) (flat_map in_hand ws)))
  count_one_hand p (suc k) (v ∷ ws) w h = omega (arith, count_one_hand p k ws w h, count_append p (in_hand v) (flat_map in_hand ws))

  -- one chain and one worker change
  pub count_held : (p : Placed → Bool) (chains : List CoreQueueState) (ws : List W) (core k : ℕ) (old new : CoreQueueState) (w v : W) → slice_get chains core ≡ Some old → slice_get ws k ≡ Some w
      → count_by p (marks_in_system in_hand (slice_set chains core new) (slice_set ws k v)) + (count_by p (lying core old.chain) + count_by p (in_hand w)) ≡ count_by p (marks_in_system in_hand chains ws) + (count_by p (lying core new.chain) + count_by p (in_hand v))
  count_held p chains ws core k old new w v g h =
      omega (arith, count_chains p 0 core core chains old new (omega arith) g, count_hands p k ws w v h, count_append p (in_chains 0 chains) (flat_map in_hand ws), count_append p (in_chains 0 (slice_set chains core new)) (flat_map in_hand (slice_set ws k v)))

  -- only one worker changes
  pub count_held_hand : (p : Placed → Bool) (chains : List CoreQueueState) (ws : List W) (k : ℕ) (w v : W) → slice_get ws k ≡ Some w
      → count_by p (marks_in_system in_hand chains (slice_set ws k v)) + count_by p (in_hand w) ≡ count_by p (marks_in_system in_hand chains ws) + count_by p (in_hand v)
  count_held_hand p chains ws k w v h =
      omega (arith, count_hands p k ws w v h, count_append p (in_chains 0 chains) (flat_map in_hand ws), count_append p (in_chains 0 chains) (flat_map in_hand (slice_set ws k v)))

  -- only one chain changes
  pub count_held_chain : (p : Placed → Bool) (chains : List CoreQueueState) (ws : List W) (core : ℕ) (old new : CoreQueueState) → slice_get chains core ≡ Some old
      → count_by p (marks_in_system in_hand (slice_set chains core new) ws) + count_by p (lying core old.chain) ≡ count_by p (marks_in_system in_hand chains ws) + count_by p (lying core new.chain)
  count_held_chain p chains ws core old new g =
      omega (arith, count_chains p 0 core core chains old new (omega arith) g, count_append p (in_chains 0 chains) (flat_map in_hand ws), count_append p (in_chains 0 (slice_set chains core new)) (flat_map in_hand ws))
