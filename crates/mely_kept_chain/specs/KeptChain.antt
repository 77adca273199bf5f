-- What a contract sees of a chain behind its lock.
use Rattle.std.specs.Prelude.{ℕ, List}
use Rattle.mely_core.specs.CoreQueue.{CoreQueueState}
use Rattle.mely_kept_chain.specs.declared.chain_note.ChainNote.{ChainNote}

-- what a chain behind its lock has, and the changes that were made of it, each with the number
-- of the pass that made it
pub record KeptChainState : Type 0 where
  pub has : CoreQueueState
  pub changes : List (ℕ × ChainNote)
