-- A chain as its lock keeps it.
use Rattle.std.specs.Prelude.{ℕ, List, [], ◌∷◌, ◌++◌, Option, None, Some, drop, fold}
use Rattle.mely_event.specs.declared.mark.Mark.{Mark}
use Rattle.mely_steal.specs.Marks.{without, after_replacement}
use Rattle.mely_steal.specs.StealQueue.{after_entry, after_mark_change}
use Rattle.mely_core.specs.CoreQueue.{CoreQueueState, empty_core, told_of}
use Rattle.mely_kept_chain.specs.declared.chain_note.ChainNote.{ChainNote}
use Rattle.mely_kept_chain.specs.declared.chain_note.ChainNote.TheVariants.{Pushed, Popped, Retold, Picked}
use Rattle.mely_kept_chain.specs.declared.kept_chain.ChainFrame.{ChainFrame}
use Rattle.mely_kept_chain.specs.KeptChain.{KeptChainState}

-- the numbers with which a chain was made
abbrev pub numbers_of : CoreQueueState → ChainFrame
numbers_of queue = record { colours = queue.colours; cost = queue.cost; pinned = queue.pinned }

-- what stays the same of a chain behind its lock
abbrev pub chain_frame : KeptChainState → ChainFrame
chain_frame kept = numbers_of kept.has

-- a chain after a report, where that found its mark
abbrev pub after_report : CoreQueueState → Option Mark → CoreQueueState
after_report queue None = queue
after_report queue (Some told) = record queue {
  chain = after_replacement told queue.chain;
  worthy = after_mark_change queue.cost queue.pinned told queue.worthy;
}

-- what a change makes of a chain
abbrev pub after_change : CoreQueueState → ChainNote → CoreQueueState
after_change queue (Pushed mark) = record queue {
  chain = queue.chain ++ mark ∷ [];
  worthy = after_entry queue.cost queue.pinned mark queue.worthy;
}
after_change queue (Popped mark) =
    record queue { chain = drop 1 queue.chain; worthy = without mark.colour queue.worthy }
after_change queue (Retold c started worth) =
    after_report queue (told_of c started worth queue.chain)
after_change queue (Picked mark) = record queue {
  chain = without mark.colour queue.chain;
  worthy = without mark.colour queue.worthy;
}

-- the chain of these numbers after these changes, by which it is what it is
abbrev pub chain_after : ChainFrame → List (ℕ × ChainNote) → CoreQueueState
chain_after of changes =
    fold (λ queue change. after_change queue change.1)
    (empty_core of.colours of.cost of.pinned) changes
