use Rattle.std.proofs.Common.{◌≡◌, length}
use Rattle.mely_weave.proofs.gathering.empty.Given as goal

abbrev pub invariant-loop : goal.invariant-loop
invariant-loop l = record {
  colours : l.chain.colours ≡ l.fn.chain.colours;
  cost : l.chain.cost ≡ l.fn.chain.cost;
  pinned : l.chain.pinned ≡ l.fn.chain.pinned;
}

abbrev pub decreases-loop : goal.decreases-loop
decreases-loop l = length l.chain.chain
