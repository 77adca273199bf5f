use Rattle.std.proofs.Common.{◌≡◌, ◌≤◌, ◌+◌, List, length, take, drop, vec_len, vec_capacity}
use Rattle.std.specs.Prelude.{reverse}
use Rattle.mely_weave.specs.Dealing.{AreDealt}
use Rattle.mely_weave.proofs.parts.spread.Given as goal

abbrev pub invariant-loop-left : goal.invariant-loop-left
invariant-loop-left g l = record {
  below : l.left ≤ l.colours;
  room : vec_len l.by_colour + l.left ≤ vec_capacity l.by_colour;
  shards : l.shards ≡ length l.fn.by_shard.items;
  dealt : (all : List g.row.T.Denot) → length all ≡ l.colours → AreDealt (λ pile. pile.items) l.shards all l.fn.by_shard.items → AreDealt (λ pile. pile.items) l.shards (take l.left all) l.by_shard.items;
  done : (all : List g.row.T.Denot) → length all ≡ l.colours → AreDealt (λ pile. pile.items) l.shards all l.fn.by_shard.items → reverse l.by_colour.items ≡ drop l.left all;
}

abbrev pub decreases-loop-left : goal.decreases-loop-left
decreases-loop-left g l = l.left
